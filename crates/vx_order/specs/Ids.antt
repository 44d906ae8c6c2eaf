-- What calls on several ids leave.
use Rattle.std.specs.Prelude.{◌≡◌, ◌⊎◌, ℕ, zero, suc, false, List, [], ◌∷◌, ◌++◌}
use Rattle.std.specs.FinMap as map
use Rattle.vx_path.specs.Path.{under, Eof, eof_path, next}
use Rattle.vx_sequence.specs.Universe.{Active, advanced, released}

-- the paths of the first n children of p, in order
abbrev pub children : List ℕ → ℕ → List (List ℕ)
children p zero = []
children p (suc n) = children p n ++ (under p n ∷ [])

-- u, and the first n children of p as ids
abbrev pub with_children : Active → List ℕ → ℕ → Active
with_children u p zero = u
with_children u p (suc n) = map.insert (with_children u p n) (under p n) false

-- What a refused `split_off` of the pointer e leaves: all as before, or the pointer at the next sibling, and nothing at e.
abbrev pub SplitRefused : Active → Eof → Active → Eof → Type 0
SplitRefused u e v f = ((f ≡ e) × (v ≡ u)) ⊎ ((f ≡ next e) × (v ≡ released (advanced u e) (eof_path e)))
