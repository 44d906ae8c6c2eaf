-- The universe of paths: the set of the active ones, each marked open or closed.
use Rattle.std.specs.Prelude.{◌≡◌, ℕ, ◌+◌, Bool, true, false, List, [], ◌∷◌, length, IsTrue, IsFalse, Some}
use Rattle.std.specs.declared.cmp.Ordering.{Ordering}
use Rattle.std.specs.Ordering.{nat_cmp}
use Rattle.std.specs.Cmp.Lexicographic.{slice_cmp}
use Rattle.std.specs.FinMap as map
use Rattle.std.specs.List.{filter}
use Rattle.vx_path.specs.Path.{path_le, path_lt, begins, under, Eof, raised, eof_path, next}

-- the order of paths: lexicographic, a prefix before its extensions
abbrev pub path_cmp : List ℕ → List ℕ → Ordering
path_cmp = slice_cmp nat_cmp

-- the active paths, each with its mark: true where it is open, as a pointer's
abbrev pub Active : Type 0
Active = map.FinMap path_cmp Bool

abbrev pub IsActive : Active → List ℕ → Type 0
IsActive u p = IsTrue (map.contains_key u p)

abbrev pub IsOpen : Active → List ℕ → Type 0
IsOpen u p = map.get u p ≡ Some true

-- p is at most each active path
abbrev pub IsLeast : Active → List ℕ → Type 0
IsLeast u p = (q : List ℕ) → IsActive u q → IsTrue (path_le p q)

-- how many active paths are below p
abbrev pub rank : Active → List ℕ → ℕ
rank u p = length (filter (λ q. path_lt q p) (map.keys u))

-- the two rules of a universe
pub record IsUniverse (u : Active) : Type 0 where
  -- no active path is a prefix of another
  pub prefix_free : (p q : List ℕ) → IsActive u p → IsActive u q → IsTrue (begins p q) → p ≡ q
  -- beside an open path e no active path begins with e + 1, e + 2, ..
  pub nothing_behind : (e : Eof) (j : ℕ) (q : List ℕ) → IsOpen u (eof_path e) → IsActive u q → IsFalse (begins (raised e (j + 1)) q)

-- the two parts of a path that is not empty: the path that it stands under, and its last index
abbrev pub stem_of : List ℕ → List ℕ
stem_of [] = []
stem_of (i ∷ []) = []
stem_of (i ∷ j ∷ p) = i ∷ stem_of (j ∷ p)

abbrev pub last_of : List ℕ → ℕ
last_of [] = 0
last_of (i ∷ []) = i
last_of (i ∷ j ∷ p) = last_of (j ∷ p)

abbrev pub place_of : List ℕ → Eof
place_of p = record { stem = stem_of p; last = last_of p }

-- where the first pointer stands: at the path [0]
abbrev pub root : Eof
root = record { stem = []; last = 0 }

-- the universe of one pointer's path alone
abbrev pub only : Eof → Active
only e = map.insert map.empty (eof_path e) true

-- what `advance` of the pointer at e leaves: its path closed, and the next sibling open
abbrev pub advanced : Active → Eof → Active
advanced u e = map.insert (map.insert u (eof_path e) false) (eof_path (next e)) true

-- what `descend` of the id p leaves: its first child open in its place
abbrev pub descended : Active → List ℕ → Active
descended u p = map.insert (map.remove u p) (under p 0) true

-- what `split_off` of the pointer at e leaves: `advance`, and then `descend` of the id
abbrev pub split_from : Active → Eof → Active
split_from u e = descended (advanced u e) (eof_path e)

-- what `release` of the id p leaves
abbrev pub released : Active → List ℕ → Active
released u p = map.remove u p
