-- How the universe is kept: a list of entries, in the order of their paths.
use Rattle.std.specs.Prelude.{◌≡◌, ℕ, ◌<◌, ◌≤◌, Bool, List, [], ◌∷◌, map, length, take, drop, slice_index_or}
use Rattle.std.specs.declared.cmp.Ordering.TheVariants.{Less}
use Rattle.std.specs.FinMap.{from_entries}
use Rattle.vx_sequence.specs.Universe.{path_cmp, Active, IsUniverse}
use Rattle.vx_sequence.specs.declared.entries.Entry.{Entry}

abbrev pub pair_of : Entry → List ℕ × Bool
pair_of e = (e.path, e.is_open)

abbrev pub pairs : List Entry → List (List ℕ × Bool)
pairs es = map pair_of es

abbrev pub paths : List Entry → List (List ℕ)
paths es = map (λ e. e.path) es

-- each of these paths is below p
abbrev pub AreBelow : List Entry → List ℕ → Type 0
AreBelow [] p = Unit {0}
AreBelow (e ∷ es) p = (path_cmp e.path p ≡ Less) × AreBelow es p

-- p is below each of these paths
abbrev pub IsBelow : List ℕ → List Entry → Type 0
IsBelow p [] = Unit {0}
IsBelow p (e ∷ es) = (path_cmp p e.path ≡ Less) × IsBelow p es

-- each path is below those behind it
abbrev pub Ascends : List Entry → Type 0
Ascends [] = Unit {0}
Ascends (e ∷ es) = IsBelow e.path es × Ascends es

-- the entry at i has the path p
pub record IsAt (es : List Entry) (p : List ℕ) (i : ℕ) : Type 0 where
  pub within : i < length es
  pub found : (d : Entry) → (slice_index_or es i d).path ≡ p

-- no entry has the path p, which would stand at i
pub record IsGap (es : List Entry) (p : List ℕ) (i : ℕ) : Type 0 where
  pub within : i ≤ length es
  pub before : AreBelow (take i es) p
  pub behind : IsBelow p (drop i es)

-- the active paths that the entries are
abbrev pub active_of : List Entry → Active
active_of es = from_entries (pairs es)

-- what every list of entries keeps
pub record IsKept (es : List Entry) : Type 0 where
  pub ascends : Ascends es
  pub rules : IsUniverse (active_of es)
