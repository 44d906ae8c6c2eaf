-- Paths that are taken out of a list, one by one, by their places.
use Rattle.std.specs.Prelude.{◌≡◌, ◌≢◌, ◌+◌, ◌≤◌, ℕ, List, [], ◌∷◌, ◌++◌, length, slice_index_or, slice_set, vec_len}
use Rattle.std.specs.Global.{Vec}
use Rattle.std.specs.List.{AllPairs}
use Rattle.std.specs.Vec.{vec_capacity}
use Rattle.vx_path.specs.declared.owned.Path.{Path}

-- the path at the place; past the list's end the empty one
abbrev pub path_at : List (List ℕ) → ℕ → List ℕ
path_at ps n = slice_index_or ps n []

-- no number stands twice
abbrev pub Apart : List ℕ → Type 0
Apart ns = AllPairs (λ m n. m ≢ n) ns

-- the paths that are found at these places, where each that is taken leaves an empty one
abbrev pub taken : List ℕ → List (List ℕ) → List (List ℕ)
taken [] ps = []
taken (n ∷ ns) ps = path_at ps n ∷ taken ns (slice_set ps n [])

-- what they leave
abbrev pub emptied : List ℕ → List (List ℕ) → List (List ℕ)
emptied [] ps = ps
emptied (n ∷ ns) ps = emptied ns (slice_set ps n [])

-- one for each number is taken, and put behind the others; none moved for want of room
pub record Took (ns : List ℕ) (ps left : List (List ℕ)) (before after : Vec Path) : Type 0 where
  pub behind : after.items ≡ before.items ++ taken ns ps
  pub leaves : left ≡ emptied ns ps
  pub count : vec_len after ≡ vec_len before + length ns
  pub capacity : vec_capacity after ≡ vec_capacity before

-- that many may be put behind the others
abbrev pub HasRoom : List ℕ → Vec Path → Type 0
HasRoom ns v = vec_len v + length ns ≤ vec_capacity v
