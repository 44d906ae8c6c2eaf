-- Segments get their numbers in order of path.
use Rattle.std.specs.Prelude.{ℕ, zero, suc, ◌+◌, ◌-◌, nat_lt, bytes_eq, if◌then◌else◌, List, [], ◌∷◌, Option, Some, None}
use Rattle.vx_path.specs.Sort.{sort_by}
use Rattle.vx_layout_spec.specs.LayoutTree.{LayoutData, renamed}
use Rattle.vx_plan.specs.PlanData.{Pair, Plan, stored}

abbrev pub path_of : Pair → List ℕ
path_of p = p.0

-- the pairs in order of their paths
abbrev pub sorted : List Pair → List Pair
sorted ps = sort_by path_of ps

-- the segments, in order
abbrev pub segments : Plan → List (List ℕ)
segments p = stored (sorted p.pairs)

-- the place of the first pair with the path
abbrev pub place_of : List ℕ → List Pair → ℕ
place_of path [] = 0
place_of path (p ∷ ps) = if bytes_eq path p.0 then 0 else suc (place_of path ps)

-- the k-th pair in order, from 0, is segment first + k
abbrev pub number_of : List Pair → ℕ → List ℕ → ℕ
number_of ps first path = first + place_of path (sorted ps)

-- the layout with its segments numbered
abbrev pub numbered : Plan → ℕ → LayoutData ℕ
numbered p first = renamed (number_of p.pairs first) p.layout

-- the element at a place
abbrev pub element : {A : Type 0} → List A → ℕ → Option A
element [] n = None
element (x ∷ xs) zero = Some x
element (x ∷ xs) (suc n) = element xs n

-- segment n, where the first has the number `first`
abbrev pub segment_at : ℕ → List (List ℕ) → ℕ → Option (List ℕ)
segment_at first list n = if nat_lt n first then None else element list (n - first)
