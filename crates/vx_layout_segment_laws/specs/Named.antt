-- The segments that a plan's layout names, against those that the plan writes.
use Rattle.std.specs.Prelude.{ℕ, ◌<◌, ◌≡◌, ◌≢◌, List, [], length, map, slice_index_or}
use Rattle.std.specs.List.{AllPairs}
use Rattle.std.specs.List.Sorted.{IsPermutation}
use Rattle.vx_model.specs.Words.{total_by}
use Rattle.vx_path.specs.Lists.{In, Each}
use Rattle.vx_path.specs.Path.{Scattered}
use Rattle.vx_layout_segments.specs.Segments.{segments_in}
use Rattle.vx_plan.specs.PlanData.{Plan, paths}
use Rattle.vx_plan.specs.Number.{sorted, place_of, numbered}

-- The layout names the paths of the plan's pairs, each as often as it stands there, in whatever order.
abbrev pub SegmentsArePairs : Plan → Type 0
SegmentsArePairs p = IsPermutation (paths p.pairs) (segments_in p.layout)

-- no element stands twice
abbrev pub StandOnce : {A : Type 0} → List A → Type 0
StandOnce xs = AllPairs (λ x y. x ≢ y) xs

-- the place of a path among the plan's, in order
abbrev pub place_in : Plan → List ℕ → ℕ
place_in p path = place_of path (sorted p.pairs)

-- the places of the layout's segments, in pre-order
abbrev pub places_in : Plan → List ℕ
places_in p = map (place_in p) (segments_in p.layout)

-- What follows for the layout's segments.
pub record NamesEach (p : Plan) : Type 0 where
  -- whatever is counted of a path
  pub totals : (f : List ℕ → ℕ) → total_by f (segments_in p.layout) ≡ total_by f (paths p.pairs)
  pub as_many : length (segments_in p.layout) ≡ length p.pairs
  pub among : Each (λ path. In path (paths p.pairs)) (segments_in p.layout)
  pub once : Scattered (paths p.pairs) → StandOnce (segments_in p.layout)
  -- and with the pairs in order
  pub shuffled : IsPermutation (paths (sorted p.pairs)) (segments_in p.layout)
  pub as_many_sorted : length (segments_in p.layout) ≡ length (sorted p.pairs)
  pub among_sorted : Each (λ path. In path (paths (sorted p.pairs))) (segments_in p.layout)
  -- each one's place is below their number, another's is another, and there it stands
  pub places_below : Each (λ n. n < length (sorted p.pairs)) (places_in p)
  pub places_once : Scattered (paths p.pairs) → StandOnce (places_in p)
  pub places_found : map (λ n. slice_index_or (paths (sorted p.pairs)) n []) (places_in p) ≡ segments_in p.layout
  -- they are the numbers of the layout that is numbered from 0
  pub places_are_numbers : segments_in (numbered p 0) ≡ places_in p
