-- The segments of a write, by their numbers.
use Rattle.std.proofs.Common.{◌≡◌, ℕ, zero, suc, ◌-◌, ◌<◌, nat_lt, length, Bool, true, false, cond, List, [], ◌∷◌, Option, None, refl, arith}
use Rattle.std.specs.Prelude.{slice_get}
use mathlib.Core.Path.{fun_ext}
use Rattle.vx_plan.specs.Number.{element, segment_at}
use Rattle.vx_segment_map.specs.declared.segments.SegmentMap.{SegmentMap}
use Rattle.vx_segment_map.specs.SegmentView.{segment_in}

element_is : {A : Type 0} (xs : List A) (n : ℕ) → slice_get xs n ≡ element xs n
element_is [] n = refl
element_is (x ∷ xs) zero = refl
element_is (x ∷ xs) (suc n) = element_is xs n

none_there : (b d : Bool) → cond {A = Option (List ℕ)} b None None ≡ cond d None None
none_there true true = refl
none_there true false = refl
none_there false true = refl
none_there false false = refl

-- a map of the segments, and where there are none a map from any number
pub in_map : (m : SegmentMap) (bs : List (List ℕ)) (first : ℕ) → m.list.items ≡ bs → (0 < length bs → m.first ≡ first) → segment_in m ≡ segment_at first bs
in_map m [] first items same = fun_ext (λ n. rw items (none_there (nat_lt n m.first) (nat_lt n first)))
in_map m (b ∷ bs) first items same = fun_ext (λ n. rw (same (omega arith), items, element_is (b ∷ bs) (n - first)) refl)
