-- The order of scalars, and the choice of one of two.
use Rattle.std.proofs.Common.{◌≡◌, ℕ, Bool, true, false, List, refl, arith}
use Rattle.std.specs.Prelude.{if◌then◌else◌, Some}
use Rattle.std.specs.Ordering.{nat_cmp, is_le, is_some_and}
use Rattle.std.specs.Cmp.Lexicographic.{slice_partial_cmp}
use Rattle.std.proofs.lemmas.Bool.Decides.{nat_tests}
use Rattle.std.proofs.lemmas.Cmp.{same_from_slice_cmp_tested}
use Rattle.vx_model.specs.ValueData.{ValueData, null_value, is_null_value}
use Rattle.vx_path.specs.Path.{path_le}
use Rattle.vx_path.proofs.Order.{is_path_le}
use Rattle.vx_zone_spec.specs.ValueOrder.{value_le, greater, lesser}

pub is_path_le_tested : (p q : List ℕ) (b : Bool) → b ≡ is_some_and is_le (slice_partial_cmp (λ x y. Some (nat_cmp x y)) p q) → b ≡ path_le p q
is_path_le_tested = same_from_slice_cmp_tested nat_cmp is_le path_le refl (λ _ _. refl) (λ _ _. refl) (λ x y xs ys o h. grind (arith, nat_tests))

pub ruleset order_rules = (is_path_le, is_path_le_tested)

-- ---- which of two is taken

pub greater_null : (v w : ValueData) → is_null_value v ≡ true → greater v w ≡ w
greater_null null_value w h = refl
greater_null v w h = cc

pub greater_other : (v w : ValueData) → is_null_value v ≡ false → is_null_value w ≡ true → greater v w ≡ v
greater_other null_value w f h = cc
greater_other v null_value f h = refl
greater_other v w f h = cc

greater_is : (v w : ValueData) → is_null_value v ≡ false → is_null_value w ≡ false → greater v w ≡ (if value_le v w then w else v)
greater_is null_value w f g = cc
greater_is v null_value f g = cc
greater_is v w f g = refl

pub greater_takes : (v w : ValueData) → is_null_value v ≡ false → is_null_value w ≡ false → value_le v w ≡ true → greater v w ≡ w
greater_takes v w f g h = rw (greater_is v w f g, h) refl

pub greater_stays : (v w : ValueData) → is_null_value v ≡ false → is_null_value w ≡ false → value_le v w ≡ false → greater v w ≡ v
greater_stays v w f g h = rw (greater_is v w f g, h) refl

pub lesser_null : (v w : ValueData) → is_null_value v ≡ true → lesser v w ≡ w
lesser_null null_value w h = refl
lesser_null v w h = cc

pub lesser_other : (v w : ValueData) → is_null_value v ≡ false → is_null_value w ≡ true → lesser v w ≡ v
lesser_other null_value w f h = cc
lesser_other v null_value f h = refl
lesser_other v w f h = cc

lesser_is : (v w : ValueData) → is_null_value v ≡ false → is_null_value w ≡ false → lesser v w ≡ (if value_le v w then v else w)
lesser_is null_value w f g = cc
lesser_is v null_value f g = cc
lesser_is v w f g = refl

pub lesser_stays : (v w : ValueData) → is_null_value v ≡ false → is_null_value w ≡ false → value_le v w ≡ true → lesser v w ≡ v
lesser_stays v w f g h = rw (lesser_is v w f g, h) refl

pub lesser_takes : (v w : ValueData) → is_null_value v ≡ false → is_null_value w ≡ false → value_le v w ≡ false → lesser v w ≡ w
lesser_takes v w f g h = rw (lesser_is v w f g, h) refl

pub ruleset choice_rules = (greater_null, greater_other, greater_takes, greater_stays, lesser_null, lesser_other, lesser_stays, lesser_takes)
