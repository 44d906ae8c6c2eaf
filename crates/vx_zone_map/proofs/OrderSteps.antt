-- A value below another is at most it, and not the other way round.
use Rattle.std.proofs.Common.{◌≡◌, ℕ, ◌&&◌, Bool, true, false, not, List, refl, sym, ⊎_elim, arith}
use Rattle.std.specs.Prelude.{int_lt, ℤ}
use Rattle.std.proofs.lemmas.Int.{ints}
use Rattle.vx_model.specs.ValueData.{ValueData, bool_value, int_value, text_value, bytes_value}
use Rattle.vx_path.specs.Path.{path_le, path_lt}
use Rattle.vx_path.proofs.Path.{path_le-total}
use Rattle.vx_zone_spec.specs.ValueOrder.{value_le, value_lt}

int_below : (a b : ℤ) → int_lt a b ≡ (not (int_lt b a) && not (not (int_lt a b)))
int_below a b = grind (arith, ints)

below_by : (x y : Bool) → (y ≡ false → x ≡ true) → not y ≡ (x && not y)
below_by true true h = refl
below_by false true h = refl
below_by true false h = refl
below_by false false h = sym (h refl)

text_below : (p q : List ℕ) → path_lt p q ≡ (path_le p q && not (path_le q p))
text_below p q = below_by (path_le p q) (path_le q p) (λ f. ⊎_elim (λ t. t) (λ t. absurd (clash (path_le q p) t f)) (path_le-total p q))
  where
    clash : (b : Bool) → b ≡ true → b ≡ false → ⊥
    clash true t f = cc
    clash false t f = cc

pub below_is : (v w : ValueData) → value_lt v w ≡ (value_le v w && not (value_le w v))
below_is (bool_value true) (bool_value true) = refl
below_is (bool_value true) (bool_value false) = refl
below_is (bool_value false) (bool_value true) = refl
below_is (bool_value false) (bool_value false) = refl
below_is (int_value a) (int_value b) = int_below a b
below_is (text_value a) (text_value b) = text_below a b
below_is (bytes_value a) (bytes_value b) = text_below a b
below_is v w = refl

pub ruleset order_rules = (below_is)
