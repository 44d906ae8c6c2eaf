-- Two numbers in one can be told apart.
use Rattle.std.proofs.Common.{◌≡◌, ℕ, zero, suc, ◌+◌, ◌<◌, Bool, true, false, ltb, refl, ap, subst, arith}
use Rattle.std.proofs.lemmas.Bool.{ltb-true, ltb-false}
use Rattle.vx_write.specs.Lent.{up_to, two_in_one}

above : (s t : ℕ) → s < t → up_to s + s < up_to t
above s zero h = absurd (omega (arith, h))
above s (suc u) h = by_place (λ less. above s u less) (ltb s u) refl
  where
    by_place : (s < u → up_to s + s < up_to u) → (b : Bool) → ltb s u ≡ b → up_to s + s < up_to (suc u)
    by_place below true e = omega (arith, below (ltb-true s u e))
    by_place below false e = let is : s ≡ u = omega (arith, h, ltb-false s u e) in subst (λ v. up_to s + s < up_to v + suc v) is (omega arith)

same_sum : (a b c d : ℕ) → two_in_one a b ≡ two_in_one c d → a + b ≡ c + d
same_sum a b c d e = by_place (ltb (a + b) (c + d)) (ltb (c + d) (a + b)) refl refl
  where
    by_place : (x y : Bool) → ltb (a + b) (c + d) ≡ x → ltb (c + d) (a + b) ≡ y → a + b ≡ c + d
    by_place true y p q = absurd (omega (arith, e, above (a + b) (c + d) (ltb-true (a + b) (c + d) p)))
    by_place false true p q = absurd (omega (arith, e, above (c + d) (a + b) (ltb-true (c + d) (a + b) q)))
    by_place false false p q = omega (arith, ltb-false (a + b) (c + d) p, ltb-false (c + d) (a + b) q)

pub first_told : (a b c d : ℕ) → two_in_one a b ≡ two_in_one c d → a ≡ c
first_told a b c d e = omega (arith, e, ap up_to (same_sum a b c d e))

pub second_told : (a b c d : ℕ) → two_in_one a b ≡ two_in_one c d → b ≡ d
second_told a b c d e = omega (arith, first_told a b c d e, same_sum a b c d e)
