-- Tests joined by `&&`, and tests on numbers.
use Rattle.std.proofs.Common.{◌≡◌, ℕ, ◌<◌, ◌≤◌, ◌^◌, ◌&&◌, nat_lt, Bool, true, false, refl, arith}
use Rattle.std.specs.Prelude.{nat_le}
use Rattle.std.proofs.lemmas.Bool.Decides.{nat_tests}

pub below : (n : ℕ) → nat_lt n (2 ^ 64) ≡ true → n < 2 ^ 64
below n h = grind (arith, nat_tests)

pub below_test : (n : ℕ) → n < 2 ^ 64 → nat_lt n (2 ^ 64) ≡ true
below_test n h = grind (arith, nat_tests)

pub tests_le : (a b : ℕ) → nat_le a b ≡ true → a ≤ b
tests_le a b h = grind (arith, nat_tests)

pub le_test : (a b : ℕ) → a ≤ b → nat_le a b ≡ true
le_test a b h = grind (arith, nat_tests)
