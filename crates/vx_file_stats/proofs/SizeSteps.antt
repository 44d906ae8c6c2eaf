-- Numbers that stop at the greatest.
use Rattle.std.proofs.Common.{◌≡◌, ℕ, ◌+◌, ◌-◌, ◌<◌, ◌^◌, min, arith}
use Rattle.std.proofs.lemmas.Bool.Decides.{nat_tests}

-- what stopped before stops after
pub added_least : (m n k : ℕ) → k ≡ min n (2 ^ 128 - 1) → min (m + k) (2 ^ 128 - 1) ≡ min (m + n) (2 ^ 128 - 1)
added_least m n k e = omega (arith, e)

pub small_least : (n : ℕ) → n < 2 ^ 64 → min n (2 ^ 128 - 1) ≡ n
small_least n h = omega (arith, h)

pub ruleset added_rules = (added_least)

pub ruleset size_rules = (small_least)

pub ruleset counted_rules = (nat_tests)
