-- Two numbers in one.
use Rattle.std.specs.Prelude.{ℕ, zero, suc, ◌+◌}

-- the sum of the numbers up to this one
abbrev pub up_to : ℕ → ℕ
up_to zero = 0
up_to (suc n) = up_to n + suc n

-- one number, from which both can be told
abbrev pub two_in_one : ℕ → ℕ → ℕ
two_in_one a b = up_to (a + b) + a
