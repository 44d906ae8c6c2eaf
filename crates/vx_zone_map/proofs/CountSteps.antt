-- Rows of zones, in numbers of 64 bits.
use Rattle.std.proofs.Common.{◌≡◌, ℕ, zero, suc, ◌+◌, ◌-◌, ◌*◌, ◌<◌, ◌≤◌, ◌^◌, min, true, ap, arith}
use Rattle.std.specs.Prelude.{if◌then◌else◌, nat_lt, nat_le}
use Rattle.std.proofs.lemmas.Bool.Decides.{nat_tests}
use Rattle.vx_zone_spec.specs.ZoneMap.{zones_fit}

pub some_fit : (zone_len row_count n : ℕ) → 0 < n → zones_fit zone_len row_count n ≡ nat_le (min (zone_len * (n - 1)) (2 ^ 64 - 1)) row_count
some_fit zone_len row_count zero h = absurd (omega arith)
some_fit zone_len row_count (suc n) h = ap (λ k. nat_le (min (zone_len * k) (2 ^ 64 - 1)) row_count) (less n)
  where
    less : (n : ℕ) → n ≡ suc n - 1
    less n = omega arith

pub none_fit : (zone_len row_count n : ℕ) → n ≡ 0 → zones_fit zone_len row_count n ≡ true
none_fit zone_len row_count n e = ap (zones_fit zone_len row_count) e

pub rows_before : (zone_len rest n z : ℕ) → z + 1 < n → (if nat_lt (suc z) n then zone_len else rest) ≡ zone_len
rows_before zone_len rest n z h = grind (arith, nat_tests)

pub rows_last : (zone_len rest n z : ℕ) → n ≤ z + 1 → (if nat_lt (suc z) n then zone_len else rest) ≡ rest
rows_last zone_len rest n z h = grind (arith, nat_tests)

pub ruleset count_rules = (some_fit, none_fit, rows_before, rows_last)
