-- Facts of what is admitted, one by one.
use Rattle.std.proofs.Common.{◌≡◌, ℕ, ◌+◌, ◌<◌, ◌^◌, ◌&&◌, Bool, true, false, List, length, get_or, drop, map, refl, arith}
use Rattle.std.specs.Prelude.{nat_lt}
use Rattle.std.proofs.lemmas.List.{drop_more, drop_all, length-map}
use Rattle.std.proofs.lemmas.Bool.Decides.{nat_tests}
use Rattle.std.proofs.lemmas.Bool.{and_from}
use Rattle.vx_model.specs.Words.{all_by}
use Rattle.vx_aggregate_spec.specs.Aggregate.{has_options}
use Rattle.vx_aggregate.specs.AggregateView.{aggregate}
use Rattle.vx_aggregate.specs.declared.aggregate.AggregateFn.{AggregateFn}

pub above_zero : (n : ℕ) → 0 < n → nat_lt 0 n ≡ true
above_zero n h = grind (arith, nat_tests)

pub below_u32 : (n : ℕ) → n < 2 ^ 32 → nat_lt n (2 ^ 32) ≡ true
below_u32 n h = grind (arith, nat_tests)

pub drop_aggregates : (xs : List AggregateFn) (i : ℕ) (a : AggregateFn) → i < length xs → a ≡ get_or xs i a
    → all_by has_options (map aggregate (drop i xs)) ≡ (has_options (aggregate a) && all_by has_options (map aggregate (drop (i + 1) xs)))
drop_aggregates xs i a lt is = rw (drop_more xs i a lt, ← is) refl

pub ruleset aggregate_rules = (and_from, above_zero, below_u32, length-map, drop_all, drop_aggregates)
