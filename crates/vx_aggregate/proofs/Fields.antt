-- Fields of table types, one statistic at a time.
use Rattle.std.proofs.Common.{◌≡◌, ℕ, ◌+◌, ◌<◌, List, [], ◌∷◌, ◌++◌, length, get_or, drop, map, refl, append_assoc, append-nil, rules, Option, Some, None}
use Rattle.std.proofs.lemmas.List.{drop_more, drop_all, map_push, map-append}
use Rattle.vx_model.specs.Words.{joined_by}
use Rattle.vx_model.specs.Ty.{Ty, Named}
use Rattle.vx_model.specs.TyView.{ty}
use Rattle.vx_model.specs.declared.dtype.DType.{DType}
use Rattle.vx_model.proofs.Views.{view_rules}
use Rattle.vx_aggregate_spec.specs.Aggregate.{state_type, with_state, held_aggregates}
use Rattle.vx_aggregate.specs.AggregateView.{aggregate}
use Rattle.vx_aggregate.specs.Tables.{column_field, stat_fields}
use Rattle.vx_aggregate.specs.declared.aggregate.AggregateFn.{AggregateFn}
use Rattle.vx_aggregate.specs.declared.stat.Stat.{Stat}

pub drop_held : (t : Ty) (xs : List AggregateFn) (i : ℕ) (a : AggregateFn) → i < length xs → a ≡ get_or xs i a
    → map column_field (held_aggregates (map aggregate (drop i xs)) t)
    ≡ map column_field (with_state (aggregate a) (state_type (aggregate a) t)) ++ map column_field (held_aggregates (map aggregate (drop (i + 1) xs)) t)
drop_held t xs i a lt is = rw (drop_more xs i a lt, ← is, ← map-append) refl

pub drop_stats : (t : Ty) (xs : List Stat) (i : ℕ) (s : Stat) → i < length xs → s ≡ get_or xs i s
    → joined_by (stat_fields t) (drop i xs) ≡ stat_fields t s ++ joined_by (stat_fields t) (drop (i + 1) xs)
drop_stats t xs i s lt is = rw (drop_more xs i s lt, ← is) refl

pub ruleset table_rules = (append_assoc, append-nil, map_push, drop_all, drop_held, drop_stats, view_rules)
