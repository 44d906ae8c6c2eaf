use Rattle.std.proofs.Common.{◌≡◌, ◌++◌, map, drop}
use Rattle.vx_model.specs.TyView.{ty, field_ty}
use Rattle.vx_aggregate_spec.specs.Aggregate.{held_aggregates}
use Rattle.vx_aggregate.specs.AggregateView.{aggregate}
use Rattle.vx_aggregate.specs.Tables.{column_field}
use Rattle.vx_aggregate.proofs.table.aggregate_stats_table_dtype.Given as goal

abbrev pub invariant-loop-aggregate : goal.invariant-loop-aggregate
invariant-loop-aggregate l =
    map field_ty l.fields.items ++ map column_field (held_aggregates (map aggregate (drop l.aggregate-index l.aggregates)) (ty l.column))
    ≡ map column_field (held_aggregates (map aggregate l.aggregates) (ty l.column))
