use Rattle.std.proofs.Common.{◌≡◌, ◌++◌, map, drop}
use Rattle.vx_model.specs.TyView.{ty}
use Rattle.vx_aggregate_spec.specs.Aggregate.{held_aggregates}
use Rattle.vx_aggregate.specs.AggregateView.{aggregate}
use Rattle.vx_zone_table.specs.Columns.{held_column}
use Rattle.vx_zone_table.proofs.held.held_columns.Given as goal

abbrev pub invariant-loop-aggregate : goal.invariant-loop-aggregate
invariant-loop-aggregate l =
    map held_column l.columns.items ++ held_aggregates (map aggregate (drop l.aggregate-index l.aggregates)) (ty l.column) ≡ held_aggregates (map aggregate l.aggregates) (ty l.column)
