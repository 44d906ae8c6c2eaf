use Rattle.std.proofs.Common.{◌≡◌, ◌++◌, map, drop}
use Rattle.vx_model.specs.TyView.{ty}
use Rattle.vx_aggregate_spec.specs.Aggregate.{held_aggregates}
use Rattle.vx_aggregate.specs.AggregateView.{aggregate}
use Rattle.vx_zone_spec.specs.ZoneMap.{names_of}
use Rattle.vx_zone_record.proofs.held.held_aggregates.Given as goal

abbrev pub invariant-loop-aggregate : goal.invariant-loop-aggregate
invariant-loop-aggregate l =
    map aggregate l.kept.items ++ names_of (held_aggregates (map aggregate (drop l.aggregate-index l.aggregates)) (ty l.column)) ≡ names_of (held_aggregates (map aggregate l.aggregates) (ty l.column))
