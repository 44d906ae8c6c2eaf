use Rattle.std.proofs.Common.{◌≡◌, map}
use Rattle.vx_model.specs.TyView.{ty}
use Rattle.vx_aggregate_spec.specs.Aggregate.{held_aggregates}
use Rattle.vx_aggregate.specs.AggregateView.{aggregate}
use Rattle.vx_zone_table.specs.BuilderView.{gathered}
use Rattle.vx_chunk_cases.proofs.zones.push_zones.Given as goal

abbrev pub invariant-loop-batch : goal.invariant-loop-batch
invariant-loop-batch l = (gathered l.builder).columns ≡ held_aggregates (map aggregate l.aggregates) (ty l.case.dtype.now)
