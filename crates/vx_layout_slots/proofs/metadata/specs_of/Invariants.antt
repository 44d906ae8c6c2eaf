use Rattle.std.proofs.Common.{◌≡◌, take, map}
use Rattle.vx_aggregate_spec.specs.Aggregate.{spec}
use Rattle.vx_aggregate.specs.AggregateView.{aggregate}
use Rattle.vx_metadata.specs.Views.{spec_of}
use Rattle.vx_layout_slots.proofs.metadata.specs_of.Given as goal

abbrev pub invariant-loop-aggregate : goal.invariant-loop-aggregate
invariant-loop-aggregate l = map spec_of l.specs.items ≡ map spec (map aggregate (take l.aggregate-index l.aggregates))
