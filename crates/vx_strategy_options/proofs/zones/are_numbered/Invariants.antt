use Rattle.std.proofs.Common.{◌≡◌, map, drop}
use Rattle.vx_model.specs.Words.{all_by}
use Rattle.vx_aggregate_spec.specs.Aggregate.{has_options}
use Rattle.vx_aggregate.specs.AggregateView.{aggregate}
use Rattle.vx_strategy_options.proofs.zones.are_numbered.Given as goal

abbrev pub invariant-loop-aggregate : goal.invariant-loop-aggregate
invariant-loop-aggregate l =
    all_by has_options (map aggregate (drop l.aggregate-index l.aggregates)) ≡ all_by has_options (map aggregate l.aggregates)
