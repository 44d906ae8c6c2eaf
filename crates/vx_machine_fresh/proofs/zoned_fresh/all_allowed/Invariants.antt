use Rattle.std.proofs.Common.{◌≡◌, map, drop}
use Rattle.vx_aggregate.specs.AggregateView.{aggregate}
use Rattle.vx_sink.specs.ContextView.{allowed_in}
use Rattle.vx_machine_fresh.specs.Fresh.{forbidden_among}
use Rattle.vx_machine_fresh.proofs.zoned_fresh.all_allowed.Given as goal

abbrev pub invariant-aggregates : goal.invariant-aggregates
invariant-aggregates l = forbidden_among (allowed_in l.ctx) (map aggregate (drop l.aggregate-index l.aggregates)) ≡ forbidden_among (allowed_in l.ctx) (map aggregate l.aggregates)
