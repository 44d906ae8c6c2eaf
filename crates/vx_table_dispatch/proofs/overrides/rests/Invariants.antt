use Rattle.std.proofs.Common.{◌≡◌, drop}
use Rattle.vx_strategy_spec.specs.Dispatch.{below}
use Rattle.vx_strategy.specs.PathWays.{path_ways}
use Rattle.vx_table_dispatch.proofs.Below.{paths_before}
use Rattle.vx_table_dispatch.proofs.overrides.rests.Given as goal

abbrev pub invariant-loop-one : goal.invariant-loop-one
invariant-loop-one l = paths_before l.rests.items (below l.name (path_ways (drop l.one-index l.list))) ≡ below l.name (path_ways l.list)
