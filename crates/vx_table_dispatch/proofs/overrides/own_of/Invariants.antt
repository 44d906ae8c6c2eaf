use Rattle.std.proofs.Common.{◌≡◌, drop}
use Rattle.vx_strategy_spec.specs.Dispatch.{override}
use Rattle.vx_strategy.specs.PathWays.{path_ways}
use Rattle.vx_table_dispatch.proofs.overrides.own_of.Given as goal

abbrev pub invariant-loop-one : goal.invariant-loop-one
invariant-loop-one l = override l.name (path_ways (drop l.one-index l.list)) ≡ override l.name (path_ways l.list)
