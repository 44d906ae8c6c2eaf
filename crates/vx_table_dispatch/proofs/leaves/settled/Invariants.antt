use Rattle.std.proofs.Common.{◌≡◌}
use Rattle.vx_model.specs.TyView.{ty}
use Rattle.vx_strategy.specs.StrategyView.{strategy_data}
use Rattle.vx_table_dispatch.specs.Settled.{settled, nested}
use Rattle.vx_table_dispatch.proofs.leaves.settled.Given as goal

abbrev pub invariant-further : goal.invariant-further
invariant-further l = settled (strategy_data l.found) (ty l.dtype) ≡ settled (strategy_data l.strategy) (ty l.dtype)

abbrev pub decreases-further : goal.decreases-further
decreases-further l = nested (strategy_data l.found)
