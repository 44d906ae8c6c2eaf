use Rattle.std.proofs.Common.{refl}
use Rattle.vx_strategy_spec.specs.StrategyData.{no_ways}
use Rattle.vx_strategy.specs.AdmittedStrategy.{item_overrides}
use Rattle.vx_strategy.proofs.overrides.Overrides.none.Goals as goal

pub returns : goal.returns
returns c = rw c.new.ensures.items (item_overrides no_ways refl)
