use Rattle.std.proofs.Common.{◌≡◌, ◌≤◌, take, length}
use Rattle.vx_strategy_spec.specs.Dispatch.{wrapped}
use Rattle.vx_strategy.specs.StrategyView.{strategy_data}
use Rattle.vx_strategy.specs.WrapViews.{wraps}
use Rattle.vx_table_dispatch.proofs.at_type.in_wrappers.Given as goal

abbrev pub invariant-loop-left : goal.invariant-loop-left
invariant-loop-left l = record {
  within : l.left ≤ length l.wrappers;
  same : wrapped (wraps (take l.left l.wrappers)) (strategy_data l.strategy) ≡ wrapped (wraps l.wrappers) (strategy_data l.initial.strategy);
}

abbrev pub decreases-loop-left : goal.decreases-loop-left
decreases-loop-left l = l.left
