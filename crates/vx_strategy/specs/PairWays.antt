-- Pairs of names or paths with strategies, as contracts see them.
use Rattle.std.specs.Prelude.{ℕ, List, [], ◌∷◌}
use Rattle.vx_strategy_spec.specs.StrategyData.{StrategyData, StrategyList}
use Rattle.vx_strategy.specs.FieldWays.{with_writer}
use Rattle.vx_strategy.specs.Overridden.{Names, PathWay}
use Rattle.vx_strategy.specs.StrategyView.{strategy_data}
use Rattle.vx_strategy.specs.declared.strategy.Strategy.{Strategy}

abbrev pub NamedWay : Type 0
NamedWay = List ℕ × StrategyData

abbrev pub named_way : List ℕ × Strategy → NamedWay
named_way p = (p.0, strategy_data p.1)

-- each takes its place, in order
abbrev pub with_writers : StrategyList → List NamedWay → StrategyList
with_writers ws [] = ws
with_writers ws (p ∷ ps) = with_writers (with_writer ws p.0 p.1) ps

abbrev pub path_way : Names × Strategy → PathWay
path_way p = (p.0, strategy_data p.1)
