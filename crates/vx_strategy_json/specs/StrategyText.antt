-- The strategy, the wrapper and the aggregate that a JSON value stands for.
use Rattle.std.specs.Prelude.{ℕ, zero, suc, Option, None}
use Rattle.serde_json.specs.Data.{Data, depth}
use Rattle.vx_strategy_spec.specs.StrategyData.{StrategyData}
use Rattle.vx_strategy_json.specs.Forms.{Wrap, form, wrap_of as wrap_form}

-- of values that nest less than n levels
unfoldable pub strategy_in : ℕ → Data → Option StrategyData
strategy_in zero d = None
strategy_in (suc n) d = form (strategy_in n) d

-- every strategy, since a value nests as deep as it does
unfoldable pub strategy_of : Data → Option StrategyData
strategy_of d = strategy_in (suc (depth d)) d

abbrev pub wrap_of : Data → Option Wrap
wrap_of d = wrap_form strategy_of d
