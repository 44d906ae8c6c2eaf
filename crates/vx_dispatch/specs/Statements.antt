-- The law of dispatch.
use Rattle.std.specs.Prelude.{◌≡◌, true}
use Rattle.vx_model.specs.Ty.{Ty}
use Rattle.vx_plan.specs.PlanData.{Setting}
use Rattle.vx_strategy_spec.specs.StrategyData.{StrategyData}
use Rattle.vx_strategy_spec.specs.Admitted.{is_admitted}
use Rattle.vx_plan.specs.SourcePlan.{plan}
use Rattle.vx_strategy_spec.specs.Dispatch.{dispatch}

-- What a strategy stands for at a type writes there what the strategy writes, and constructors can make it.
pub record Dispatched (s : Setting) (w : StrategyData) (t : Ty) : Type 0 where
  pub same : plan s w t ≡ plan s (dispatch w t) t
  pub admitted : is_admitted w ≡ true → is_admitted (dispatch w t) ≡ true

abbrev pub TablesAreDispatched : Type 0
TablesAreDispatched = (s : Setting) (w : StrategyData) (t : Ty) → Dispatched s w t
