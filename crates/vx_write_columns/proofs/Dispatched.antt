-- A strategy writes at a type what it stands for there.
use Rattle.std.proofs.Common.{◌≡◌, ◌∙◌, Bool, true, List, ap}
use Rattle.vx_model.specs.Ty.{Ty}
use Rattle.vx_model.specs.ChunkData.{ChunkData}
use Rattle.vx_path.specs.Path.{root_eof}
use Rattle.vx_strategy_spec.specs.StrategyData.{StrategyData}
use Rattle.vx_strategy_spec.specs.Dispatch.{dispatch}
use Rattle.vx_plan.specs.PlanData.{Setting, Plan, Node}
use Rattle.vx_plan.specs.SourcePlan.{plan_nodes, batch_items, with_root, source_plan, taken_plan}
use Rattle.vx_plan.specs.Valid.{OfSchema}
use Rattle.vx_dispatch.proofs.DispatchLaws.{walk_dispatch}
use Rattle.vx_machine_runs.proofs.Asking.{all_of_schema}

pub dispatched : (s : Setting) (w : StrategyData) (t : Ty) (m : Bool) (bs : List ChunkData) (ended : Bool) → source_plan s w t m bs ended ≡ source_plan s (dispatch w t) t m bs ended
dispatched s w t m bs ended = ap (λ (f : Node). with_root bs (f m (batch_items 0 bs) ended root_eof)) (walk_dispatch (plan_nodes s) w t)

-- the plan of a strategy is that of the one which it stands for
pub stands_for : (s : Setting) (w v : StrategyData) (t : Ty) (m : Bool) (bs : List ChunkData) (ended : Bool) → dispatch w t ≡ v → source_plan s w t m bs ended ≡ source_plan s v t m bs ended
stands_for s w v t m bs ended e = dispatched s w t m bs ended ∙ ap (λ (z : StrategyData). source_plan s z t m bs ended) e

-- where all batches are of the schema, all are planned
pub taken_is : (s : Setting) (w : StrategyData) (t : Ty) (m : Bool) (bs : List ChunkData) (ended : Bool) → OfSchema t bs → taken_plan s w t m bs ended ≡ source_plan s w t m bs ended
taken_is s w t m bs ended typed = ap (λ (z : List ChunkData). source_plan s w t m z ended) (all_of_schema t bs typed)
