-- A write, and what may still come of its source.
use Rattle.std.specs.Prelude.{◌≡◌, ℕ, Bool, true, List, [], ◌∷◌, ◌++◌}
use Rattle.vx_model.specs.Ty.{Ty}
use Rattle.vx_model.specs.ChunkData.{ChunkData}
use Rattle.vx_tasks.specs.Task.{Forest}
use Rattle.vx_named_tasks.specs.Names.{Outset, root_outset}
use Rattle.vx_strategy_spec.specs.StrategyData.{StrategyData}
use Rattle.vx_plan.specs.PlanData.{Setting, Plan}
use Rattle.vx_plan.specs.SourcePlan.{source_plan}
use Rattle.vx_machine_turns.specs.Fuels.{Fuel}
use Rattle.vx_machine_turns.specs.Source.{stream_plan}
use Rattle.vx_machine_steps.specs.Tree.{Tree}
use Rattle.vx_machine_steps.specs.StartPlanned.{machine_fuel, started_at, forest_at}

pub record Write : Type 0 where
  pub setting : Setting
  pub way : StrategyData
  pub type : Ty
  pub mark : Bool
  -- what the tracker counts at the start
  pub tracker : ℕ
  pub schedule : List ℕ

-- What may come of a source: these batches of the type, and behind them its end, or one of another type.
pub record Future : Type 0 where
  pub later : List ChunkData
  pub fits : Bool

-- once it has told its end, no more comes
abbrev pub Open : Bool → Future → Type 0
Open heard f = heard ≡ true → (f.later ≡ []) × (f.fits ≡ true)

-- The machine at the start, where the batches taken by now and these come; its tree of scripts; and the plan of all. First wherever it
-- begins, then of a whole write.

abbrev pub depth : Write → Fuel
depth g = machine_fuel g.way g.type

abbrev pub begin_at : Write → Outset → List ChunkData → Future → Tree
begin_at g o taken f = started_at g.way g.type g.mark o (taken ++ f.later) f.fits

abbrev pub scripts_at : Write → Outset → List ChunkData → Future → Forest
scripts_at g o taken f = forest_at g.setting g.way g.type g.mark o (taken ++ f.later) f.fits

abbrev pub planned_at : Write → Outset → List ChunkData → Future → Plan
planned_at g o taken f = stream_plan g.setting g.way g.type g.mark o (taken ++ f.later) f.fits

abbrev pub begin : Write → List ChunkData → Future → Tree
begin g taken f = begin_at g root_outset taken f

abbrev pub scripts : Write → List ChunkData → Future → Forest
scripts g taken f = scripts_at g root_outset taken f

abbrev pub planned : Write → List ChunkData → Future → Plan
planned g taken f = source_plan g.setting g.way g.type g.mark (taken ++ f.later) f.fits

-- What the source answers in a step, if it is asked.
pub data Answer : Type 0 where
  unasked : Answer
  came : ChunkData → Answer
  over : Answer

-- the batches taken by then, whether the end is told by then, and the future as it was before

abbrev pub taken_by : List ChunkData → Answer → List ChunkData
taken_by taken unasked = taken
taken_by taken (came b) = taken ++ (b ∷ [])
taken_by taken over = taken

abbrev pub heard_by : Bool → Answer → Bool
heard_by heard unasked = heard
heard_by heard (came b) = heard
heard_by heard over = true

abbrev pub before : Answer → Future → Future
before unasked f = f
before (came b) f = record { later = b ∷ f.later; fits = f.fits }
before over f = f
