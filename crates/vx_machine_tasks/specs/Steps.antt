-- What a step did, of a task and all below it; against the steps in plain data.
use Rattle.std.specs.Prelude.{◌≡◌, ℕ, ◌+◌, false, List, ◌∷◌, ◌++◌, Some, None}
use Rattle.vx_model.specs.ChunkData.{ChunkData}
use Rattle.vx_tasks.specs.Run.{nth}
use Rattle.vx_order.specs.Outlet.{Outlet}
use Rattle.vx_order.specs.Answers.{IsPast, IsShared}
use Rattle.vx_plan.specs.PlanData.{Setting}
use Rattle.vx_write_answer.specs.declared.step.ActionKind.{ActionKind}
use Rattle.vx_write_answer.specs.declared.error.WriteError.{WriteError}
use Rattle.vx_machine_state.specs.State.{Tasks}
use Rattle.vx_machine_state.specs.Moves.{Step as TaskStep, steps}
use Rattle.vx_sink.specs.declared.context.LayoutWriterContext.{LayoutWriterContext}
use Rattle.vx_sink.specs.ContextView.{counted as bytes_counted}
use Rattle.vx_machine_node.specs.Context.{setting_of}
use Rattle.vx_machine_node.specs.Outcome.{action_of, AllFit, Refused}
use Rattle.vx_machine_nodes.specs.Acting.{Behind}
use Rattle.vx_machine_acts.specs.Acting.{CallFails}

-- The step at this place was done, by the task of this name, and left these tasks; what it wrote got this number.
pub record TaskStepped (s : Setting) (all : List (List ℕ)) (k : ℕ) (before : Outlet) (number : ℕ) (after : Outlet) (cs new : Tasks) (name : List ℕ) (a : ActionKind) : Type 0 where
  pub step : TaskStep
  pub place : nth (steps s all number cs) k ≡ Some step
  pub name_is : name ≡ step.name
  pub kind : a ≡ action_of step.kind
  pub unrefused : step.refusal ≡ None
  pub fits : step.misfit ≡ false
  pub counted : AllFit (step.numbers ++ step.indices)
  pub left : new ≡ step.after
  pub outlet : Behind before number step.wrote after

-- the step at this place was refused, where the tracker counts so much
pub record TaskRefused (s : Setting) (all : List (List ℕ)) (k counts : ℕ) (before : Outlet) (number : ℕ) (cs : Tasks) (e : WriteError) : Type 0 where
  pub step : TaskStep
  pub place : nth (steps s all number cs) k ≡ Some step
  pub cause : Refused step.refusal step.misfit ((counts + step.raises) ∷ step.numbers) step.indices step.wrote (IsPast before) (IsShared before) step.joined e
  pub called : CallFails step.kind e

-- whatever images there are, of which no act here asks: it was done where the next segment got some number, and is refused whatever
-- that would be

abbrev pub TaskDone : LayoutWriterContext → (ℕ → ChunkData → ChunkData) → List (List ℕ) → ℕ → Outlet → Outlet → Tasks → Tasks → List ℕ → ActionKind → Type 0
TaskDone ctx image all k before after cs new name a = (number : ℕ) × TaskStepped (setting_of ctx image) all k before number after cs new name a

abbrev pub TaskFails : LayoutWriterContext → (ℕ → ChunkData → ChunkData) → List (List ℕ) → ℕ → Outlet → Tasks → WriteError → Type 0
TaskFails ctx image all k before cs e = (number : ℕ) → TaskRefused (setting_of ctx image) all k (bytes_counted ctx) before number cs e
