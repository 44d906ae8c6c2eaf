-- What a step did, of the whole machine; against the steps in plain data.
use Rattle.std.specs.Prelude.{◌≡◌, ℕ, ◌+◌, false, List, ◌∷◌, ◌++◌, Option, Some, None}
use Rattle.vx_model.specs.Ty.{Ty}
use Rattle.vx_model.specs.ChunkData.{ChunkData}
use Rattle.vx_tasks.specs.Run.{nth}
use Rattle.vx_order.specs.Outlet.{Outlet}
use Rattle.vx_order.specs.Answers.{IsPast, IsShared}
use Rattle.vx_plan.specs.PlanData.{Setting}
use Rattle.vx_write_answer.specs.declared.step.ActionKind.{ActionKind}
use Rattle.vx_write_answer.specs.declared.error.WriteError.{WriteError}
use Rattle.vx_machine_promises.specs.Write.{Answer}
use Rattle.vx_machine_view.specs.Machine.{Machine, WholeStep, whole_steps}
use Rattle.vx_sink.specs.declared.context.LayoutWriterContext.{LayoutWriterContext}
use Rattle.vx_machine_node.specs.Context.{setting_of}
use Rattle.vx_machine_node.specs.Outcome.{action_of, AllFit, Refused}
use Rattle.vx_machine_nodes.specs.Acting.{Behind}
use Rattle.vx_machine_tasks.specs.Acting.{CallFails}
use Rattle.vx_machine.specs.SourceActs.{AsksAt, Tells, TellsRefused}

-- The step at this place was done: what the source told in it, and what it wrote.
pub record WholeStepped (s : Setting) (all : List (List ℕ)) (picked : ℕ) (t : Ty) (to_come to_come_then : Option (List ChunkData)) (before : Outlet) (number : ℕ) (after : Outlet) (m new : Machine) (name : List ℕ) (a : ActionKind) : Type 0 where
  pub told : Answer
  pub step : WholeStep
  pub place : nth (whole_steps s all number told m) picked ≡ Some step
  pub asks : AsksAt m.phase picked told
  pub tells : Tells t to_come to_come_then told
  pub name_is : name ≡ step.name
  pub kind : a ≡ action_of step.kind
  pub unrefused : step.refusal ≡ None
  pub fits : step.misfit ≡ false
  pub counted : AllFit (step.numbers ++ step.indices)
  pub left : new ≡ step.after
  pub outlet : Behind before number step.wrote after

-- the step at this place was refused, where the tracker counts so much
pub record StepRefused (s : Setting) (all : List (List ℕ)) (picked counts : ℕ) (t : Ty) (to_come to_come_then : Option (List ChunkData)) (before : Outlet) (number : ℕ) (m : Machine) (e : WriteError) : Type 0 where
  pub told : Answer
  pub step : WholeStep
  pub place : nth (whole_steps s all number told m) picked ≡ Some step
  pub asks : AsksAt m.phase picked told
  pub tells : TellsRefused m.phase picked t to_come to_come_then e told
  pub cause : Refused step.refusal step.misfit ((counts + step.raises) ∷ step.numbers) step.indices step.wrote (IsPast before) (IsShared before) step.joined e
  pub called : CallFails step.kind e

abbrev pub StepDone : LayoutWriterContext → (ℕ → ChunkData → ChunkData) → List (List ℕ) → ℕ → Ty → Option (List ChunkData) → Option (List ChunkData) → Outlet → Outlet → Machine → Machine → List ℕ → ActionKind → Type 0
StepDone ctx image all picked t to_come to_come_then before after m new name a =
    (number : ℕ) × WholeStepped (setting_of ctx image) all picked t to_come to_come_then before number after m new name a

abbrev pub StepFails : LayoutWriterContext → (ℕ → ChunkData → ChunkData) → ℕ → List (List ℕ) → ℕ → Ty → Option (List ChunkData) → Option (List ChunkData) → Outlet → Machine → WriteError → Type 0
StepFails ctx image counts all picked t to_come to_come_then before m e =
    (number : ℕ) → StepRefused (setting_of ctx image) all picked counts t to_come to_come_then before number m e
