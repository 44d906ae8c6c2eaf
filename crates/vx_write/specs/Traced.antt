-- What the steps of a write show, against the tasks of what was planned.
use Rattle.std.specs.Prelude.{◌≡◌, ◌⊎◌, ◌+◌, ◌<◌, ℕ, Bool, true, false, List, [], length, take, Option, Some}
use Rattle.vx_model.specs.Ty.{Ty}
use Rattle.vx_model.specs.ChunkData.{ChunkData}
use Rattle.vx_tasks.specs.Task.{Forest}
use Rattle.vx_tasks.specs.Run.{trace, work}
use Rattle.vx_cut_laws.specs.Cut.{cut}
use Rattle.vx_strategy_spec.specs.StrategyData.{StrategyData}
use Rattle.vx_plan.specs.PlanData.{Setting}
use Rattle.vx_plan.specs.SourcePlan.{of_schema}
use Rattle.vx_plan.specs.Valid.{OfSchema}
use Rattle.vx_machine_steps.specs.StartPlanned.{started_forest}
use Rattle.vx_write_answer.specs.declared.step.Step.{Step}
use Rattle.vx_write_answer.specs.declared.error.WriteError.{WriteError}
use Rattle.vx_write_answer.specs.declared.error.WriteError.TheVariants.{BatchType, NotStruct, DuplicateField, ManyChunks, EmptyList, ZoneCut, ForbiddenAggregate, ForbiddenEncoding}
use Rattle.vx_machine_view.specs.Steps.{AllPairs}
use Rattle.vx_machine.specs.Calls.{reads_in}
pub use Rattle.vx_machine.specs.Progress.{ShowsNote}
pub use Rattle.vx_machine.specs.SourceActs.{IsLate}

-- the scripts of the tasks of these batches, in which a refusal ends its task
abbrev pub tasks_of : Setting → StrategyData → Ty → Bool → List ChunkData → Bool → Forest
tasks_of s w t m batches ended = cut (started_forest s w t m batches ended)

-- The steps are those of the tasks of these batches under the schedule, as many as they have acts.
pub record IsTraced (s : Setting) (w : StrategyData) (t : Ty) (m : Bool) (schedule : List ℕ) (batches : List ChunkData) (steps : List Step) : Type 0 where
  pub steps_are : AllPairs ShowsNote steps (trace (tasks_of s w t m batches true) schedule)
  pub count : length steps ≡ work (tasks_of s w t m batches true)
  -- the source was asked for each batch, and for its end
  pub asked : reads_in steps ≡ length batches + 1

-- where the source tells its batches
abbrev pub Traced : Setting → StrategyData → Ty → Bool → Option (List ChunkData) → List ℕ → List Step → Type 0
Traced s w t m told schedule steps = (xs : List ChunkData) → told ≡ Some xs → IsTraced s w t m schedule xs steps

-- ---- of a write that was refused

-- a task refuses by a word of the plan, or the source gives a batch of another type
abbrev pub IsRefusal : WriteError → Type 0
IsRefusal (BatchType c) = Unit {0}
IsRefusal NotStruct = Unit {0}
IsRefusal (DuplicateField name) = Unit {0}
IsRefusal ManyChunks = Unit {0}
IsRefusal EmptyList = Unit {0}
IsRefusal (ZoneCut n) = Unit {0}
IsRefusal (ForbiddenAggregate id) = Unit {0}
IsRefusal (ForbiddenEncoding id) = Unit {0}
IsRefusal e = ⊥

-- The steps are fewer than all that these tasks have to do, and the first of their trace.
pub record StepsBegin (tasks : Forest) (schedule : List ℕ) (steps : List Step) : Type 0 where
  pub fewer : length steps < work tasks
  pub first : AllPairs ShowsNote steps (take (length steps) (trace tasks schedule))

-- Where the source told its batches: of the tasks of them all, or where one is of another type, of those before the first such.
abbrev pub StepsBeginAll : Setting → StrategyData → Ty → Bool → Option (List ChunkData) → List ℕ → List Step → Type 0
StepsBeginAll s w t m told schedule steps = (xs : List ChunkData) → told ≡ Some xs
    → (OfSchema t xs → StepsBegin (tasks_of s w t m xs true) schedule steps) × (¬ OfSchema t xs → StepsBegin (tasks_of s w t m (of_schema t xs) false) schedule steps)

-- So it is of these tasks, and where a task refuses the steps are all of the trace. A start that is refused has none.
pub record StepsAreFirst (tasks : Forest) (schedule : List ℕ) (steps : List Step) (e : WriteError) : Type 0 where
  pub begin : StepsBegin tasks schedule steps
  pub all : IsRefusal e → (steps ≡ []) ⊎ AllPairs ShowsNote steps (trace tasks schedule)
