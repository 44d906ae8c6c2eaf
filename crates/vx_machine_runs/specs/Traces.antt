-- What is noted of a run, against the work of its tree of scripts.
use Rattle.std.specs.Prelude.{◌≡◌, ◌+◌, ◌%◌, ◌<◌, ◌≤◌, ℕ, Bool, true, false, List, [], ◌∷◌, ◌++◌, take, length, Some, None, IsTrue, IsFalse}
use Rattle.vx_model.specs.ChunkData.{ChunkData}
use Rattle.vx_path.specs.Lists.{In}
use Rattle.vx_machine_state.specs.Images.{Careful}
use Rattle.vx_tasks.specs.Task.{Forest, appends_of}
use Rattle.vx_tasks.specs.State.{Counts, left}
use Rattle.vx_tasks.specs.Run.{Note, nth, ready, trace, work, first_pick}
use Rattle.vx_cut_laws.specs.Cut.{cut}
use Rattle.vx_plan.specs.PlanData.{What, paths}
use Rattle.vx_plan.specs.SourcePlan.{start_fault}
use Rattle.vx_machine_steps.specs.Runs.{picks_after}
use Rattle.vx_machine_steps.specs.StartPlanned.{started_forest}
use Rattle.vx_machine_promises.specs.Write.{Write, Future, Open, Answer, unasked, scripts, taken_by, heard_by}
use Rattle.vx_machine_view.specs.Machine.{WholeStep, is_finished}
use Rattle.vx_machine_view.specs.Underway.{ready_steps}
use Rattle.vx_machine_runs.specs.Runs.{Stand, Chosen, UnderwayAt}

-- the tree of scripts of these batches
abbrev pub scripts_of : Write → List ChunkData → Bool → Forest
scripts_of g taken heard = started_forest g.setting g.way g.type g.mark taken heard

-- ---- how many are ready

-- of each tree of tasks, in each state: at most as many as there is work left
abbrev pub ReadyIsWithinLeft : Type 0
ReadyIsWithinLeft = (f : Forest) (s : Counts) → ready f s ≤ left f s

-- of the machine: beside the steps that were made
abbrev pub ReadyIsWithinWork : Type 0
ReadyIsWithinWork = (g : Write) (first : ℕ) (seen : List Note) (x : Stand) (a : Answer) (f : Future) → Careful g.setting
    → UnderwayAt g first seen x → Open x.heard f → length (ready_steps g first x.history a x.machine) + length seen ≤ work (scripts g x.taken f)

-- and of the tree in which a refusal ends its task
abbrev pub NextIsWithinWork : Type 0
NextIsWithinWork = (g : Write) (first : ℕ) (seen : List Note) (x : Stand) (a : Answer) (f : Future) → Careful g.setting
    → UnderwayAt g first seen x → Open x.heard f → length (ready_steps g first x.history a x.machine) ≤ work (cut (scripts g x.taken f))

-- and so it was at each step that was made
abbrev pub NotesAreWithinWork : Type 0
NotesAreWithinWork = (g : Write) (first : ℕ) (seen : List Note) (x : Stand) (f : Future) (n : Note) → UnderwayAt g first seen x → Open x.heard f → In n seen
    → n.ready ≤ work (cut (scripts g x.taken f))

-- ---- traces, of the trees in which a refusal ends its task

-- the notes are the first of the trace, whatever may still come
abbrev pub NotesAreFirst : Type 0
NotesAreFirst = (g : Write) (first : ℕ) (seen : List Note) (x : Stand) (f : Future) → UnderwayAt g first seen x → Open x.heard f
    → seen ≡ take (length seen) (trace (cut (scripts g x.taken f)) g.schedule)

-- and fewer than all, until the machine has finished
abbrev pub NotesAreFewer : Type 0
NotesAreFewer = (g : Write) (first : ℕ) (seen : List Note) (x : Stand) (f : Future) → UnderwayAt g first seen x → Open x.heard f → IsFalse (is_finished x.machine)
    → length seen < work (cut (scripts g x.taken f))

-- as they are where something is ready
abbrev pub ReadyIsMore : Type 0
ReadyIsMore = (g : Write) (first : ℕ) (seen : List Note) (x : Stand) (a : Answer) (f : Future) → Careful g.setting → UnderwayAt g first seen x → Open x.heard f
    → 0 < length (ready_steps g first x.history a x.machine) → length seen < work (cut (scripts g x.taken f))

-- then they are the whole trace, and no step had more ready than there are steps
pub record WholeTrace (g : Write) (seen : List Note) (f : Forest) : Type 0 where
  pub trace_is : seen ≡ trace (cut f) g.schedule
  pub count_is : length seen ≡ work (cut f)
  pub ready : (n : Note) → In n seen → n.ready ≤ length seen

abbrev pub NotesAreWhole : Type 0
NotesAreWhole = (g : Write) (first : ℕ) (seen : List Note) (x : Stand) → UnderwayAt g first seen x → start_fault g.setting g.way g.type g.mark ≡ None
    → IsTrue (is_finished x.machine) → WholeTrace g seen (scripts_of g x.taken true)

-- where the picked step is refused, they are the whole trace too
abbrev pub RefusalIsLast : Type 0
RefusalIsLast = (g : Write) (first : ℕ) (seen : List Note) (x : Stand) (told : Answer) (f : Future) (k : ℕ) (w : WholeStep) (v : What) → Careful g.setting
    → UnderwayAt g first seen x → Open (heard_by x.heard told) f → Chosen g first x told k w → w.refusal ≡ Some v
    → k ≡ first_pick (picks_after (length seen) g.schedule) % length (ready_steps g first x.history told x.machine)
    → seen ≡ trace (cut (scripts g (taken_by x.taken told) f)) g.schedule

-- and where that is the source's, which finds a batch of another type, behind those that were taken
abbrev pub MisfitIsLast : Type 0
MisfitIsLast = (g : Write) (first : ℕ) (seen : List Note) (x : Stand) (k : ℕ) (w : WholeStep) → Careful g.setting → UnderwayAt g first seen x
    → IsFalse x.heard → nth (ready_steps g first x.history unasked x.machine) k ≡ Some w → IsTrue w.misfit
    → k ≡ first_pick (picks_after (length seen) g.schedule) % length (ready_steps g first x.history unasked x.machine)
    → seen ≡ trace (cut (scripts_of g x.taken false)) g.schedule

-- ---- appends

-- the paths that the notes tell to be appended, in order
abbrev pub appends_noted : List Note → List (List ℕ)
appends_noted [] = []
appends_noted (n ∷ ns) = appends_of n.kind ++ appends_noted ns

-- what was appended has these
abbrev pub AppendsAreNoted : Type 0
AppendsAreNoted = (g : Write) (first : ℕ) (seen : List Note) (x : Stand) → UnderwayAt g first seen x → paths x.history ≡ appends_noted seen
