-- Runs of the machine as the program keeps it, in a write.
use Rattle.std.specs.Prelude.{◌≡◌, ◌+◌, ◌%◌, ℕ, zero, suc, Bool, false, List, [], ◌∷◌, ◌++◌, map, length, Some, None, IsFalse}
use Rattle.vx_model.specs.Ty.{Ty}
use Rattle.vx_model.specs.ChunkData.{ChunkData}
use Rattle.vx_machine_state.specs.Images.{Careful}
use Rattle.vx_tasks.specs.Run.{Note, nth, first_pick, later_picks}
use Rattle.vx_tasks.specs.Runs.{noted}
use Rattle.vx_plan.specs.PlanData.{Setting, Pair}
use Rattle.vx_plan.specs.SourcePlan.{start_fault}
use Rattle.vx_machine_steps.specs.Runs.{picks_after}
use Rattle.vx_machine_promises.specs.Write.{Write, Answer, unasked, came, over, taken_by, heard_by}
use Rattle.vx_machine_promises.specs.Reached.{Underway}
use Rattle.vx_machine_view.specs.Machine.{Phase, reading, giving, closing, finished, Machine, start, WholeStep, whole_steps}
use Rattle.vx_machine_state.specs.Reserved.{reserved_by}
use Rattle.vx_machine_state.specs.Typed.{Typed}
use Rattle.vx_machine_view.specs.Whole.{form_of}
use Rattle.vx_machine_view.specs.Underway.{Showing, ready_steps}

-- where a run stands: the machine, the batches that were taken, whether the end is told, and what was appended
pub record Stand : Type 0 where
  pub machine : Machine
  pub taken : List ChunkData
  pub heard : Bool
  pub history : List Pair

-- at the start
abbrev pub outset : Write → Stand
outset g = record { machine = start (form_of g) g.mark; taken = []; heard = false; history = [] }

-- the source is asked only where it reads, in the first place
abbrev pub Asking : Phase → ℕ → Answer → Type 0
Asking (reading e) zero a = Unit {0}
Asking (reading e) (suc k) a = a ≡ unasked
Asking (giving e i) k a = a ≡ unasked
Asking closing k a = a ≡ unasked
Asking finished k a = a ≡ unasked

-- a batch that it tells is of the type through and through
abbrev pub TypedAnswer : Ty → Answer → Type 0
TypedAnswer t unasked = Unit {0}
TypedAnswer t (came b) = Typed t b
TypedAnswer t over = Unit {0}

-- and it tells nothing behind its end
abbrev pub BeforeEnd : Bool → Answer → Type 0
BeforeEnd heard unasked = Unit {0}
BeforeEnd heard (came b) = heard ≡ false
BeforeEnd heard over = heard ≡ false

-- a ready step, with what the source tells in it
pub record Chosen (g : Write) (first : ℕ) (x : Stand) (told : Answer) (k : ℕ) (w : WholeStep) : Type 0 where
  pub place : nth (ready_steps g first x.history told x.machine) k ≡ Some w
  pub asks : Asking x.machine.phase k told
  pub typed : TypedAnswer g.type told
  pub once : BeforeEnd x.heard told
  pub fits : IsFalse w.misfit

-- the step was done, with this note
pub record Done (g : Write) (first : ℕ) (x y : Stand) (n : Note) : Type 0 where
  pub told : Answer
  pub step : WholeStep
  pub chosen : Chosen g first x told n.picked step
  pub unrefused : step.refusal ≡ None
  pub note : n ≡ noted (length (ready_steps g first x.history told x.machine)) n.picked step.name step.kind
  pub left : y ≡ record { machine = step.after; taken = taken_by x.taken told; heard = heard_by x.heard told; history = x.history ++ step.wrote }

-- such steps lead from one stand to another
abbrev pub Led : Write → ℕ → Stand → List Note → Stand → Type 0
Led g first x [] y = x ≡ y
Led g first x (n ∷ ns) y = (z : Stand) × Done g first x z n × Led g first z ns y

-- the places that they note are those that these picks take
abbrev pub PickedBy : List ℕ → List Note → Type 0
PickedBy picks [] = Unit {0}
PickedBy picks (n ∷ ns) = (n.picked ≡ first_pick picks % n.ready) × PickedBy (later_picks picks) ns

-- the same write under another schedule
abbrev pub scheduled : Write → List ℕ → Write
scheduled g picks = record { setting = g.setting; way = g.way; type = g.type; mark = g.mark; tracker = g.tracker; schedule = picks }

-- what the tracker counts there: what it counted at the start, and what the machine's tasks have reserved
abbrev pub tracked : Write → Stand → ℕ
tracked g x = g.tracker + reserved_by x.machine.root

-- the write is under way there, by these notes
abbrev pub UnderwayAt : Write → ℕ → List Note → Stand → Type 0
UnderwayAt g first seen x = Underway (Showing g first x.taken x.machine) g x.taken x.heard seen x.history (tracked g x)

-- ---- laws

-- where the start refuses nothing
abbrev pub StartIsUnderway : Type 0
StartIsUnderway = (g : Write) (first : ℕ) → start_fault g.setting g.way g.type g.mark ≡ None → UnderwayAt g first [] (outset g)

-- where the step is the one that the schedule picks
abbrev pub StepIsUnderway : Type 0
StepIsUnderway = (g : Write) (first : ℕ) (seen : List Note) (x y : Stand) (n : Note) → Careful g.setting
    → n.picked ≡ first_pick (picks_after (length seen) g.schedule) % n.ready → Done g first x y n → UnderwayAt g first seen x → UnderwayAt g first (seen ++ (n ∷ [])) y

-- whole runs, where the schedule picks these places
abbrev pub RunByIsUnderway : Type 0
RunByIsUnderway = (g : Write) (first : ℕ) (ns : List Note) (y : Stand) → Careful g.setting
    → start_fault g.setting g.way g.type g.mark ≡ None → PickedBy g.schedule ns → Led g first (outset g) ns y → UnderwayAt g first ns y

-- as each schedule does that tells them
abbrev pub PlacesArePicks : Type 0
PlacesArePicks = (g : Write) (first : ℕ) (x y : Stand) (ns : List Note) → Led g first x ns y → PickedBy (map (λ n. n.picked) ns) ns

abbrev pub RunIsUnderway : Type 0
RunIsUnderway = (g : Write) (first : ℕ) (ns : List Note) (y : Stand) → Careful g.setting
    → start_fault g.setting g.way g.type g.mark ≡ None → g.schedule ≡ map (λ n. n.picked) ns → Led g first (outset g) ns y → UnderwayAt g first ns y

-- which steps lead where depends on no schedule
abbrev pub ScheduleIsFree : Type 0
ScheduleIsFree = (g : Write) (first : ℕ) (picks : List ℕ) (x y : Stand) (ns : List Note) → Led g first x ns y → Led (scheduled g picks) first x ns y

-- a step that appends nothing is the same whatever number the next segment has
abbrev pub NumberIsFree : Type 0
NumberIsFree = (s : Setting) (all : List (List ℕ)) (n number : ℕ) (a : Answer) (m : Machine) (k : ℕ) (w : WholeStep) → w.wrote ≡ []
    → nth (whole_steps s all n a m) k ≡ Some w → nth (whole_steps s all number a m) k ≡ Some w
