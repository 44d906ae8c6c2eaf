-- What holds of the next step, wherever a run stands.
use Rattle.std.specs.Prelude.{◌≡◌, ◌^◌, ◌<◌, ◌≤◌, ℕ, List, [], ◌∷◌, ◌++◌, length, Some, None, IsTrue}
use Rattle.vx_named_tasks.specs.Names.{Names}
use Rattle.vx_path.specs.Lists.{In}
use Rattle.vx_path.specs.Path.{root_eof}
use Rattle.vx_machine_state.specs.Images.{Careful}
use Rattle.vx_tasks.specs.Run.{Note, nth}
use Rattle.vx_plan.specs.PlanData.{Pair, Plan}
use Rattle.vx_plan.specs.Number.{sorted}
use Rattle.vx_plan.specs.SourcePlan.{start_fault}
use Rattle.vx_plan.specs.Valid.{Fit, IsPast}
use Rattle.vx_machine_promises.specs.Write.{Write, Future, Open, Answer, unasked, planned, taken_by, heard_by}
use Rattle.vx_machine_state.specs.Start.{first_indices}
use Rattle.vx_machine_view.specs.Whole.{form_of}
use Rattle.vx_machine_view.specs.Machine.{reading, WholeStep, is_finished, machine_ids}
use Rattle.vx_machine_view.specs.Places.{whole_ready}
use Rattle.vx_machine_view.specs.Underway.{ready_steps}
use Rattle.vx_machine_runs.specs.Runs.{Stand, BeforeEnd, Chosen, UnderwayAt}
use Rattle.vx_machine_runs.specs.Ends.{Caused}

-- where nothing is ready, the machine has finished
abbrev pub IdleIsFinished : Type 0
IdleIsFinished = (g : Write) (first : ℕ) (seen : List Note) (x : Stand) → Careful g.setting → UnderwayAt g first seen x
    → whole_ready (machine_ids x.machine) x.machine ≡ 0 → IsTrue (is_finished x.machine)

-- a step that finds a chunk of another type is the one in which the source reads, and is told nothing
abbrev pub MisfitIsRead : Type 0
MisfitIsRead = (g : Write) (first : ℕ) (seen : List Note) (x : Stand) (a : Answer) (k : ℕ) (w : WholeStep) → UnderwayAt g first seen x
    → nth (ready_steps g first x.history a x.machine) k ≡ Some w → IsTrue w.misfit → (ns : Names) × (x.machine.phase ≡ reading ns) × (k ≡ 0) × (a ≡ unasked)

-- what was appended are the first of the plan's pairs, in order of path: of the batches taken, of what the next step is told, and of
-- those that may still come
abbrev pub HistoryIsFront : Type 0
HistoryIsFront = (g : Write) (first : ℕ) (seen : List Note) (x : Stand) (told : Answer) (f : Future) → BeforeEnd x.heard told → Open (heard_by x.heard told) f → UnderwayAt g first seen x
    → (more : List Pair) × (sorted (planned g (taken_by x.taken told) f).pairs ≡ x.history ++ more)

-- an append that isn't refused is one more of the plan's pairs, whatever may still come
abbrev pub AppendIsOneMore : Type 0
AppendIsOneMore = (g : Write) (first : ℕ) (seen : List Note) (x : Stand) (told : Answer) (f : Future) (k : ℕ) (w : WholeStep) (y : Pair) → Careful g.setting
    → UnderwayAt g first seen x → Open (heard_by x.heard told) f → Chosen g first x told k w → w.refusal ≡ None → w.wrote ≡ y ∷ []
    → length x.history < length (planned g (taken_by x.taken told) f).pairs

-- ---- what is counted

-- A count of a step that doesn't fit 64 bits: its rows and lengths are numbers of the plan, and an index comes to 2^64 on its way
-- to one.
pub record PastOf (p : Plan) (w : WholeStep) (n : ℕ) : Type 0 where
  pub numbers : In n w.numbers → IsPast n p.numbers
  pub joined : In n w.joined → IsPast n p.numbers
  pub indices : In n w.indices → IsPast (2 ^ 64) p.numbers

abbrev pub PastIsCaused : Type 0
PastIsCaused = (p : Plan) (w : WholeStep) (n : ℕ) → Caused p w → 2 ^ 64 ≤ n → PastOf p w n

-- so it is at the start, of what is started with it
abbrev pub StartIsCaused : Type 0
StartIsCaused = (g : Write) (f : Future) (n : ℕ) → In n (first_indices (form_of g) g.mark root_eof) → 2 ^ 64 ≤ n → IsPast (2 ^ 64) (planned g [] f).numbers

-- A step that isn't refused, and whose counts fit.
pub record SoundStep (w : WholeStep) : Type 0 where
  pub unrefused : w.refusal ≡ None
  pub numbers : (n : ℕ) → In n w.numbers → n < 2 ^ 64
  pub indices : (n : ℕ) → In n w.indices → n < 2 ^ 64
  pub joined : (n : ℕ) → In n w.joined → n < 2 ^ 64

-- so it is where the plan of all that comes has no fault, and its numbers fit
abbrev pub ValidIsSound : Type 0
ValidIsSound = (g : Write) (first : ℕ) (seen : List Note) (x : Stand) (told : Answer) (f : Future) (k : ℕ) (w : WholeStep) → Careful g.setting
    → UnderwayAt g first seen x → Open (heard_by x.heard told) f → Chosen g first x told k w
    → (planned g (taken_by x.taken told) f).faults ≡ [] → Fit (planned g (taken_by x.taken told) f).numbers → SoundStep w

-- and so the start refuses nothing, and how far its pointers come fits
abbrev pub ValidStarts : Type 0
ValidStarts = (g : Write) (f : Future) → (planned g [] f).faults ≡ [] → Fit (planned g [] f).numbers
    → (start_fault g.setting g.way g.type g.mark ≡ None) × ((n : ℕ) → In n (first_indices (form_of g) g.mark root_eof) → n < 2 ^ 64)
