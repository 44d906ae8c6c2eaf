-- Where a write was refused: at its start, or at the act that the schedule picks next; and that the error is that one's own.
use Rattle.std.specs.Prelude.{◌≡◌, ◌⊎◌, ◌+◌, ◌%◌, ◌^◌, ◌≤◌, ◌++◌, ℕ, Bool, true, false, List, [], ◌∷◌, length, slice_index, Some}
use Rattle.vx_model.specs.Ty.{Ty}
use Rattle.vx_model.specs.ChunkData.{ChunkData}
use Rattle.vx_path.specs.Path.{root_eof}
use Rattle.vx_tasks.specs.Task.{Free, Append, Batch, Call}
use Rattle.vx_tasks.specs.Run.{nth}
use Rattle.vx_strategy_spec.specs.StrategyData.{StrategyData}
use Rattle.vx_plan.specs.PlanData.{Setting, not_struct, duplicate_field, many_chunks, empty_list, zone_cut, forbidden_aggregate, forbidden_encoding}
use Rattle.vx_plan.specs.SourcePlan.{start_fault}
use Rattle.vx_machine_turns.specs.Acts.{Act, refuses, raised_in, lowered_in}
use Rattle.vx_machine_turns.specs.Fuels.{Fuel}
use Rattle.vx_machine_steps.specs.Tree.{Tree, opened}
use Rattle.vx_machine_steps.specs.Moves.{TreeMove, machine_moves}
use Rattle.vx_machine_steps.specs.Runs.{acts_of}
use Rattle.vx_machine_steps.specs.StartPlanned.{machine_fuel, started}
use Rattle.vx_write_answer.specs.declared.step.Step.{Step}
use Rattle.vx_write_answer.specs.declared.error.WriteError.{WriteError}
use Rattle.vx_write_answer.specs.declared.error.WriteError.TheVariants.{SourceFault, SinkFault, CompressFault, BatchType, NotStruct, DuplicateField, ManyChunks, EmptyList, ZoneCut, ForbiddenAggregate, ForbiddenEncoding, TooLarge, OutOfMemory, Stopped}
use Rattle.vx_machine_state.specs.Start.{first_indices}
use Rattle.vx_machine.specs.Outcome.{action_of, Past}
use Rattle.vx_machine.specs.TaskStarting.{TooFar}
use Rattle.vx_machine.specs.TaskView.{form_at}

-- ---- the act that comes next

-- a step is this one of the acts that can be done: it tells its place, how many there are, its task and kind
pub record IsDone (moves : List TreeMove) (x : Step) (m : TreeMove) : Type 0 where
  pub place : nth moves x.picked ≡ Some m
  pub ready : x.ready ≡ length moves
  pub task : x.task ≡ m.name
  pub action : x.action ≡ action_of m.act.kind
  pub unrefused : refuses m.act ≡ false

-- the steps, one after the other, are these acts, which lead from one state of the tasks to another
abbrev pub LeadTo : Setting → Fuel → Tree → List Step → List TreeMove → Tree → Type 0
LeadTo s d t [] [] e = t ≡ e
LeadTo s d t [] (m ∷ ms) e = ⊥
LeadTo s d t (x ∷ xs) [] e = ⊥
LeadTo s d t (x ∷ xs) (m ∷ ms) e = IsDone (machine_moves s d t) x m × LeadTo s d m.after xs ms e

-- The act of the tasks of these batches that the schedule picks behind the steps. There the tracker counts what it did before the
-- write, and what the steps' acts added, without what they took.
pub record NextAct (s : Setting) (w : StrategyData) (t : Ty) (m : Bool) (tracker : ℕ) (batches : List ChunkData) (heard : Bool) (schedule : List ℕ) (steps : List Step) : Type 0 where
  pub stand : Tree
  pub moves : List TreeMove
  pub led : LeadTo s (machine_fuel w t) (started w t m batches heard) steps moves stand
  pub counts : ℕ
  pub counts_are : counts + lowered_in (acts_of moves) ≡ tracker + raised_in (acts_of moves)
  pub move : TreeMove
  pub picked : nth (machine_moves s (machine_fuel w t) stand) (slice_index schedule (length steps) % length (machine_moves s (machine_fuel w t) stand)) ≡ Some move

-- ---- whose own the error is

-- it reads of the source behind these batches, the end not told
abbrev pub IsRead : Act → Bool → Type 0
IsRead a heard = (a.kind ≡ Free Batch) × (a.misfit ≡ true) × (heard ≡ false)

abbrev pub IsAppend : Act → Type 0
IsAppend a = (p : List ℕ) × (a.kind ≡ Append p)

-- It counts so many rows or bytes, or a pointer comes so far, and that doesn't fit 64 bits; or with what it adds the tracker counts so
-- much; or it appends the next segment, whose number doesn't fit 32.
abbrev pub CountsPast : TreeMove → ℕ → ℕ → ℕ → Type 0
CountsPast m counts next n = Past m.act.numbers (m.act.indices ++ opened m.room m.act.starts) n
    ⊎ ((n ≡ counts + m.act.raises) × (2 ^ 64 ≤ n))
    ⊎ (IsAppend m.act × (n ≡ next) × (2 ^ 32 ≤ n))

-- The error is this act's own, where the tracker counts so much, and the next segment has this number: a line an error. Want of memory is free.
abbrev pub IsOwn : TreeMove → ℕ → Bool → ℕ → WriteError → Type 0
IsOwn m counts heard next SourceFault = IsRead m.act heard
IsOwn m counts heard next (BatchType c) = IsRead m.act heard
IsOwn m counts heard next SinkFault = IsAppend m.act
IsOwn m counts heard next CompressFault = m.act.kind ≡ Free Call
IsOwn m counts heard next NotStruct = m.act.refusal ≡ Some not_struct
IsOwn m counts heard next (DuplicateField name) = m.act.refusal ≡ Some (duplicate_field name)
IsOwn m counts heard next ManyChunks = m.act.refusal ≡ Some many_chunks
IsOwn m counts heard next EmptyList = m.act.refusal ≡ Some empty_list
IsOwn m counts heard next (ZoneCut n) = m.act.refusal ≡ Some (zone_cut n)
IsOwn m counts heard next (ForbiddenAggregate id) = m.act.refusal ≡ Some (forbidden_aggregate id)
IsOwn m counts heard next (ForbiddenEncoding id) = m.act.refusal ≡ Some (forbidden_encoding id)
IsOwn m counts heard next (TooLarge n) = CountsPast m counts next n
IsOwn m counts heard next OutOfMemory = Unit {0}
IsOwn m counts heard next (Stopped by name) = ⊥

-- a start is refused: by what the plan refuses there, or for a pointer that comes too far
abbrev pub StartRefuses : Setting → StrategyData → Ty → Bool → WriteError → Type 0
StartRefuses s w t m NotStruct = start_fault s w t m ≡ Some not_struct
StartRefuses s w t m (DuplicateField name) = start_fault s w t m ≡ Some (duplicate_field name)
StartRefuses s w t m (ForbiddenAggregate id) = start_fault s w t m ≡ Some (forbidden_aggregate id)
StartRefuses s w t m (TooLarge n) = (n ≡ 2 ^ 64) × TooFar (first_indices (form_at w t) m root_eof)
StartRefuses s w t m OutOfMemory = Unit {0}
StartRefuses s w t m e = ⊥

-- The write was refused at its start, before any batch, or at the act that comes next.
abbrev pub RefusedThere : Setting → StrategyData → Ty → Bool → ℕ → List ChunkData → Bool → ℕ → List ℕ → List Step → WriteError → Type 0
RefusedThere s w t m tracker batches heard next schedule steps e =
    (StartRefuses s w t m e × (batches ≡ []) × (steps ≡ []))
    ⊎ ((a : NextAct s w t m tracker batches heard schedule steps) × IsOwn a.move a.counts heard next e)
