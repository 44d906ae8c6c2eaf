-- The machine in a write that is under way.
use Rattle.std.specs.Prelude.{◌≡◌, ◌+◌, ◌%◌, ◌<◌, ◌⊎◌, ℕ, Bool, List, [], ◌++◌, map, length, Some, None, IsTrue, IsFalse}
use Rattle.vx_model.specs.ChunkData.{ChunkData}
use Rattle.vx_path.specs.Lists.{In}
use Rattle.vx_layout_spec.specs.LayoutTree.{renamed}
use Rattle.vx_machine_state.specs.Images.{Careful}
use Rattle.vx_tasks.specs.Task.{Append}
use Rattle.vx_tasks.specs.Run.{Note, nth, first_pick}
use Rattle.vx_tasks.specs.Runs.{noted}
use Rattle.vx_plan.specs.PlanData.{Pair}
use Rattle.vx_plan.specs.Number.{number_of}
use Rattle.vx_machine_turns.specs.Acts.{refuses}
use Rattle.vx_machine_turns.specs.Readings.{layout_reading}
use Rattle.vx_machine_steps.specs.Tree.{Tree, read, opened}
use Rattle.vx_machine_steps.specs.Moves.{all_over, TreeMove}
use Rattle.vx_machine_steps.specs.Runs.{picks_after}
use Rattle.vx_machine_steps.specs.Stands.{Stands}
use Rattle.vx_machine_promises.specs.Write.{Write, Future, Open, Answer, depth, planned, taken_by, heard_by, before}
use Rattle.vx_machine_promises.specs.Reached.{Reached, moves_at, Stepped}
use Rattle.vx_machine_state.specs.Acts.{layouts_in}
use Rattle.vx_machine_view.specs.Machine.{Machine, WholeStep, whole_steps, is_finished, machine_ids}
use Rattle.vx_machine_view.specs.Whole.{ShowsMachine, Asks}

-- What the machine shows where these batches were taken, and the first segment has this number: segments get their numbers in
-- order of path.
abbrev pub Showing : Write → ℕ → List ChunkData → Machine → Future → Tree → Type 0
Showing g first taken m f t = ShowsMachine g (number_of (planned g taken f).pairs first) m f t

-- the steps that are ready behind so many appended segments
abbrev pub ready_steps : Write → ℕ → List Pair → Answer → Machine → List WholeStep
ready_steps g first history a m = whole_steps g.setting (machine_ids m) (first + length history) a m

-- the state that a write has come to stands
abbrev pub ReachedStands : Type 0
ReachedStands = (g : Write) (taken : List ChunkData) (f : Future) (seen : List Note) (history : List Pair) (tracker : ℕ) (r : Reached g taken f seen history tracker)
    → Stands g.setting (depth g) r.tree

-- the next append's number is that of its path
abbrev pub AppendIsNext : Type 0
AppendIsNext = (g : Write) (taken : List ChunkData) (f : Future) (seen : List Note) (history : List Pair) (tracker first : ℕ) (r : Reached g taken f seen history tracker) (m : TreeMove) (p : List ℕ)
    → In m (moves_at g r.tree) → IsFalse (refuses m.act) → m.act.kind ≡ Append p → number_of (planned g taken f).pairs first p ≡ first + length history

-- Each step is a move of the state, also one that is refused: by why it is, and by what it counts.
pub record IsMove (w : WholeStep) (v : TreeMove) : Type 0 where
  pub kind : w.kind ≡ v.act.kind
  pub refusal : w.refusal ≡ v.act.refusal
  pub misfit : w.misfit ≡ v.act.misfit
  pub numbers : w.numbers ≡ v.act.numbers
  pub indices : w.indices ≡ v.act.indices ++ opened v.room v.act.starts
  pub raises : w.raises ≡ v.act.raises

abbrev pub WriteMoves : Type 0
WriteMoves = (g : Write) (first : ℕ) (taken : List ChunkData) (heard : Bool) (a : Answer) (f : Future) (seen : List Note) (history : List Pair) (tracker : ℕ)
    (r : Reached g taken (before a f) seen history tracker) (m : Machine) (k : ℕ) (w : WholeStep)
    → Careful g.setting → Open (heard_by heard a) f → Showing g first taken m (before a f) r.tree
    → nth (ready_steps g first history a m) k ≡ Some w → Asks g.type f m.phase k a → (v : TreeMove) × In v (moves_at g r.tree) × IsMove w v

-- A step that is picked and not refused is a step of the write; what the machine then shows is where the write has then come.
abbrev pub WriteSteps : Type 0
WriteSteps = (g : Write) (first : ℕ) (taken : List ChunkData) (heard : Bool) (a : Answer) (f : Future) (seen : List Note) (history : List Pair) (tracker tracker_then : ℕ)
    (r : Reached g taken (before a f) seen history tracker) (m : Machine) (k : ℕ) (w : WholeStep)
    → Careful g.setting → Open (heard_by heard a) f → Showing g first taken m (before a f) r.tree
    → nth (ready_steps g first history a m) k ≡ Some w → k ≡ first_pick (picks_after (length seen) g.schedule) % length (ready_steps g first history a m)
    → Asks g.type f m.phase k a → w.refusal ≡ None → IsFalse w.misfit → tracker_then + w.lowers ≡ tracker + w.raises
    → (st : Stepped g r.tree seen (noted (length (ready_steps g first history a m)) k w.name w.kind) history (history ++ w.wrote) tracker tracker_then)
    × Showing g first (taken_by taken a) w.after f st.move.after

-- something is ready until the machine has finished
abbrev pub WriteReady : Type 0
WriteReady = (g : Write) (first : ℕ) (taken : List ChunkData) (a : Answer) (f : Future) (seen : List Note) (history : List Pair) (tracker : ℕ)
    (r : Reached g taken f seen history tracker) (m : Machine) → Careful g.setting → Showing g first taken m f r.tree
    → IsFalse (is_finished m) → 0 < length (ready_steps g first history a m)

-- then all is done, and the layout that is made is the one that is read off the state
abbrev pub WriteEnds : Type 0
WriteEnds = (g : Write) (first : ℕ) (taken : List ChunkData) (f : Future) (seen : List Note) (history : List Pair) (tracker : ℕ)
    (r : Reached g taken f seen history tracker) (m : Machine) → Showing g first taken m f r.tree → IsTrue (is_finished m)
    → IsTrue (all_over r.tree)
    × (layouts_in m.root ≡ map (renamed (number_of (planned g taken f).pairs first)) (read g.setting layout_reading (depth g) 0 [] r.tree))

-- the rows of layouts that a step joins are none, or among the plan's numbers
abbrev pub WriteJoins : Type 0
WriteJoins = (g : Write) (first : ℕ) (taken : List ChunkData) (a : Answer) (f : Future) (seen : List Note) (history : List Pair) (tracker : ℕ)
    (r : Reached g taken f seen history tracker) (m : Machine) (k : ℕ) (w : WholeStep) → Showing g first taken m f r.tree
    → nth (ready_steps g first history a m) k ≡ Some w → (n : ℕ) → In n w.joined → (n ≡ 0) ⊎ In n (planned g taken f).numbers
