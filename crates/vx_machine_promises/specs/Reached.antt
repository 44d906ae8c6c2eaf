-- How far a write's machine has come.
use Rattle.std.specs.Prelude.{◌≡◌, ℕ, ◌+◌, Bool, List, ◌++◌, length, Some, IsFalse}
use Rattle.vx_model.specs.ChunkData.{ChunkData}
use Rattle.vx_tasks.specs.Run.{Note, nth}
use Rattle.vx_tasks.specs.Runs.{noted}
use Rattle.vx_named_tasks.specs.Names.{Outset, root_outset}
use Rattle.vx_plan.specs.PlanData.{Pair}
use Rattle.vx_machine_turns.specs.Acts.{refuses, written_by, raised_in, lowered_in}
use Rattle.vx_machine_steps.specs.Tree.{Tree}
use Rattle.vx_machine_steps.specs.Moves.{TreeMove, machine_moves}
use Rattle.vx_machine_steps.specs.Runs.{pick_of, RunsBy, notes, picks_after, acts_of, appended}
use Rattle.vx_machine_promises.specs.Write.{Write, Future, Open, depth, begin_at}

-- A run under the schedule from the start of this future, wherever it begins: what was noted and appended of it, and what the tracker
-- counts.
pub record ReachedAt (g : Write) (o : Outset) (taken : List ChunkData) (f : Future) (seen : List Note) (history : List Pair) (tracker : ℕ) : Type 0 where
  pub tree : Tree
  pub moves : List TreeMove
  pub runs : RunsBy g.setting (depth g) (begin_at g o taken f) g.schedule moves tree
  pub seen_is : seen ≡ notes g.setting (depth g) (begin_at g o taken f) g.schedule moves
  pub wrote : history ≡ appended moves
  pub tracked : tracker + lowered_in (acts_of moves) ≡ g.tracker + raised_in (acts_of moves)

-- of a whole write
abbrev pub Reached : Write → List ChunkData → Future → List Note → List Pair → ℕ → Type 0
Reached g taken f seen history tracker = ReachedAt g root_outset taken f seen history tracker

-- the moves of a state, and the place of the next pick behind so many steps

abbrev pub moves_at : Write → Tree → List TreeMove
moves_at g t = machine_moves g.setting (depth g) t

abbrev pub pick_at : Write → Tree → List Note → ℕ
pick_at g t seen = pick_of g.setting (depth g) t (picks_after (length seen) g.schedule)

-- One step more: the move that is picked, what is noted of it, and what it appends and counts.
pub record Stepped (g : Write) (tree : Tree) (seen : List Note) (note : Note) (history history_then : List Pair) (tracker tracker_then : ℕ) : Type 0 where
  pub move : TreeMove
  pub picked : nth (moves_at g tree) (pick_at g tree seen) ≡ Some move
  pub done : IsFalse (refuses move.act)
  pub note_is : note ≡ noted (length (moves_at g tree)) (pick_at g tree seen) move.name move.act.kind
  pub wrote : history_then ≡ history ++ written_by move.act.kind move.act.bytes
  pub tracked : tracker_then + move.act.lowers ≡ tracker + move.act.raises

-- A write is under way: so it is for each future that is still open, in a state that the machine shows.
abbrev pub Underway : (Future → Tree → Type 0) → Write → List ChunkData → Bool → List Note → List Pair → ℕ → Type 0
Underway Shows g taken heard seen history tracker = (f : Future) → Open heard f → (r : Reached g taken f seen history tracker) × Shows f r.tree
