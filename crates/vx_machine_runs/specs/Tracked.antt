-- What the tracker counts in a run.
use Rattle.std.specs.Prelude.{◌≡◌, ◌+◌, ◌≤◌, ℕ, List, Some}
use Rattle.vx_model.specs.ChunkData.{ChunkData}
use Rattle.vx_machine_state.specs.Images.{Careful}
use Rattle.vx_tasks.specs.Run.{Note, nth}
use Rattle.vx_machine_turns.specs.Acts.{raised_in, lowered_in}
use Rattle.vx_machine_steps.specs.Tree.{Tree}
use Rattle.vx_machine_steps.specs.Moves.{TreeMove}
use Rattle.vx_machine_steps.specs.Runs.{RunsBy, notes, acts_of}
use Rattle.vx_machine_promises.specs.Write.{Write, Future, Open, Answer, depth, begin, planned, taken_by, heard_by}
use Rattle.vx_machine_promises.specs.Reached.{moves_at}
use Rattle.vx_machine_view.specs.Machine.{WholeStep}
use Rattle.vx_machine_runs.specs.Runs.{Stand, tracked, Chosen, Done, UnderwayAt}

-- a step that was done changes it by what it adds and takes
abbrev pub StepIsTracked : Type 0
StepIsTracked = (g : Write) (first : ℕ) (seen : List Note) (x y : Stand) (n : Note) (d : Done g first x y n) → UnderwayAt g first seen x → tracked g y + d.step.lowers ≡ tracked g x + d.step.raises

-- With what the next step adds it is at most what it was at the start, and all that the plan reserves: of the batches taken by then,
-- and of those that may still come.
abbrev pub StepsAreTracked : Type 0
StepsAreTracked = (g : Write) (first : ℕ) (seen : List Note) (x : Stand) (told : Answer) (f : Future) (k : ℕ) (w : WholeStep) → Careful g.setting
    → UnderwayAt g first seen x → Open (heard_by x.heard told) f → Chosen g first x told k w → tracked g x + w.raises ≤ g.tracker + (planned g (taken_by x.taken told) f).reserved

-- The number that the tracker comes to by the tasks alone, from this state on: these notes are of moves that lead to another one, where
-- a move stands in this place. There it counts what it did at first, and what the moves added, without what they took; and the number is
-- this, with what that move adds.
pub record Comes (g : Write) (start : Tree) (seen : List Note) (k n : ℕ) : Type 0 where
  pub tree : Tree
  pub moves : List TreeMove
  pub runs : RunsBy g.setting (depth g) start g.schedule moves tree
  pub seen_is : seen ≡ notes g.setting (depth g) start g.schedule moves
  pub move : TreeMove
  pub place : nth (moves_at g tree) k ≡ Some move
  pub counts : ℕ
  pub counts_are : counts + lowered_in (acts_of moves) ≡ g.tracker + raised_in (acts_of moves)
  pub number_is : n ≡ counts + move.act.raises

-- so it does with each step
abbrev pub TrackerComes : Type 0
TrackerComes = (g : Write) (first : ℕ) (seen : List Note) (x : Stand) (told : Answer) (f : Future) (k : ℕ) (w : WholeStep) → Careful g.setting
    → UnderwayAt g first seen x → Open (heard_by x.heard told) f → Chosen g first x told k w → Comes g (begin g (taken_by x.taken told) f) seen k (tracked g x + w.raises)

-- and it is at most what was counted at first, and all that the plan reserves
abbrev pub TrackerComesWithin : Type 0
TrackerComesWithin = (g : Write) (taken : List ChunkData) (f : Future) (seen : List Note) (k n : ℕ) → Comes g (begin g taken f) seen k n → n ≤ g.tracker + (planned g taken f).reserved
