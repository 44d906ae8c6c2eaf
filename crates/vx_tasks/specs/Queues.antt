-- How the queues stand in a state that a run reaches.
use Rattle.std.specs.Prelude.{◌≡◌, ℕ, suc, ◌≤◌, Bool, true, false, ◌||◌, [], length, IsTrue, IsFalse}
use Rattle.vx_tasks.specs.Task.{Task, Kind, Forest, next, sent, started, closed, taken, next_kind}
use Rattle.vx_tasks.specs.Task.Kind.{Free, Take, TakeEnd, Put, Append, Join}
use Rattle.vx_tasks.specs.Task.Forest.{Bare, Node}
use Rattle.vx_tasks.specs.State.{Counts, top, below, beside, queue}
use Rattle.vx_tasks.specs.Run.{any_there}

abbrev pub is_take : Kind → Bool
is_take (Free w) = false
is_take Take = true
is_take TakeEnd = false
is_take (Put c) = false
is_take (Append q) = false
is_take Join = false

abbrev pub is_end : Kind → Bool
is_end (Free w) = false
is_end Take = false
is_end TakeEnd = true
is_end (Put c) = false
is_end (Append q) = false
is_end Join = false

-- Of a child t with number j that has done m actions, below p that has done n: it has taken no more than
-- it was given. Where it takes an item, one is there as soon as it may; where it takes the end, none is.
pub record Queued (p : Task) (n j : ℕ) (t : Task) (m : ℕ) : Type 0 where
  pub fewer : taken t m ≤ length (sent p j n)
  pub item : IsTrue (next_kind is_take (next t m)) → IsTrue (any_there (queue p n j t m) || closed p j n) → IsTrue (any_there (queue p n j t m))
  pub last : IsTrue (next_kind is_end (next t m)) → queue p n j t m ≡ []

-- no task has done anything
abbrev pub AtZero : Forest → Counts → Type 0
AtZero Bare s = Unit {0}
AtZero (Node t kids rest) s = (top s ≡ 0) × AtZero kids (below s) × AtZero rest (beside s)

-- so it is with all started tasks; where a task isn't started, nothing is done at it and below it
abbrev pub AllQueued : Task → ℕ → ℕ → Forest → Counts → Type 0
AllQueued p n j Bare s = Unit {0}
AllQueued p n j (Node t kids rest) s =
    (IsTrue (started p j n) → Queued p n j t (top s) × AllQueued t (top s) 0 kids (below s))
    × (IsFalse (started p j n) → (top s ≡ 0) × AtZero kids (below s))
    × AllQueued p n (suc j) rest (beside s)
