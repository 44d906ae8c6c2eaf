-- States of a tree of tasks: one number a task, the actions that it has done.
use Rattle.std.specs.Prelude.{ℕ, suc, ◌+◌, Bool, false, cond, nat_eq, nat_le, List, [], ◌++◌, length, drop}
use Rattle.vx_tasks.specs.Task.{Task, Forest, next, sent, started, taken, holds, places, appends_in}
use Rattle.vx_tasks.specs.Task.Forest.{Bare, Node}

-- The numbers of a forest's tasks, in the forest's form. What is left out is at 0, so Zeros is the state
-- in which nothing is done.
pub data Counts : Type 0 where
  Zeros : Counts
  Count : ℕ → Counts → Counts → Counts

-- the first task's number, the numbers of its children, and those of its siblings

abbrev pub top : Counts → ℕ
top Zeros = 0
top (Count n kids rest) = n

abbrev pub below : Counts → Counts
below Zeros = Zeros
below (Count n kids rest) = kids

abbrev pub beside : Counts → Counts
beside Zeros = Zeros
beside (Count n kids rest) = rest

-- the actions left, of all tasks, whether they are started or not
abbrev pub left : Forest → Counts → ℕ
left Bare s = 0
left (Node t kids rest) s = length (next t (top s)) + left kids (below s) + left rest (beside s)

-- In what follows the forest is that of p's children from number j on, and p has done n actions.

-- the actions left of those that are started, and of all below them that are
abbrev pub left_started : Task → ℕ → ℕ → Forest → Counts → ℕ
left_started p n j Bare s = 0
left_started p n j (Node t kids rest) s =
    cond (started p j n) (length (next t (top s)) + left_started t (top s) 0 kids (below s)) 0
    + left_started p n (suc j) rest (beside s)

-- what stands in the queue from p to its child j, which has done m actions: given, and not yet taken
abbrev pub queue : Task → ℕ → ℕ → Task → ℕ → List (List ℕ)
queue p n j t m = drop (taken t m) (sent p j n)

-- the queue to child c has no place
abbrev pub full : Task → ℕ → ℕ → Forest → Counts → ℕ → Bool
full p n j Bare s c = false
full p n j (Node t kids rest) s c =
    cond (nat_eq j c) (nat_le (places p j) (length (queue p n j t (top s)))) (full p n (suc j) rest (beside s) c)

-- the paths held: those in queues, and those that started tasks hold
abbrev pub held : Task → ℕ → ℕ → Forest → Counts → List (List ℕ)
held p n j Bare s = []
held p n j (Node t kids rest) s =
    cond (started p j n) (queue p n j t (top s) ++ (holds t (top s) ++ held t (top s) 0 kids (below s))) []
    ++ held p n (suc j) rest (beside s)

-- the paths still to be appended, of all tasks
abbrev pub pending : Forest → Counts → List (List ℕ)
pending Bare s = []
pending (Node t kids rest) s = appends_in (next t (top s)) ++ (pending kids (below s) ++ pending rest (beside s))
