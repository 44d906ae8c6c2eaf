-- The pairs of path and bytes that tasks append next.
use Rattle.std.specs.Prelude.{ℕ, List, [], ◌∷◌, ◌++◌, map}
use Rattle.vx_machine_node.specs.declared.item.Due.{Due}
use Rattle.vx_machine_node.specs.declared.item.Due.TheVariants.{Put, HandOn, Append, Close, Join, Table, Leave, Press, Ask, OpenRun, EndRun}
use Rattle.vx_machine_task.specs.declared.task.Task.{Task}
use Rattle.vx_machine_task.specs.declared.task.Task.TheOpen.{Task-F}
use Rattle.vx_machine_task.specs.declared.task.Task.TheFolds.{fold-Task}

abbrev pub Pair : Type 0
Pair = List ℕ × List ℕ

abbrev pub due_pairs : Due → List Pair
due_pairs (Put child i) = []
due_pairs (HandOn i r) = []
due_pairs (Press which i) = []
due_pairs (Append s) = (s.id, s.segment.bytes.items) ∷ []
due_pairs Close = []
due_pairs (Join h) = []
due_pairs (Table t) = []
due_pairs (Leave e) = []
due_pairs (Ask p) = []
due_pairs (OpenRun r i) = []
due_pairs (EndRun child i) = []

-- of the first of what is still to be done
abbrev pub next_pairs : List Due → List Pair
next_pairs [] = []
next_pairs (d ∷ ds) = due_pairs d

abbrev pub joined_pairs : List (List Pair) → List Pair
joined_pairs [] = []
joined_pairs (ps ∷ pss) = ps ++ joined_pairs pss

abbrev pub step_pairs : Task-F (List Pair) → List Pair
step_pairs f = next_pairs f.head.todo.items ++ joined_pairs f.kids.items

-- of a task and all below it
abbrev pub task_pairs : Task → List Pair
task_pairs = fold-Task (List Pair) step_pairs

abbrev pub tasks_pairs : List Task → List Pair
tasks_pairs ts = joined_pairs (map task_pairs ts)

-- each may be written
abbrev pub AllMay : (List ℕ → List ℕ → Type 0) → List Pair → Type 0
AllMay may [] = Unit {0}
AllMay may (x ∷ xs) = may x.0 x.1 × AllMay may xs
