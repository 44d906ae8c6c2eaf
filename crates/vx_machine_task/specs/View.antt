-- Tasks in plain data: ids and pointers by their paths, chunks and layouts by their data, strategies at types as forms.
use Rattle.std.specs.Prelude.{List, [], ◌∷◌, map}
use Rattle.vx_machine_state.specs.State as view
use Rattle.vx_machine_task.specs.declared.task.Head.{Head}
use Rattle.vx_machine_task.specs.declared.task.Task.{Task}
use Rattle.vx_machine_task.specs.declared.task.Task.TheOpen.{Task-F}
use Rattle.vx_machine_task.specs.declared.task.Task.TheFolds.{fold-Task}
use Rattle.vx_machine_node.specs.View.{items_of, mind_of, todo_of}

abbrev pub desk_of : Head → view.Desk
desk_of h = record { name = h.name; mind = mind_of h.local; todo = todo_of h.todo.items; inbox = items_of h.inbox.items; places = h.places; closed = h.closed }

-- ---- a task by what stands behind it

abbrev pub rows : List (view.Tasks → view.Tasks) → view.Tasks
rows [] = view.no_tasks
rows (x ∷ xs) = x (rows xs)

abbrev pub step_row : Task-F (view.Tasks → view.Tasks) → view.Tasks → view.Tasks
step_row f = λ r. view.task_then (desk_of f.head) (rows f.kids.items) r

-- a task with all below it, and these behind it
abbrev pub task_row : Task → view.Tasks → view.Tasks
task_row = fold-Task (view.Tasks → view.Tasks) step_row

-- tasks that stand beside each other
abbrev pub row : List Task → view.Tasks
row ts = rows (map task_row ts)
