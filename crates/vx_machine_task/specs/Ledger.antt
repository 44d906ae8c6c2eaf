-- What is reserved in the tracker, against what it counts.
use Rattle.std.specs.Prelude.{ℕ, ◌+◌, List, map}
use Rattle.vx_machine_task.specs.declared.task.Head.{Head}
use Rattle.vx_machine_task.specs.declared.task.Task.{Task}
use Rattle.vx_machine_task.specs.declared.task.Task.TheOpen.{Task-F}
use Rattle.vx_machine_task.specs.declared.task.Task.TheFolds.{fold-Task}
use Rattle.vx_machine_node.specs.Sizes.{sum_of}
use Rattle.vx_machine_node.specs.Ledger.{dues_reserved, local_reserved}

-- ---- how much is reserved

abbrev pub head_reserved : Head → ℕ
head_reserved h = dues_reserved h.todo.items + local_reserved h.local

abbrev pub step_reserved : Task-F ℕ → ℕ
step_reserved f = head_reserved f.head + sum_of f.kids.items

-- by a task and all below it
abbrev pub task_reserved : Task → ℕ
task_reserved = fold-Task ℕ step_reserved

abbrev pub tasks_reserved : List Task → ℕ
tasks_reserved ts = sum_of (map task_reserved ts)
