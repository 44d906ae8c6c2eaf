-- How many tasks there are.
use Rattle.std.specs.Prelude.{ℕ, ◌+◌, List, map}
use Rattle.vx_machine_task.specs.declared.task.Task.{Task}
use Rattle.vx_machine_task.specs.declared.task.Task.TheOpen.{Task-F}
use Rattle.vx_machine_task.specs.declared.task.Task.TheFolds.{fold-Task}
use Rattle.vx_machine_node.specs.Sizes.{sum_of}

abbrev pub count_step : Task-F ℕ → ℕ
count_step f = 1 + sum_of f.kids.items

abbrev pub task_count : Task → ℕ
task_count = fold-Task ℕ count_step

abbrev pub count_of_all : List Task → ℕ
count_of_all ts = sum_of (map task_count ts)
