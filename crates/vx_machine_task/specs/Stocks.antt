-- What the parts of a machine hold.
use Rattle.std.specs.Prelude.{List}
use Rattle.vx_machine_ids.specs.Stock.{Stock, both, joined, all_stock}
use Rattle.vx_machine_task.specs.declared.task.Head.{Head}
use Rattle.vx_machine_task.specs.declared.task.Task.{Task}
use Rattle.vx_machine_task.specs.declared.task.Task.TheOpen.{Task-F}
use Rattle.vx_machine_task.specs.declared.task.Task.TheFolds.{fold-Task}
use Rattle.vx_machine_node.specs.Stocks.{dues_stock, items_stock, local_stock}

abbrev pub head_stock : Head → Stock
head_stock h = both (local_stock h.local) (both (dues_stock h.todo.items) (items_stock h.inbox.items))

abbrev pub step_stock : Task-F Stock → Stock
step_stock f = both (head_stock f.head) (joined f.kids.items)

abbrev pub task_stock : Task → Stock
task_stock = fold-Task Stock step_stock

abbrev pub tasks_stock : List Task → Stock
tasks_stock ts = all_stock task_stock ts
