use Rattle.std.proofs.Common.{◌≡◌, ◌+◌, ◌*◌, ◌≤◌, vec_len}
use Rattle.vx_machine_ids.specs.Balance.{Owned, Moved}
use Rattle.vx_machine_task.specs.Sizes.{task_count, count_of_all}
use Rattle.vx_sink.specs.ContextView.{counted}
use Rattle.vx_machine_node.specs.Ledger.{Paid, told_by}
use Rattle.vx_machine_task.specs.Ledger.{tasks_reserved}
use Rattle.vx_machine_task.specs.Stocks.{tasks_stock}
use Rattle.vx_machine_task.proofs.task.+refuse.Given as goal

abbrev pub decreases-Task::refuse : goal.decreases-Task::refuse
decreases-Task::refuse g l = 2 * task_count l.self

abbrev pub decreases-refuse_all : goal.decreases-refuse_all
decreases-refuse_all g l = 2 * count_of_all l.kids.items + 1

abbrev pub invariant-refuse_all-kids : goal.invariant-refuse_all-kids
invariant-refuse_all-kids g l = record {
  owned : Owned (g.O.Order.active l.order) (tasks_stock l.kids.items);
  moved : Moved (g.O.Order.active l.initial.order) (g.O.Order.active l.order) (tasks_stock l.initial.kids.items) (tasks_stock l.kids.items);
  fewer : count_of_all l.kids.items ≤ count_of_all l.initial.kids.items;
  reserved : tasks_reserved l.kids.items ≤ counted l.ctx;
  tracked : Paid l.initial.ctx l.ctx (tasks_reserved l.initial.kids.items) (tasks_reserved l.kids.items);
  context : told_by l.ctx ≡ told_by l.initial.ctx;
  outlet : g.O.Order.outlet l.order ≡ g.O.Order.outlet l.initial.order;
  sink : g.O.Order.sink l.order ≡ g.O.Order.sink l.initial.order;
}

abbrev pub decreases-refuse_all-kids : goal.decreases-refuse_all-kids
decreases-refuse_all-kids g l = vec_len l.kids
