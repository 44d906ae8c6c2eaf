use Rattle.std.proofs.Common.{◌≡◌, ◌≤◌}
use Rattle.std.specs.VecDeque.{deque_len}
use Rattle.vx_machine_ids.specs.Balance.{Owned, Moved}
use Rattle.vx_sink.specs.ContextView.{counted}
use Rattle.vx_machine_node.specs.Ledger.{Paid, told_by, dues_reserved}
use Rattle.vx_machine_node.specs.Stocks.{dues_stock}
use Rattle.vx_machine_node.proofs.item.give_up_dues.Given as goal

abbrev pub invariant-dues : goal.invariant-dues
invariant-dues g l = record {
  owned : Owned (g.O.Order.active l.order) (dues_stock l.dues.items);
  moved : Moved (g.O.Order.active l.initial.order) (g.O.Order.active l.order) (dues_stock l.initial.dues.items) (dues_stock l.dues.items);
  reserved : dues_reserved l.dues.items ≤ counted l.ctx;
  tracked : Paid l.initial.ctx l.ctx (dues_reserved l.initial.dues.items) (dues_reserved l.dues.items);
  context : told_by l.ctx ≡ told_by l.initial.ctx;
  outlet : g.O.Order.outlet l.order ≡ g.O.Order.outlet l.initial.order;
  sink : g.O.Order.sink l.order ≡ g.O.Order.sink l.initial.order;
}

abbrev pub decreases-dues : goal.decreases-dues
decreases-dues g l = deque_len l.dues
