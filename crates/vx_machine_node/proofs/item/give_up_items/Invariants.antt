use Rattle.std.proofs.Common.{◌≡◌}
use Rattle.std.specs.VecDeque.{deque_len}
use Rattle.vx_machine_ids.specs.Balance.{Owned, Moved}
use Rattle.vx_machine_node.specs.Stocks.{items_stock}
use Rattle.vx_machine_node.proofs.item.give_up_items.Given as goal

abbrev pub invariant-items : goal.invariant-items
invariant-items g l = record {
  owned : Owned (g.O.Order.active l.order) (items_stock l.items.items);
  moved : Moved (g.O.Order.active l.initial.order) (g.O.Order.active l.order) (items_stock l.initial.items.items) (items_stock l.items.items);
  outlet : g.O.Order.outlet l.order ≡ g.O.Order.outlet l.initial.order;
  sink : g.O.Order.sink l.order ≡ g.O.Order.sink l.initial.order;
}

abbrev pub decreases-items : goal.decreases-items
decreases-items g l = deque_len l.items
