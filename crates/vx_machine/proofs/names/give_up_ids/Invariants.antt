use Rattle.std.proofs.Common.{◌≡◌}
use Rattle.std.specs.VecDeque.{deque_len}
use Rattle.vx_machine_ids.specs.Stock.{ids_stock}
use Rattle.vx_machine_ids.specs.Balance.{Owned, Moved}
use Rattle.vx_machine.proofs.names.give_up_ids.Given as goal

abbrev pub invariant-ids : goal.invariant-ids
invariant-ids g l = record {
  owned : Owned (g.O.Order.active l.order) (ids_stock l.ids.items);
  moved : Moved (g.O.Order.active l.initial.order) (g.O.Order.active l.order) (ids_stock l.initial.ids.items) (ids_stock l.ids.items);
  outlet : g.O.Order.outlet l.order ≡ g.O.Order.outlet l.initial.order;
  sink : g.O.Order.sink l.order ≡ g.O.Order.sink l.initial.order;
}

abbrev pub decreases-ids : goal.decreases-ids
decreases-ids g l = deque_len l.ids
