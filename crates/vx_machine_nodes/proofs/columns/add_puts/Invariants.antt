use Rattle.std.proofs.Common.{◌≡◌, ◌≤◌, ◌+◌, ◌++◌, ℕ, List, vec_len}
use Rattle.vx_order.specs.Ids.{children}
use Rattle.vx_machine_state.specs.Acts.{puts}
use Rattle.vx_machine_node.specs.View.{todo_of}
use Rattle.std.specs.VecDeque.{deque_len, deque_capacity}
use Rattle.vx_machine_ids.specs.Stock.{both, all_ids}
use Rattle.vx_machine_node.specs.Ledger.{dues_reserved}
use Rattle.vx_machine_node.specs.Stocks.{dues_stock}
use Rattle.vx_machine_nodes.proofs.columns.add_puts.Given as goal

abbrev pub invariant-puts : goal.invariant-puts
invariant-puts l = record {
  same : vec_len l.ids ≡ vec_len l.columns;
  room : deque_len l.todo + vec_len l.columns ≤ deque_capacity l.todo;
  stock : both (all_ids l.ids) (dues_stock l.todo.items) ≡ both (all_ids l.initial.ids) (dues_stock l.initial.todo.items);
  reserved : dues_reserved l.todo.items ≡ dues_reserved l.initial.todo.items;
  order : (p : List ℕ) → l.initial.ids.items ≡ children p (vec_len l.initial.ids) → (l.ids.items ≡ children p (vec_len l.ids))
      × (puts 0 p l.columns.items ++ todo_of l.todo.items ≡ puts 0 p l.initial.columns.items ++ todo_of l.initial.todo.items);
}

abbrev pub decreases-puts : goal.decreases-puts
decreases-puts l = vec_len l.columns
