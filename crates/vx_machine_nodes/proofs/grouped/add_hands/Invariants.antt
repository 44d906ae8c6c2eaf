use Rattle.std.proofs.Common.{◌≡◌, ◌≤◌, ◌<◌, ◌+◌, ◌++◌, [], ℕ, List, map, vec_len}
use Rattle.std.specs.VecDeque.{deque_len, deque_capacity}
use Rattle.vx_model.specs.ChunkData.{held}
use Rattle.vx_order.specs.Ids.{children}
use Rattle.vx_rules.specs.Regroup.{ranked}
use Rattle.vx_machine_ids.specs.Stock.{both, all_ids}
use Rattle.vx_machine_state.specs.Acts.{hand_all}
use Rattle.vx_machine_node.specs.Ledger.{dues_reserved}
use Rattle.vx_machine_node.specs.Sizes.{sum_of}
use Rattle.vx_machine_node.specs.Stocks.{dues_stock}
use Rattle.vx_machine_node.specs.View.{todo_of}
use Rattle.vx_machine_nodes.proofs.grouped.add_hands.Given as goal

abbrev pub invariant-hands : goal.invariant-hands
invariant-hands l = record {
  same : vec_len l.ids ≡ vec_len l.chunks;
  room : deque_len l.todo + vec_len l.chunks ≤ deque_capacity l.todo;
  stock : both (all_ids l.ids) (dues_stock l.todo.items) ≡ both (all_ids l.initial.ids) (dues_stock l.initial.todo.items);
  balance : dues_reserved l.todo.items + sum_of l.reserved.items ≡ dues_reserved l.initial.todo.items + sum_of l.initial.reserved.items;
  space : deque_len l.initial.reserved < deque_capacity l.initial.reserved → deque_len l.reserved < deque_capacity l.reserved;
  ids : (p : List ℕ) → l.initial.ids.items ≡ children p (vec_len l.initial.ids) → l.ids.items ≡ children p (vec_len l.ids);
  weighed : (p rest : List ℕ) → l.initial.ids.items ≡ children p (vec_len l.initial.ids) → l.initial.reserved.items ≡ rest ++ map held l.initial.chunks.items
      → (l.reserved.items ≡ rest ++ map held l.chunks.items) × (hand_all held (ranked p 0 l.chunks.items) ++ todo_of l.todo.items ≡ hand_all held (ranked p 0 l.initial.chunks.items) ++ todo_of l.initial.todo.items);
  unweighed : (p : List ℕ) → l.initial.ids.items ≡ children p (vec_len l.initial.ids) → l.initial.reserved.items ≡ []
      → (l.reserved.items ≡ []) × (hand_all (λ c. 0) (ranked p 0 l.chunks.items) ++ todo_of l.todo.items ≡ hand_all (λ c. 0) (ranked p 0 l.initial.chunks.items) ++ todo_of l.initial.todo.items);
}

abbrev pub decreases-hands : goal.decreases-hands
decreases-hands l = vec_len l.chunks
