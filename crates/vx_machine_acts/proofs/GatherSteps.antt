-- A task whose layouts are taken gives up its ids part by part: what it still has to do, its queue, its children.
use Rattle.std.proofs.Common.{◌≡◌, refl, sym, ap, ◌∙◌, arith}
use Rattle.vx_sequence.specs.Universe.{Active}
use Rattle.vx_machine_ids.specs.Stock.{Stock, none, both}
use Rattle.vx_machine_ids.specs.Balance.{Owned, Moved}
use Rattle.vx_machine_ids.proofs.Stocks.{stock_is, none_both}
use Rattle.vx_machine_ids.proofs.MoveLaws.{moved_then, moved_drop_first, moved_as, owned_as, owned_left, owned_rest}
use Rattle.vx_machine_node.specs.Stocks.{dues_stock, items_stock, local_stock}
use Rattle.vx_machine_task.specs.Stocks.{head_stock, task_stock, tasks_stock}
use Rattle.vx_machine_task.specs.declared.task.Task.{Task, out-Task}
use Rattle.vx_machine_task.proofs.TaskParts.{task_stock_out}

abbrev todo_stock : Task → Stock
todo_stock t = dues_stock (out-Task t).head.todo.items

abbrev inbox_stock : Task → Stock
inbox_stock t = items_stock (out-Task t).head.inbox.items

abbrev rest_stock : Task → Stock
rest_stock t = both (local_stock (out-Task t).head.local) (tasks_stock (out-Task t).kids.items)

apart : (t : Task) → task_stock t ≡ both (todo_stock t) (both (inbox_stock t) (rest_stock t))
apart t =
    task_stock_out t
    ∙ stock_is (both (head_stock (out-Task t).head) (tasks_stock (out-Task t).kids.items)) (both (todo_stock t) (both (inbox_stock t) (rest_stock t))) (λ p. omega arith) (λ p. omega arith)

module _ (u : Active) (t : Task) (o : Owned u (task_stock t)) where
  parts_held : Owned u (both (todo_stock t) (both (inbox_stock t) (rest_stock t)))
  parts_held = owned_as u (task_stock t) (both (todo_stock t) (both (inbox_stock t) (rest_stock t))) (apart t) o

  pub todo_owned : Owned u (todo_stock t)
  todo_owned = owned_left u (todo_stock t) (both (inbox_stock t) (rest_stock t)) parts_held

  module _ (v : Active) (m : Moved u v (todo_stock t) none) where
    rest_held : Owned v (both (inbox_stock t) (rest_stock t))
    rest_held = owned_rest u v (todo_stock t) (both (inbox_stock t) (rest_stock t)) parts_held m

    pub inbox_owned : Owned v (inbox_stock t)
    inbox_owned = owned_left v (inbox_stock t) (rest_stock t) rest_held

    module _ (w : Active) (n : Moved v w (inbox_stock t) none) (e : local_stock (out-Task t).head.local ≡ none) where
      rest_is : rest_stock t ≡ tasks_stock (out-Task t).kids.items
      rest_is = ap (λ z. both z (tasks_stock (out-Task t).kids.items)) e ∙ none_both (tasks_stock (out-Task t).kids.items)

      pub below_owned : Owned w (tasks_stock (out-Task t).kids.items)
      below_owned = owned_as w (rest_stock t) (tasks_stock (out-Task t).kids.items) rest_is (owned_rest v w (inbox_stock t) (rest_stock t) rest_held n)

      pub below_moved : (x : Active) (r : Stock) → Moved w x (tasks_stock (out-Task t).kids.items) r → Moved u x (task_stock t) r
      below_moved x r k =
          moved_as u x (both (todo_stock t) (both (inbox_stock t) (rest_stock t))) (task_stock t) r r (sym (apart t)) refl
          (moved_then u v x (both (todo_stock t) (both (inbox_stock t) (rest_stock t))) (both (inbox_stock t) (rest_stock t)) r
          (moved_drop_first u v (todo_stock t) (both (inbox_stock t) (rest_stock t)) parts_held m)
          (moved_then v w x (both (inbox_stock t) (rest_stock t)) (rest_stock t) r (moved_drop_first v w (inbox_stock t) (rest_stock t) rest_held n)
          (moved_as w x (tasks_stock (out-Task t).kids.items) (rest_stock t) r r (sym rest_is) refl k)))
