use Rattle.vx_sequence.specs.Universe.{Active}
use Rattle.vx_machine_ids.specs.Stock.{Stock, both, none}
use Rattle.vx_machine_ids.specs.Balance.{Owned, Moved}
use Rattle.vx_machine_ids.proofs.MoveLaws.{owned_left, owned_now, moved_then, moved_drop_first}
use Rattle.vx_machine_node.specs.Stocks.{items_stock, dues_stock, local_stock}
use Rattle.vx_machine_task.proofs.task.give_up_head.Goals as goal

pub give_up_local-requires-clause-owned : goal.give_up_local-requires-clause-owned
give_up_local-requires-clause-owned g c = owned_left (g.O.Order.active c.args.order.now) (local_stock c.args.head.local) (both (dues_stock c.args.head.todo.items) (items_stock c.args.head.inbox.items)) c.requires.owned

pub give_up_dues-requires-clause-owned : goal.give_up_dues-requires-clause-owned
give_up_dues-requires-clause-owned g c =
    let u : Active = g.O.Order.active c.args.order.now in
    let v : Active = g.O.Order.active c.give_up_local.new.order in
    let l : Stock = local_stock c.args.head.local in
    let a : Stock = dues_stock c.args.head.todo.items in
    let b : Stock = items_stock c.args.head.inbox.items in
    owned_left v a b (owned_now u v (both l (both a b)) (both a b) c.requires.owned (moved_drop_first u v l (both a b) c.requires.owned c.give_up_local.ensures.moved))

pub give_up_items-requires : goal.give_up_items-requires
give_up_items-requires g c =
    let u : Active = g.O.Order.active c.args.order.now in
    let v : Active = g.O.Order.active c.give_up_local.new.order in
    let w : Active = g.O.Order.active c.give_up_dues.new.order in
    let l : Stock = local_stock c.args.head.local in
    let a : Stock = dues_stock c.args.head.todo.items in
    let b : Stock = items_stock c.args.head.inbox.items in
    let o : Owned v (both a b) = owned_now u v (both l (both a b)) (both a b) c.requires.owned (moved_drop_first u v l (both a b) c.requires.owned c.give_up_local.ensures.moved) in
    owned_now v w (both a b) b o (moved_drop_first v w a b o c.give_up_dues.ensures.moved)

pub returns-clause-moved : goal.returns-clause-moved
returns-clause-moved g c =
    let u : Active = g.O.Order.active c.args.order.now in
    let v : Active = g.O.Order.active c.give_up_local.new.order in
    let w : Active = g.O.Order.active c.give_up_dues.new.order in
    let x : Active = g.O.Order.active c.give_up_items.new.order in
    let l : Stock = local_stock c.args.head.local in
    let a : Stock = dues_stock c.args.head.todo.items in
    let b : Stock = items_stock c.args.head.inbox.items in
    let m : Moved u v (both l (both a b)) (both a b) = moved_drop_first u v l (both a b) c.requires.owned c.give_up_local.ensures.moved in
    let o : Owned v (both a b) = owned_now u v (both l (both a b)) (both a b) c.requires.owned m in
    moved_then u v x (both l (both a b)) (both a b) none m (moved_then v w x (both a b) b none (moved_drop_first v w a b o c.give_up_dues.ensures.moved) c.give_up_items.ensures.moved)
