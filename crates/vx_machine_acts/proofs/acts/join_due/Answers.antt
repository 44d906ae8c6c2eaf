use Rattle.vx_machine_ids.proofs.MoveLaws.{owned_right}
use Rattle.vx_machine_node.specs.Stocks.{local_stock}
use Rattle.vx_machine_task.specs.Stocks.{tasks_stock}
use Rattle.vx_machine_acts.proofs.ActMoves.{joined_moved, local_owned, joined_then}
use Rattle.std.proofs.Common.{◌≡◌, ap, ◌∙◌, arith}
use Rattle.vx_machine_node.specs.Ledger.{local_reserved}
use Rattle.vx_machine_task.specs.View.{row}
use Rattle.vx_machine_acts.proofs.ActShows.{joined_done}
use Rattle.vx_machine_acts.proofs.acts.join_due.Goals as goal

pub join-requires-clause-owned : goal.join-requires-clause-owned
join-requires-clause-owned g c = owned_right (g.O.Order.active c.args.order.now) (local_stock c.args.local.now) (tasks_stock c.args.kids.now.items) c.requires.owned

pub set_local-requires-clause-owned : goal.set_local-requires-clause-owned
set_local-requires-clause-owned g c = local_owned (g.O.Order.active c.args.order.now) (g.O.Order.active c.join.new.order) (local_stock c.args.local.now) (tasks_stock c.args.kids.now.items) (tasks_stock c.join.new.kids.items) c.requires.owned c.join.ensures.moved

pub returns-in-Ok-clause-moved : goal.returns-in-Ok-clause-moved
returns-in-Ok-clause-moved g c =
    joined_then (g.O.Order.active c.args.order.now) (g.O.Order.active c.join.new.order) (local_stock c.args.local.now) (tasks_stock c.args.kids.now.items) (tasks_stock c.join.new.kids.items) c.requires.owned c.join.ensures.moved
    (g.O.Order.active c.set_local.new.order) (local_stock c.set_local.new.local) c.set_local.ensures.moved

pub returns-in-Err-clause-moved : goal.returns-in-Err-clause-moved
returns-in-Err-clause-moved g c =
    joined_moved (g.O.Order.active c.args.order.now) (g.O.Order.active c.join.new.order) (local_stock c.args.local.now) (tasks_stock c.args.kids.now.items) (tasks_stock c.join.new.kids.items) c.requires.owned c.join.ensures.moved

pub returns-in-Ok-clause-done : goal.returns-in-Ok-clause-done
returns-in-Ok-clause-done g c = λ s at n mind left.
    joined_done s at n mind left c.args.shape (row c.args.kids.now.items) c.in-Ok.layout c.set_local.new.local c.join.new.kids.items (g.O.Order.outlet c.args.order.now) (g.O.Order.outlet c.set_local.new.order)
    c.in-Ok.ensures.layout c.set_local.ensures.local c.in-Ok.ensures.no_kids (c.set_local.ensures.outlet ∙ c.join.ensures.outlet)

-- of what is reserved: the children's part is paid first, then what was in mind
pub join-requires-clause-reserved : goal.join-requires-clause-reserved
join-requires-clause-reserved g c = omega (arith, c.requires.reserved)

pub set_local-requires-clause-reserved : goal.set_local-requires-clause-reserved
set_local-requires-clause-reserved g c = omega (arith, c.requires.reserved, c.join.ensures.tracked)

pub returns-in-Ok-clause-tracked : goal.returns-in-Ok-clause-tracked
returns-in-Ok-clause-tracked g c =
    let l : local_reserved c.set_local.new.local ≡ 0 = ap local_reserved c.set_local.ensures.local in
    omega (arith, l, c.join.ensures.tracked, c.set_local.ensures.tracked)

pub returns-in-Err-clause-tracked : goal.returns-in-Err-clause-tracked
returns-in-Err-clause-tracked g c = omega (arith, c.join.ensures.tracked)

pub returns-in-Ok-clause-context : goal.returns-in-Ok-clause-context
returns-in-Ok-clause-context g c = c.set_local.ensures.context ∙ c.join.ensures.context
