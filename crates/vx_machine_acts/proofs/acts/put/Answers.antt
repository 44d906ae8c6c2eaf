use Rattle.std.proofs.Common.{◌<◌, length, sym, subst, arith}
use Rattle.vx_sequence.specs.Universe.{Active}
use Rattle.vx_machine_ids.specs.Stock.{none}
use Rattle.vx_machine_ids.specs.Balance.{Owned, Moved}
use Rattle.vx_machine_ids.proofs.MoveLaws.{owned_right}
use Rattle.vx_machine_node.specs.Stocks.{item_stock}
use Rattle.vx_machine_task.specs.Stocks.{tasks_stock}
use Rattle.vx_machine_acts.proofs.ActMoves.{given_moved, back_moved}
use Rattle.vx_machine_task.proofs.Readiness.{room_within}
use Rattle.vx_machine_node.specs.View.{item_of}
use Rattle.vx_machine_task.proofs.PaidSteps.{at_same}
use Rattle.vx_machine_task.proofs.RowSteps.{put_row}
use Rattle.vx_machine_acts.proofs.acts.put.Goals as goal

pub index_mut-requires : goal.index_mut-requires
index_mut-requires g c =
    let r : c.args.child < length c.args.kids.now.items = room_within c.args.kids.now.items c.args.child c.requires.room in
    omega (arith, r, c.args.kids.now.ok.0)

pub returns-in-Ok-clause-moved : goal.returns-in-Ok-clause-moved
returns-in-Ok-clause-moved g c =
    given_moved (g.O.Order.active c.args.order.now) c.args.kids.now.items c.args.child c.index_mut.result.now c.give.new.self c.args.item
    (room_within c.args.kids.now.items c.args.child c.requires.room) (sym c.index_mut.ensures.value) c.in-Ok.ensures.given c.requires.owned

pub give_up_item-requires : goal.give_up_item-requires
give_up_item-requires g c =
    let u : Active = g.O.Order.active c.args.order.now in
    subst (λ i. Owned u (item_stock i)) (sym c.in-Err.ensures.unchanged.0) (owned_right u (tasks_stock c.args.kids.now.items) (item_stock c.args.item) c.requires.owned)

pub returns-in-Err-clause-moved : goal.returns-in-Err-clause-moved
returns-in-Err-clause-moved g c =
    let u : Active = g.O.Order.active c.args.order.now in
    let v : Active = g.O.Order.active c.give_up_item.new.order in
    back_moved u v c.args.kids.now.items c.args.child c.index_mut.result.now c.give.new.self c.args.item
    (room_within c.args.kids.now.items c.args.child c.requires.room) (sym c.index_mut.ensures.value) c.in-Err.ensures.unchanged.1 c.requires.owned
    (subst (λ i. Moved u v (item_stock i) none) c.in-Err.ensures.unchanged.0 c.give_up_item.ensures.moved)

pub returns-in-Ok-clause-kids : goal.returns-in-Ok-clause-kids
returns-in-Ok-clause-kids g c =
    put_row c.args.kids.now.items c.args.child c.index_mut.result.now c.give.new.self (item_of c.args.item)
    (room_within c.args.kids.now.items c.args.child c.requires.room) (sym c.index_mut.ensures.value) c.in-Ok.ensures.shows

pub returns-in-Ok-clause-same : goal.returns-in-Ok-clause-same
returns-in-Ok-clause-same g c =
    at_same c.args.kids.now.items c.args.child c.index_mut.result.now c.give.new.self (room_within c.args.kids.now.items c.args.child c.requires.room) (sym c.index_mut.ensures.value) c.give.ensures.reserved

pub returns-in-Err-clause-same : goal.returns-in-Err-clause-same
returns-in-Err-clause-same g c =
    at_same c.args.kids.now.items c.args.child c.index_mut.result.now c.give.new.self (room_within c.args.kids.now.items c.args.child c.requires.room) (sym c.index_mut.ensures.value) c.give.ensures.reserved
