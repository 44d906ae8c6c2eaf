use Rattle.std.proofs.Common.{◌≡◌, ◌+◌, ◌<◌, length, set, refl, sym, ap, subst, ◌∙◌, arith}
use Rattle.vx_machine_ids.specs.Stock.{both}
use Rattle.vx_machine_ids.specs.Balance.{Owned}
use Rattle.vx_machine_ids.proofs.Lists.{set_same}
use Rattle.vx_machine_ids.proofs.MoveLaws.{moved_as}
use Rattle.vx_machine_node.specs.Stocks.{item_stock}
use Rattle.vx_machine_node.specs.View.{item_of}
use Rattle.vx_machine_task.specs.Stocks.{task_stock, tasks_stock}
use Rattle.vx_machine_task.specs.View.{row}
use Rattle.vx_machine_tasks.proofs.DictActs.{shut_row, shut_moved, shut_reserved, room_beside, ended_row, still_within}
use Rattle.vx_machine_task.proofs.PaidSteps.{at_same}
use Rattle.vx_machine_task.proofs.Readiness.{room_within}
use Rattle.vx_machine_tasks.proofs.dict_acts.end_run.Goals as goal

pub index_mut-requires : goal.index_mut-requires
index_mut-requires g c =
    let r : c.args.child + 1 < length c.args.kids.now.items = room_within c.args.kids.now.items (c.args.child + 1) c.requires.room in
    omega (arith, r, c.args.kids.now.ok.0)

pub overflow_add-child : goal.overflow_add-child
overflow_add-child g c =
    let r : c.args.child + 1 < length c.args.kids.now.items = room_within c.args.kids.now.items (c.args.child + 1) c.requires.room in
    omega (arith, r, c.args.kids.now.ok.0)

pub overflow_add-child-2 : goal.overflow_add-child-2
overflow_add-child-2 g c =
    let r : c.args.child + 1 < length c.args.kids.now.items = room_within c.args.kids.now.items (c.args.child + 1) c.requires.room in
    omega (arith, r, c.args.kids.now.ok.0)

pub put-requires-clause-owned : goal.put-requires-clause-owned
put-requires-clause-owned g c =
    let u = g.O.Order.active c.args.order.now in
    let r : c.args.child + 1 < length c.args.kids.now.items = room_within c.args.kids.now.items (c.args.child + 1) c.requires.room in
    subst (λ z. Owned u (both z (item_stock c.args.item))) (sym (set_same task_stock c.args.kids.now.items c.args.child c.index_mut.result.now c.shut.new.self (omega (arith, r)) (sym c.index_mut.ensures.value) c.shut.ensures.held)) c.requires.owned

pub put-requires-clause-room : goal.put-requires-clause-room
put-requires-clause-room g c = room_beside c.args.kids.now.items c.args.child c.shut.new.self ∙ c.requires.room

pub returns-in_err-put-clause-moved : goal.returns-in_err-put-clause-moved
returns-in_err-put-clause-moved g c =
    let r : c.args.child + 1 < length c.args.kids.now.items = room_within c.args.kids.now.items (c.args.child + 1) c.requires.room in
    let ks = tasks_stock c.args.kids.now.items in
    let js = tasks_stock c.put.new.kids.items in
    moved_as (g.O.Order.active c.args.order.now) (g.O.Order.active c.put.new.order) (both (tasks_stock (set c.args.kids.now.items c.args.child c.shut.new.self)) (item_stock c.args.item)) (both ks (item_stock c.args.item)) js js
    (ap (λ z. both z (item_stock c.args.item)) (set_same task_stock c.args.kids.now.items c.args.child c.index_mut.result.now c.shut.new.self (omega (arith, r)) (sym c.index_mut.ensures.value) c.shut.ensures.held)) refl c.put.ensures.moved

pub returns-in_err-put-clause-same : goal.returns-in_err-put-clause-same
returns-in_err-put-clause-same g c =
    let r : c.args.child + 1 < length c.args.kids.now.items = room_within c.args.kids.now.items (c.args.child + 1) c.requires.room in
    c.put.ensures.same ∙ at_same c.args.kids.now.items c.args.child c.index_mut.result.now c.shut.new.self (omega (arith, r)) (sym c.index_mut.ensures.value) c.shut.ensures.reserved

pub index_mut-requires-2 : goal.index_mut-requires-2
index_mut-requires-2 g c =
    let ks = c.args.kids.now.items in
    let r : c.args.child + 1 < length ks = room_within ks (c.args.child + 1) c.requires.room in
    let w : c.args.child + 1 < length c.put.new.kids.items = still_within ks c.put.new.kids.items c.args.child c.shut.new.self (item_of c.args.item) c.in_ok-put.ensures.kids r in
    omega (arith, w, c.put.new.kids.ok.0)

pub returns-clause-moved : goal.returns-clause-moved
returns-clause-moved g c =
    let ks = c.args.kids.now.items in
    let js = c.put.new.kids.items in
    let r : c.args.child + 1 < length ks = room_within ks (c.args.child + 1) c.requires.room in
    let w : c.args.child + 1 < length js = still_within ks js c.args.child c.shut.new.self (item_of c.args.item) c.in_ok-put.ensures.kids r in
    shut_moved ks js c.args.child c.index_mut.result.now c.shut.new.self (c.args.child + 1) c.index_mut-2.result.now c.shut-2.new.self (omega (arith, r)) (sym c.index_mut.ensures.value) w (sym c.index_mut-2.ensures.value)
    (g.O.Order.active c.args.order.now) (g.O.Order.active c.put.new.order) (item_stock c.args.item) c.shut.ensures.held c.shut-2.ensures.held c.put.ensures.moved

pub returns-clause-same : goal.returns-clause-same
returns-clause-same g c =
    let ks = c.args.kids.now.items in
    let js = c.put.new.kids.items in
    let r : c.args.child + 1 < length ks = room_within ks (c.args.child + 1) c.requires.room in
    let w : c.args.child + 1 < length js = still_within ks js c.args.child c.shut.new.self (item_of c.args.item) c.in_ok-put.ensures.kids r in
    shut_reserved ks js c.args.child c.index_mut.result.now c.shut.new.self (c.args.child + 1) c.index_mut-2.result.now c.shut-2.new.self (omega (arith, r)) (sym c.index_mut.ensures.value) w (sym c.index_mut-2.ensures.value)
    c.shut.ensures.reserved c.shut-2.ensures.reserved c.put.ensures.same

pub returns-clause-kids : goal.returns-clause-kids
returns-clause-kids g c =
    let ks = c.args.kids.now.items in
    let js = c.put.new.kids.items in
    let r : c.args.child + 1 < length ks = room_within ks (c.args.child + 1) c.requires.room in
    let w : c.args.child + 1 < length js = still_within ks js c.args.child c.shut.new.self (item_of c.args.item) c.in_ok-put.ensures.kids r in
    ended_row c.args.child (item_of c.args.item) (row ks) (row (set ks c.args.child c.shut.new.self)) (row js) (row (set js (c.args.child + 1) c.shut-2.new.self))
    (shut_row ks c.args.child c.index_mut.result.now c.shut.new.self (omega (arith, r)) (sym c.index_mut.ensures.value) c.shut.ensures.shows) c.in_ok-put.ensures.kids
    (shut_row js (c.args.child + 1) c.index_mut-2.result.now c.shut-2.new.self w (sym c.index_mut-2.ensures.value) c.shut-2.ensures.shows)
