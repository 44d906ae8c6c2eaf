use Rattle.std.proofs.Common.{sym, ap, subst, ◌∙◌, ◌≡◌, ◌+◌, [], refl, arith}
use Rattle.vx_machine_ids.specs.Stock.{both}
use Rattle.vx_machine_tasks.specs.Pairs.{next_pairs, AllMay}
use Rattle.vx_machine_task.specs.Ready.{may_todo, kids_of}
use Rattle.vx_machine_node.specs.Ledger.{due_reserved, dues_reserved}
use Rattle.vx_machine_node.specs.Stocks.{items_stock, dues_stock, local_stock}
use Rattle.vx_machine_node.specs.View.{todo_of}
use Rattle.vx_machine_task.specs.Stocks.{head_stock, tasks_stock}
use Rattle.vx_machine_acts.proofs.ActMoves.{act_owned, act_moved, idle_owned, idle_moved}
use Rattle.vx_machine_nodes.proofs.ActCauses.{wider}
use Rattle.vx_machine_nodes.proofs.CallSteps.{unasked_by, quiet_stops}
use Rattle.vx_machine_task.specs.declared.task.Head.{Head}
use Rattle.vx_machine_nodes.proofs.WriteSteps.{kept_same}
use Rattle.vx_machine_tasks.proofs.NextShows.{due_done, due_refused, take_acted, take_refused, take_open}
use Rattle.vx_machine_node.proofs.ListParts.{none_is}
use Rattle.std.proofs.lemmas.Result.{IfErr-weaker}
use Rattle.vx_machine_acts.specs.Acting.{DueFails, NextFails}
use Rattle.vx_machine_tasks.proofs.CallShows.{due_fails, take_fails}
use Rattle.vx_machine_tasks.proofs.advance.advance.Goals as goal

pub act-requires-clause-owned : goal.act-requires-clause-owned
act-requires-clause-owned g c =
    act_owned (g.O.Order.active c.args.order.now) (local_stock c.args.head.now.local) (items_stock c.args.head.now.inbox.items) (tasks_stock c.args.kids.now.items)
    c.args.head.now.todo.items c.pop_front.new.self.items c.in-Some.due c.in-Some.ensures.items c.requires.owned

pub act-requires-clause-ready : goal.act-requires-clause-ready
act-requires-clause-ready g c =
    sym (ap (may_todo (g.O.Order.active c.args.order.now) c.args.head.now (kids_of c.args.kids.now.items)) c.in-Some.ensures.items) ∙ c.requires.ready

pub act-requires-clause-allowed : goal.act-requires-clause-allowed
act-requires-clause-allowed g c =
    subst (λ ds. AllMay (g.O.Order.may_write c.args.order.now) (next_pairs ds)) c.in-Some.ensures.items c.requires.allowed

pub returns-in-Some-clause-moved : goal.returns-in-Some-clause-moved
returns-in-Some-clause-moved g c =
    act_moved (g.O.Order.active c.args.order.now) (local_stock c.args.head.now.local) (items_stock c.args.head.now.inbox.items) (tasks_stock c.args.kids.now.items)
    c.args.head.now.todo.items c.pop_front.new.self.items c.in-Some.due c.in-Some.ensures.items c.requires.owned
    (g.O.Order.active c.act.new.order) (local_stock c.act.new.local) (dues_stock c.act.new.todo.items) (tasks_stock c.act.new.kids.items) c.act.ensures.moved

pub take_next-requires-clause-owned : goal.take_next-requires-clause-owned
take_next-requires-clause-owned g c =
    idle_owned (g.O.Order.active c.args.order.now) (local_stock c.args.head.now.local) (items_stock c.args.head.now.inbox.items) (tasks_stock c.args.kids.now.items)
    c.args.head.now.todo.items c.pop_front.new.self.items c.in-None.ensures.items c.requires.owned

pub returns-in-Ok-clause-moved : goal.returns-in-Ok-clause-moved
returns-in-Ok-clause-moved g c =
    idle_moved (g.O.Order.active c.args.order.now) (local_stock c.args.head.now.local) (items_stock c.args.head.now.inbox.items) (tasks_stock c.args.kids.now.items)
    c.args.head.now.todo.items c.pop_front.new.self.items c.in-None.ensures.items c.requires.owned
    (g.O.Order.active c.take_next.new.order) (both (head_stock c.take_next.new.head) (tasks_stock c.take_next.new.kids.items)) c.take_next.ensures.moved

pub returns-in-Err-clause-moved : goal.returns-in-Err-clause-moved
returns-in-Err-clause-moved g c =
    idle_moved (g.O.Order.active c.args.order.now) (local_stock c.args.head.now.local) (items_stock c.args.head.now.inbox.items) (tasks_stock c.args.kids.now.items)
    c.args.head.now.todo.items c.pop_front.new.self.items c.in-None.ensures.items c.requires.owned
    (g.O.Order.active c.take_next.new.order) (both (head_stock c.take_next.new.head) (tasks_stock c.take_next.new.kids.items)) c.take_next.ensures.moved

pub returns-in-Ok-clause-told : goal.returns-in-Ok-clause-told
returns-in-Ok-clause-told g c = (refl, unasked_by g.O.Sink.Fallible.faults g.O.Sink.Fallible.may_fail g.O.Sink.Fallible.must_fail (g.O.Order.sink c.args.order.now) (g.O.Order.sink c.take_next.new.order) c.take_next.ensures.sink)

pub returns-in-Err-clause-told : goal.returns-in-Err-clause-told
returns-in-Err-clause-told g c = quiet_stops g.O.Sink.Fallible.faults g.O.Sink.Fallible.may_fail g.O.Sink.Fallible.must_fail (g.O.Order.sink c.args.order.now) (g.O.Order.sink c.take_next.new.order) c.take_next.ensures.sink c.in-Err.error c.in-Err.ensures.cause

pub returns-in-Err-clause-cause : goal.returns-in-Err-clause-cause
returns-in-Err-clause-cause g c = wider c.in-Err.error c.in-Err.ensures.cause

pub returns-in-Some-clause-done : goal.returns-in-Some-clause-done
returns-in-Some-clause-done g c =
    let e : Head = record { name = c.args.head.now.name; local = c.act.new.local; todo = c.act.new.todo; inbox = c.args.head.now.inbox; places = c.args.head.now.places; closed = c.args.head.now.closed } in
    due_done c.args.ctx.now (g.C.CompressorPlugin.image (g.C.CompressorPlugin.kind c.args.compressor.now)) c.args.head.now c.args.kids.now.items c.in-Some.due c.pop_front.new.self.items c.in-Some.ensures.items
    e c.act.new.kids.items (g.O.Order.outlet c.args.order.now) (g.O.Order.outlet c.act.new.order) c.act.new.local (todo_of c.act.new.todo.items) c.act.result refl c.act.ensures.done

pub returns-in-Some-clause-refused : goal.returns-in-Some-clause-refused
returns-in-Some-clause-refused g c =
    due_refused c.args.ctx.now (g.C.CompressorPlugin.image (g.C.CompressorPlugin.kind c.args.compressor.now)) c.args.head.now c.args.kids.now.items c.in-Some.due c.pop_front.new.self.items c.in-Some.ensures.items (g.O.Order.outlet c.args.order.now) c.act.result c.act.ensures.refused

pub returns-in-Ok-clause-done : goal.returns-in-Ok-clause-done
returns-in-Ok-clause-done g c =
    let image = g.C.CompressorPlugin.image (g.C.CompressorPlugin.kind c.args.compressor.now) in
    let none : c.pop_front.new.self.items ≡ [] = none_is c.pop_front.new.self.items (sym c.pop_front.new.self.ok.0 ∙ c.in-None.ensures.cases.1) in
    take_acted c.args.ctx.now c.args.head.now c.args.kids.now.items c.pop_front.new.self.items c.in-None.ensures.items none image c.take_next.new.head c.take_next.new.kids.items
    (g.O.Order.outlet c.args.order.now) (g.O.Order.outlet c.take_next.new.order) c.take_next.ensures.outlet (c.in-Ok.ensures.done none image)

pub returns-in-Err-clause-refused : goal.returns-in-Err-clause-refused
returns-in-Err-clause-refused g c = λ n.
    let image = g.C.CompressorPlugin.image (g.C.CompressorPlugin.kind c.args.compressor.now) in
    let none : c.pop_front.new.self.items ≡ [] = none_is c.pop_front.new.self.items (sym c.pop_front.new.self.ok.0 ∙ c.in-None.ensures.cases.1) in
    take_refused c.args.ctx.now c.args.head.now c.args.kids.now.items c.pop_front.new.self.items c.in-None.ensures.items none image n (g.O.Order.outlet c.args.order.now) c.in-Err.error
    (c.in-Err.ensures.refused (take_open (g.O.Order.active c.args.order.now) c.args.head.now (kids_of c.args.kids.now.items) (c.in-None.ensures.items ∙ none) c.requires.ready) image)

pub returns-in-Err-clause-kept : goal.returns-in-Err-clause-kept
returns-in-Err-clause-kept g c = kept_same (g.O.Order.outlet c.args.order.now) (g.O.Order.outlet c.take_next.new.order) c.take_next.ensures.outlet

pub returns-in-Some-clause-called : goal.returns-in-Some-clause-called
returns-in-Some-clause-called g c =
    IfErr-weaker c.act.result (DueFails c.in-Some.due) (NextFails c.args.head.now.todo.items)
    (λ e. due_fails c.args.head.now.todo.items c.pop_front.new.self.items c.in-Some.due e c.in-Some.ensures.items) c.act.ensures.called

pub returns-in-Err-clause-called : goal.returns-in-Err-clause-called
returns-in-Err-clause-called g c =
    let none : c.pop_front.new.self.items ≡ [] = none_is c.pop_front.new.self.items (sym c.pop_front.new.self.ok.0 ∙ c.in-None.ensures.cases.1) in
    take_fails c.args.head.now.todo.items c.in-Err.error (c.in-None.ensures.items ∙ none) c.in-Err.ensures.cause

-- ---- what is reserved

pub act-requires-clause-reserved : goal.act-requires-clause-reserved
act-requires-clause-reserved g c =
    let d : dues_reserved c.args.head.now.todo.items ≡ due_reserved c.in-Some.due + dues_reserved c.pop_front.new.self.items = ap dues_reserved c.in-Some.ensures.items in
    omega (arith, d, c.requires.reserved)

pub returns-in-Some-clause-tracked : goal.returns-in-Some-clause-tracked
returns-in-Some-clause-tracked g c =
    let d : dues_reserved c.args.head.now.todo.items ≡ due_reserved c.in-Some.due + dues_reserved c.pop_front.new.self.items = ap dues_reserved c.in-Some.ensures.items in
    omega (arith, d, c.act.ensures.tracked)

pub take_next-requires-clause-reserved : goal.take_next-requires-clause-reserved
take_next-requires-clause-reserved g c =
    let d : dues_reserved c.args.head.now.todo.items ≡ dues_reserved c.pop_front.new.self.items = ap dues_reserved c.in-None.ensures.items in
    omega (arith, d, c.requires.reserved)

pub returns-in-Ok-clause-tracked : goal.returns-in-Ok-clause-tracked
returns-in-Ok-clause-tracked g c =
    let d : dues_reserved c.args.head.now.todo.items ≡ dues_reserved c.pop_front.new.self.items = ap dues_reserved c.in-None.ensures.items in
    omega (arith, d, c.take_next.ensures.tracked)

pub returns-in-Err-clause-tracked : goal.returns-in-Err-clause-tracked
returns-in-Err-clause-tracked g c =
    let d : dues_reserved c.args.head.now.todo.items ≡ dues_reserved c.pop_front.new.self.items = ap dues_reserved c.in-None.ensures.items in
    omega (arith, d, c.take_next.ensures.tracked)
