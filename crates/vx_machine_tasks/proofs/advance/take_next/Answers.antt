use Rattle.vx_machine_node.specs.Stocks.{dues_stock, local_stock}
use Rattle.vx_machine_task.specs.Stocks.{tasks_stock}
use Rattle.vx_machine_acts.proofs.ActMoves.{take_owned, take_moved, last_owned, last_moved, probe_owned, probe_moved}
use Rattle.std.proofs.Common.{refl, sym, ap, ◌∙◌, arith}
use Rattle.vx_machine_task.specs.declared.task.Head.{Head}
use Rattle.vx_machine_node.specs.View.{todo_of}
use Rattle.vx_machine_tasks.proofs.NextShows.{chunk_done, chunk_refused, end_done, end_refused, probe_done, probe_refused}
use Rattle.vx_machine_acts.proofs.TakeShows.{unprobed}
use Rattle.vx_machine_nodes.specs.Acting.{is_probe}
use Rattle.vx_machine_node.proofs.ListParts.{none_is}
use Rattle.vx_machine_tasks.proofs.advance.take_next.Goals as goal

pub take-requires-clause-owned : goal.take-requires-clause-owned
take-requires-clause-owned g c =
    take_owned (g.O.Order.active c.args.order.now) (local_stock c.args.head.now.local) (dues_stock c.args.head.now.todo.items) (tasks_stock c.args.kids.now.items)
    c.args.head.now.inbox.items c.pop_front.new.self.items c.in-Some.item c.in-Some.ensures.items c.requires.owned

pub returns-in-Some-clause-moved : goal.returns-in-Some-clause-moved
returns-in-Some-clause-moved g c =
    take_moved (g.O.Order.active c.args.order.now) (local_stock c.args.head.now.local) (dues_stock c.args.head.now.todo.items) (tasks_stock c.args.kids.now.items)
    c.args.head.now.inbox.items c.pop_front.new.self.items c.in-Some.item c.in-Some.ensures.items c.requires.owned
    (g.O.Order.active c.take.new.order) (local_stock c.take.new.local) (dues_stock c.take.new.todo.items) (tasks_stock c.take.new.kids.items) c.take.ensures.moved

pub end-requires-clause-owned : goal.end-requires-clause-owned
end-requires-clause-owned g c =
    last_owned (g.O.Order.active c.args.order.now) (local_stock c.args.head.now.local) (dues_stock c.args.head.now.todo.items) (tasks_stock c.args.kids.now.items)
    c.args.head.now.inbox.items c.pop_front.new.self.items c.in-None.ensures.items c.requires.owned

pub returns-in_default-clause-moved : goal.returns-in_default-clause-moved
returns-in_default-clause-moved g c =
    last_moved (g.O.Order.active c.args.order.now) (local_stock c.args.head.now.local) (dues_stock c.args.head.now.todo.items) (tasks_stock c.args.kids.now.items)
    c.args.head.now.inbox.items c.pop_front.new.self.items c.in-None.ensures.items c.requires.owned
    (g.O.Order.active c.end.new.order) (local_stock c.end.new.local) (dues_stock c.end.new.todo.items) c.end.ensures.moved

pub returns-in-Some-clause-done : goal.returns-in-Some-clause-done
returns-in-Some-clause-done g c = λ idle.
    let e : Head = record { name = c.args.head.now.name; local = c.take.new.local; todo = c.take.new.todo; inbox = c.pop_front.new.self; places = c.args.head.now.places; closed = c.args.head.now.closed } in
    chunk_done c.args.ctx.now c.args.head.now c.args.kids.now.items c.in-Some.item c.pop_front.new.self.items c.in-Some.ensures.items
    e c.take.new.kids.items c.take.new.local (todo_of c.take.new.todo.items) c.take.result idle refl (c.take.ensures.done idle)

pub returns-in-Some-clause-refused : goal.returns-in-Some-clause-refused
returns-in-Some-clause-refused g c = λ more.
    chunk_refused c.args.ctx.now c.args.head.now c.args.kids.now.items c.in-Some.item c.pop_front.new.self.items c.in-Some.ensures.items c.take.result (c.take.ensures.refused more)

pub returns-in_default-clause-done : goal.returns-in_default-clause-done
returns-in_default-clause-done g c = λ idle.
    let e : Head = record { name = c.args.head.now.name; local = c.end.new.local; todo = c.end.new.todo; inbox = c.pop_front.new.self; places = c.args.head.now.places; closed = c.args.head.now.closed } in
    end_done c.args.ctx.now c.args.head.now c.args.kids.now.items c.pop_front.new.self.items c.in-None.ensures.items
    (none_is c.pop_front.new.self.items (sym c.pop_front.new.self.ok.0 ∙ c.in-None.ensures.cases.1))
    e c.end.new.local (todo_of c.end.new.todo.items) c.len.result c.end.result (c.len.ensures ∙ c.args.kids.now.ok.0) idle (unprobed c.args.head.now.local c.in_default.not-Probe) refl (c.end.ensures.done idle)

pub returns-in_default-clause-refused : goal.returns-in_default-clause-refused
returns-in_default-clause-refused g c = λ more.
    end_refused c.args.ctx.now c.args.head.now c.args.kids.now.items c.pop_front.new.self.items c.in-None.ensures.items
    (none_is c.pop_front.new.self.items (sym c.pop_front.new.self.ok.0 ∙ c.in-None.ensures.cases.1)) c.len.result c.end.result (c.len.ensures ∙ c.args.kids.now.ok.0) c.end.ensures.refused

-- ---- the end of a dictionary node's stream, to which no chunk came

pub end_probe-requires-clause-owned : goal.end_probe-requires-clause-owned
end_probe-requires-clause-owned g c =
    probe_owned (g.O.Order.active c.args.order.now) (local_stock c.args.head.now.local) (dues_stock c.args.head.now.todo.items) (tasks_stock c.args.kids.now.items)
    c.args.head.now.inbox.items c.pop_front.new.self.items c.in-None.ensures.items c.requires.owned

pub end_probe-requires-clause-probe : goal.end_probe-requires-clause-probe
end_probe-requires-clause-probe g c = ap is_probe c.in-Probe.is

pub end-requires-clause-other : goal.end-requires-clause-other
end-requires-clause-other g c = unprobed c.args.head.now.local c.in_default.not-Probe

pub returns-in-Probe-clause-moved : goal.returns-in-Probe-clause-moved
returns-in-Probe-clause-moved g c =
    probe_moved (g.O.Order.active c.args.order.now) (local_stock c.args.head.now.local) (dues_stock c.args.head.now.todo.items) (tasks_stock c.args.kids.now.items)
    c.args.head.now.inbox.items c.pop_front.new.self.items c.in-None.ensures.items c.requires.owned
    (g.O.Order.active c.end_probe.new.order) (local_stock c.end_probe.new.local) (dues_stock c.end_probe.new.todo.items) (tasks_stock c.end_probe.new.kids.items) c.end_probe.ensures.moved

pub returns-in-Probe-clause-done : goal.returns-in-Probe-clause-done
returns-in-Probe-clause-done g c = λ idle.
    let e : Head = record { name = c.args.head.now.name; local = c.end_probe.new.local; todo = c.end_probe.new.todo; inbox = c.pop_front.new.self; places = c.args.head.now.places; closed = c.args.head.now.closed } in
    probe_done c.args.ctx.now c.args.head.now c.args.kids.now.items c.pop_front.new.self.items c.in-None.ensures.items
    (none_is c.pop_front.new.self.items (sym c.pop_front.new.self.ok.0 ∙ c.in-None.ensures.cases.1))
    e c.end_probe.new.kids.items c.end_probe.new.local (todo_of c.end_probe.new.todo.items) _ _ c.end_probe.result c.in-Probe.is idle refl c.end_probe.ensures.done c.end_probe.ensures.kids

pub returns-in-Probe-clause-refused : goal.returns-in-Probe-clause-refused
returns-in-Probe-clause-refused g c = λ more.
    probe_refused c.args.ctx.now c.args.head.now c.args.kids.now.items c.pop_front.new.self.items c.in-None.ensures.items
    (none_is c.pop_front.new.self.items (sym c.pop_front.new.self.ok.0 ∙ c.in-None.ensures.cases.1)) c.end_probe.result c.end_probe.ensures.refused

pub returns-in-Probe-clause-tracked : goal.returns-in-Probe-clause-tracked
returns-in-Probe-clause-tracked g c = omega (arith, c.end_probe.ensures.reserved, c.end_probe.ensures.same, c.end_probe.ensures.unreserved.0, c.end_probe.ensures.unreserved.1)

-- ---- what is reserved

pub take-requires-clause-reserved : goal.take-requires-clause-reserved
take-requires-clause-reserved g c = omega (arith, c.requires.reserved)

pub returns-in-Some-clause-tracked : goal.returns-in-Some-clause-tracked
returns-in-Some-clause-tracked g c = omega (arith, c.take.ensures.tracked)

pub end-requires-clause-reserved : goal.end-requires-clause-reserved
end-requires-clause-reserved g c = omega (arith, c.requires.reserved)

pub returns-in_default-clause-tracked : goal.returns-in_default-clause-tracked
returns-in_default-clause-tracked g c = omega (arith, c.end.ensures.tracked)
