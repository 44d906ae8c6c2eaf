use Rattle.std.proofs.Common.{◌≡◌, length, sym, ◌∙◌, arith}
use Rattle.vx_machine_task.specs.Ready.{kids_of}
use Rattle.vx_machine_task.proofs.Readiness.{may_first, may_none, first_due_owned}
use Rattle.vx_machine_task.proofs.ReadyViews.{may_view}
use Rattle.vx_machine_task.proofs.ready.may.Goals as goal

pub may_due-requires : goal.may_due-requires
may_due-requires g c = first_due_owned (g.O.Order.active c.args.order.now) c.args.head.now c.in-Some.due.now c.in-Some.ensures.item.3.0 c.in-Some.ensures.lookup c.requires

pub returns-in-Some-clause-told : goal.returns-in-Some-clause-told
returns-in-Some-clause-told g c =
    c.may_due.ensures ∙ sym (may_first (g.O.Order.active c.args.order.now) c.args.head.now (kids_of c.args.kids.now) c.in-Some.due.now c.in-Some.ensures.item.3.0 c.in-Some.ensures.lookup)

pub returns-in-Some-clause-view : goal.returns-in-Some-clause-view
returns-in-Some-clause-view g c = returns-in-Some-clause-told g c ∙ may_view (g.O.Order.active c.args.order.now) c.args.head.now c.args.kids.now

pub returns-in-None-clause-told : goal.returns-in-None-clause-told
returns-in-None-clause-told g c =
    let n : length c.args.head.now.todo.items ≡ 0 = omega (arith, c.in-None.ensures.item.3) in
    c.may_take.ensures ∙ sym (may_none (g.O.Order.active c.args.order.now) c.args.head.now (kids_of c.args.kids.now) n)

pub returns-in-None-clause-view : goal.returns-in-None-clause-view
returns-in-None-clause-view g c = returns-in-None-clause-told g c ∙ may_view (g.O.Order.active c.args.order.now) c.args.head.now c.args.kids.now
