use Rattle.std.proofs.Common.{rules, ◌≡◌, ◌+◌, ◌*◌, ◌<◌, ◌≤◌, ◌^◌, ◌-◌, min, ◌∙◌, length, drop, sym, ap, subst, arith, zero-add}
use Rattle.vx_sequence.specs.Universe.{Active}
use Rattle.vx_machine_ids.specs.Stock.{one}
use Rattle.vx_machine_ids.specs.Balance.{Owned}
use Rattle.vx_machine_ids.proofs.Lists.{at_owned}
use Rattle.vx_machine_task.specs.Ready.{may_now, kids_of, ready_in, ready_among, counted}
use Rattle.vx_machine_task.specs.Sizes.{task_count, count_of_all}
use Rattle.vx_machine_task.specs.Stocks.{task_stock, tasks_stock}
use Rattle.vx_machine_task.specs.declared.task.Task.{out-Task}
use Rattle.vx_machine_task.proofs.TaskParts.{task_count_out, count_at, head_owned, kids_owned}
use Rattle.vx_machine_task.proofs.Readiness.{ready_in_out, among_more, drop_end}
use Rattle.vx_machine_task.proofs.ReadyViews.{task_ready, kids_ready}
use Rattle.vx_machine_task.proofs.+ready.Goals as goal

pub task::Task::ready-may-requires : goal.task::Task::ready-may-requires
task::Task::ready-may-requires g t c = head_owned (g.O.Order.active c.args.order.now) c.args.self.now c.requires

pub task::Task::ready-ready_of-requires : goal.task::Task::ready-ready_of-requires
task::Task::ready-ready_of-requires g t c κs within =
    let u : Active = g.O.Order.active c.args.order.now in
    let o : Owned u (tasks_stock c.deref-2.result.now) = subst (λ z. Owned u (tasks_stock z)) (sym c.deref-2.ensures.value) (kids_owned u c.args.self.now c.requires) in
    let n : count_of_all c.deref-2.result.now ≡ count_of_all (out-Task c.args.self.now).kids.items = ap count_of_all c.deref-2.ensures.value in
    let m : task_count c.args.self.now ≡ 1 + count_of_all (out-Task c.args.self.now).kids.items = task_count_out c.args.self.now in
    let falls : 2 * count_of_all c.deref-2.result.now + 1 < 2 * task_count c.args.self.now = omega (arith, n, m) in
    search (rules, arith, o, falls)

pub task::Task::ready-returns-clause-told : goal.task::Task::ready-returns-clause-told
task::Task::ready-returns-clause-told g t c =
    let u : Active = g.O.Order.active c.args.order.now in
    let a : c.may.result ≡ may_now u (out-Task c.args.self.now).head (kids_of (out-Task c.args.self.now).kids.items) = c.may.ensures.told ∙ ap (λ z. may_now u (out-Task c.args.self.now).head (kids_of z)) c.deref.ensures.value in
    let x : c.one-own.result ≡ one (may_now u (out-Task c.args.self.now).head (kids_of (out-Task c.args.self.now).kids.items)) = c.one-own.ensures ∙ ap one a in
    let y : c.ready_of.result ≡ counted (ready_among u (out-Task c.args.self.now).kids.items) = c.ready_of.ensures.told ∙ ap (λ z. counted (ready_among u z)) c.deref-2.ensures.value in
    let z : c.saturating_add.result ≡ min (c.one-own.result + c.ready_of.result) (2 ^ 64 - 1) = c.saturating_add.ensures in
    let e : ready_in u c.args.self.now ≡ one (may_now u (out-Task c.args.self.now).head (kids_of (out-Task c.args.self.now).kids.items)) + ready_among u (out-Task c.args.self.now).kids.items = ready_in_out u c.args.self.now in
    omega (arith, x, y, z, e)

pub task::Task::ready-returns-clause-view : goal.task::Task::ready-returns-clause-view
task::Task::ready-returns-clause-view g t c = task::Task::ready-returns-clause-told g t c ∙ ap counted (sym (task_ready (g.O.Order.active c.args.order.now) c.args.self.now))

pub ready::ready_of-loop-kid-init : goal.ready::ready_of-loop-kid-init
ready::ready_of-loop-kid-init g t c = record {
  sum = ap counted (zero-add (ready_among (g.O.Order.active c.args.order.now) c.args.kids.now));
  few = omega arith;
}

pub ready::ready_of-ready-requires : goal.ready::ready_of-ready-requires
ready::ready_of-ready-requires g t c κs within =
    let u : Active = g.O.Order.active c.args.order.now in
    let h : c.loop-kid.kid-index < length c.args.kids.now = omega arith in
    let o : Owned u (task_stock c.kid-item.result) = at_owned task_stock u c.args.kids.now c.loop-kid.kid-index c.kid-item.result h (sym c.kid-item.is) c.requires in
    let n : task_count c.kid-item.result ≤ count_of_all c.args.kids.now = count_at c.args.kids.now c.loop-kid.kid-index c.kid-item.result h (sym c.kid-item.is) in
    let falls : 2 * task_count c.kid-item.result < 2 * count_of_all c.args.kids.now + 1 = omega (arith, n) in
    search (rules, arith, o, falls)

pub ready::ready_of-loop-kid-preserved : goal.ready::ready_of-loop-kid-preserved
ready::ready_of-loop-kid-preserved g t c =
    let u : Active = g.O.Order.active c.args.order.now in
    let h : c.loop-kid.kid-index < length c.args.kids.now = omega arith in
    let a : ready_among u (drop c.loop-kid.kid-index c.args.kids.now) ≡ ready_in u c.kid-item.result + ready_among u (drop (c.loop-kid.kid-index + 1) c.args.kids.now) = among_more u c.args.kids.now c.loop-kid.kid-index c.kid-item.result h c.kid-item.is in
    let y : c.ready.result ≡ counted (ready_in u c.kid-item.result) = c.ready.ensures.told in
    let z : c.saturating_add-ready.result ≡ min (c.loop-kid.ready + c.ready.result) (2 ^ 64 - 1) = c.saturating_add-ready.ensures in
    let k : counted (c.loop-kid.ready + ready_among u (drop c.loop-kid.kid-index c.args.kids.now)) ≡ counted (ready_among u c.args.kids.now) = c.loop-kid.invariant.sum in
    record { sum = omega (arith, a, y, z, k); few = omega (arith, z) }

pub ready::ready_of-returns-clause-told : goal.ready::ready_of-returns-clause-told
ready::ready_of-returns-clause-told g t c =
    let u : Active = g.O.Order.active c.args.order.now in
    let a : ready_among u (drop c.loop-kid.kid-index c.args.kids.now) ≡ 0 = ap (ready_among u) (drop_end c.args.kids.now c.loop-kid.kid-index (omega arith)) in
    let k : counted (c.loop-kid.ready + ready_among u (drop c.loop-kid.kid-index c.args.kids.now)) ≡ counted (ready_among u c.args.kids.now) = c.loop-kid.invariant.sum in
    omega (arith, a, k, c.loop-kid.invariant.few)

pub ready::ready_of-returns-clause-view : goal.ready::ready_of-returns-clause-view
ready::ready_of-returns-clause-view g t c = ready::ready_of-returns-clause-told g t c ∙ ap counted (sym (kids_ready (g.O.Order.active c.args.order.now) c.args.kids.now))
