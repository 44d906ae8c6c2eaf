use Rattle.std.proofs.Common.{ap, sym, subst, ◌∙◌, suc, ◌≤◌, length, le-ltb, arith}
use Rattle.vx_sequence.specs.Universe.{Active}
use Rattle.vx_machine_ids.specs.Balance.{Owned}
use Rattle.vx_machine_ids.proofs.CallLaws.{owned_active}
use Rattle.vx_machine_task.specs.Ready.{may_due, kids_of}
use Rattle.vx_machine_node.specs.Stocks.{due_stock}
use Rattle.vx_machine_task.proofs.Readiness.{room_none, least_is}
use Rattle.vx_machine_task.proofs.ready.may_due.Goals as goal

pub is_least-requires : goal.is_least-requires
is_least-requires g c =
    let u : Active = g.O.Order.active c.args.order.now in
    owned_active u c.in-Append.stored.id (subst (λ d. Owned u (due_stock d)) c.in-Append.is c.requires)

pub returns-in-Append : goal.returns-in-Append
returns-in-Append g c =
    let u : Active = g.O.Order.active c.args.order.now in
    least_is u c.in-Append.stored.id c.is_least.result c.is_least.ensures.least ∙ sym (ap (λ d. may_due u d (kids_of c.args.kids.now)) c.in-Append.is)

-- a child that isn't there has no place
pub returns-else-child-kids : goal.returns-else-child-kids
returns-else-child-kids g c =
    let u : Active = g.O.Order.active c.args.order.now in
    let h : length c.args.kids.now ≤ suc c.in-EndRun.child = omega (arith, c.if-child-kids.false) in
    le-ltb c.in-EndRun.child (length c.args.kids.now) c.if-child-kids.false ∙ sym (ap (λ d. may_due u d (kids_of c.args.kids.now)) c.in-EndRun.is ∙ room_none c.args.kids.now (suc c.in-EndRun.child) h)
