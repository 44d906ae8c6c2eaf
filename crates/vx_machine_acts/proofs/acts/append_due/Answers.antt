use Rattle.vx_machine_ids.proofs.MoveLaws.{owned_right}
use Rattle.vx_machine_node.specs.Stocks.{local_stock, stored_stock}
use Rattle.vx_machine_acts.proofs.ActMoves.{spent, spent_owned, spent_then}
use Rattle.std.proofs.Common.{◌≡◌, refl, sym, ap, subst, arith}
use Rattle.vx_sink.specs.ContextView.{listed}
use Rattle.vx_machine_nodes.specs.Acting.{IsAppended}
use Rattle.vx_machine_node.specs.Ledger.{local_reserved}
use Rattle.vx_machine_nodes.proofs.CallSteps.{then_called}
use Rattle.vx_machine_nodes.proofs.WriteSteps.{appended_done}
use Rattle.vx_machine_acts.proofs.acts.append_due.Goals as goal

pub append-requires-clause-owned : goal.append-requires-clause-owned
append-requires-clause-owned g c = owned_right (g.O.Order.active c.args.order.now) (local_stock c.args.local.now) (stored_stock c.args.stored) c.requires.owned

pub set_local-requires-clause-owned : goal.set_local-requires-clause-owned
set_local-requires-clause-owned g c = spent_owned (g.O.Order.active c.args.order.now) (g.O.Order.active c.append.new.order) (local_stock c.args.local.now) (stored_stock c.args.stored) c.requires.owned c.append.ensures.moved

pub returns-in-Ok-clause-moved : goal.returns-in-Ok-clause-moved
returns-in-Ok-clause-moved g c =
    spent_then (g.O.Order.active c.args.order.now) (g.O.Order.active c.append.new.order) (local_stock c.args.local.now) (stored_stock c.args.stored) c.requires.owned c.append.ensures.moved
    (g.O.Order.active c.set_local.new.order) (local_stock c.set_local.new.local) c.set_local.ensures.moved

pub returns-in-Err-clause-moved : goal.returns-in-Err-clause-moved
returns-in-Err-clause-moved g c =
    spent (g.O.Order.active c.args.order.now) (g.O.Order.active c.append.new.order) (local_stock c.args.local.now) (stored_stock c.args.stored) c.requires.owned c.append.ensures.moved

pub returns-in-Ok-clause-done : goal.returns-in-Ok-clause-done
returns-in-Ok-clause-done g c = (
  c.in-Ok.ensures.appended.0,
  appended_done (listed c.args.ctx.now) c.in-Ok.ensures.appended.0 c.args.stored c.in-Ok.layout c.set_local.new.local (g.O.Order.outlet c.args.order.now) (g.O.Order.outlet c.set_local.new.order)
      (subst (λ u. IsAppended (g.O.Order.outlet c.args.order.now) c.in-Ok.ensures.appended.0 (c.args.stored.id, c.args.stored.segment.bytes.items) u) (sym c.set_local.ensures.outlet) c.in-Ok.ensures.appended.1)
      c.in-Ok.ensures.appended.2 c.set_local.ensures.local,
)

pub returns-in-Ok-clause-told : goal.returns-in-Ok-clause-told
returns-in-Ok-clause-told g c =
    (refl, then_called g.O.Sink.Fallible.faults g.O.Sink.Fallible.may_fail g.O.Sink.Fallible.must_fail (g.O.Order.sink c.args.order.now) (g.O.Order.sink c.append.new.order) (g.O.Order.sink c.set_local.new.order) c.set_local.ensures.sink c.in-Ok.ensures.told)

pub returns-in-Ok-clause-tracked : goal.returns-in-Ok-clause-tracked
returns-in-Ok-clause-tracked g c =
    let l : local_reserved c.set_local.new.local ≡ 0 = ap local_reserved c.set_local.ensures.local in
    omega (arith, l, c.set_local.ensures.tracked)
