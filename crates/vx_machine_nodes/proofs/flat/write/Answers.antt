use Rattle.std.proofs.Common.{ap, sym, subst, ◌∙◌, Ok}
use Rattle.vx_sequence.specs.Universe.{Active, IsActive, released}
use Rattle.vx_order.specs.Answers.{active_after}
use Rattle.vx_machine_ids.specs.Stock.{none, id_stock}
use Rattle.vx_machine_ids.specs.Balance.{Moved}
use Rattle.vx_machine_ids.proofs.CallLaws.{owned_active, released_moved}
use Rattle.vx_machine_node.specs.Causes.{AppendMay}
use Rattle.vx_machine_nodes.proofs.CallSteps.{written_called, refused_stops}
use Rattle.vx_machine_nodes.proofs.CauseSteps.{refused_may}
use Rattle.vx_machine_nodes.proofs.WriteSteps.{written_told, then_kept, refused_why}
use Rattle.vx_machine_nodes.specs.Acting.{AppendRefused}
use Rattle.vx_machine_nodes.proofs.flat.write.Goals as goal

pub try_write-requires-clause-is_active : goal.try_write-requires-clause-is_active
try_write-requires-clause-is_active g c = owned_active (g.O.Order.active c.args.order.now) c.args.id c.requires.owned

pub release-requires-in-Err : goal.release-requires-in-Err
release-requires-in-Err g c =
    subst (λ v. IsActive v c.in-Err.id) (sym c.in-Err.ensures.active)
    (subst (λ p. IsActive (g.O.Order.active c.args.order.now) p) (sym c.in-Err.ensures.answer.0) (owned_active (g.O.Order.active c.args.order.now) c.args.id c.requires.owned))

pub returns-in-Ok-Written-clause-moved : goal.returns-in-Ok-Written-clause-moved
returns-in-Ok-Written-clause-moved g c =
    let u : Active = g.O.Order.active c.args.order.now in
    subst (λ v. Moved u v (id_stock c.args.id) none) (sym (c.try_write.ensures.active ∙ ap (active_after u c.args.id) (c.in-Ok-Written.is ∙ ap (λ x. Ok x) c.in-Ok-Written.field-0-is)))
    (released_moved u c.args.id (owned_active u c.args.id c.requires.owned))

pub returns-in-Ok-Written-clause-told : goal.returns-in-Ok-Written-clause-told
returns-in-Ok-Written-clause-told g c =
    written_called g.O.Sink.Fallible.faults g.O.Sink.Fallible.may_fail g.O.Sink.Fallible.must_fail (g.O.Order.sink c.args.order.now) (g.O.Order.sink c.try_write.new.self)
    c.try_write.result c.in-Ok-Written.receipt (c.in-Ok-Written.is ∙ ap (λ x. Ok x) c.in-Ok-Written.field-0-is) c.try_write.ensures.told

pub returns-in-Err-clause-moved : goal.returns-in-Err-clause-moved
returns-in-Err-clause-moved g c =
    let u : Active = g.O.Order.active c.args.order.now in
    subst (λ v. Moved u v (id_stock c.args.id) none) (sym (c.release-in-Err.ensures.active ∙ (λ j. released (c.in-Err.ensures.active j) (c.in-Err.ensures.answer.0 j))))
    (released_moved u c.args.id (owned_active u c.args.id c.requires.owned))

pub returns-in-Err-clause-told : goal.returns-in-Err-clause-told
returns-in-Err-clause-told g c =
    refused_stops g.O.Sink.Fallible.faults g.O.Sink.Fallible.may_fail g.O.Sink.Fallible.must_fail (g.O.Order.sink c.args.order.now) (g.O.Order.sink c.try_write.new.self) (g.O.Order.sink c.release-in-Err.new.self) c.release-in-Err.ensures.sink
    c.in-Err.error c.into.result c.into.ensures c.in-Err.ensures.told

pub returns-in-Err-clause-cause : goal.returns-in-Err-clause-cause
returns-in-Err-clause-cause g c =
    subst (λ e. AppendMay e) (sym c.into.ensures) (refused_may (g.O.Order.active c.args.order.now) (g.O.Order.outlet c.args.order.now) c.args.id c.in-Err.error c.in-Err.ensures.answer.1)

pub returns-in-Ok-Written-clause-appended : goal.returns-in-Ok-Written-clause-appended
returns-in-Ok-Written-clause-appended g c =
    written_told (g.O.Order.active c.args.order.now) (g.O.Order.outlet c.args.order.now) (g.O.Order.outlet c.try_write.new.self) c.args.id c.args.bytes.now c.try_write.result c.in-Ok-Written.receipt
    (c.in-Ok-Written.is ∙ ap (λ x. Ok x) c.in-Ok-Written.field-0-is) c.try_write.ensures.answer c.try_write.ensures.outlet

pub returns-in-Err-clause-refused : goal.returns-in-Err-clause-refused
returns-in-Err-clause-refused g c =
    subst (λ e. AppendRefused (g.O.Order.outlet c.args.order.now) (c.args.id, c.args.bytes.now) e) (sym c.into.ensures)
    (refused_why (g.O.Order.active c.args.order.now) (g.O.Order.outlet c.args.order.now) c.args.id c.args.bytes.now c.in-Err.error c.in-Err.ensures.answer.1)

pub returns-in-Err-clause-kept : goal.returns-in-Err-clause-kept
returns-in-Err-clause-kept g c =
    then_kept (g.O.Order.outlet c.args.order.now) (g.O.Order.outlet c.try_write.new.self) (g.O.Order.outlet c.release-in-Err.new.self) c.args.bytes.now (c.in-Err.id, c.in-Err.error)
    c.in-Err.ensures.outlet c.release-in-Err.ensures.outlet
