use Rattle.std.proofs.Common.{ap, inl, refl, subst, ◌∙◌}
use Rattle.std.specs.Arc.{arc_value}
use Rattle.vx_model.specs.TyView.{ty}
use Rattle.vx_sink.specs.ContextView.{listed}
use Rattle.vx_machine_nodes.specs.Acting.{IsAppended, AppendRefused}
use Rattle.vx_machine_nodes.proofs.WriteSteps.{kept_same}
use Rattle.vx_machine_nodes.proofs.CallSteps.{unasked_by}
use Rattle.vx_machine_nodes.proofs.WriteSteps.{flat_made}
use Rattle.vx_machine_nodes.proofs.flat.append.Goals as goal

pub returns-in-Ok-written-clause-appended : goal.returns-in-Ok-written-clause-appended
returns-in-Ok-written-clause-appended g c = (
  c.in-Ok-written.number,
  subst (λ b. IsAppended (g.O.Order.outlet c.args.order.now) c.in-Ok-written.number (c.args.stored.id, b) (g.O.Order.outlet c.write-written.new.order)) c.deref-in-Ok.ensures.value c.in-Ok-written.ensures.appended,
  flat_made c.new_with_metadata-flat.result (ty c.in-Ok.dtype) (ty (arc_value c.args.stored.segment.dtype)) c.args.stored.segment.rows c.in-Ok.encodings (listed c.args.ctx.now)
      c.args.stored.segment.tree c.in-Ok-written.number c.in-Ok-written.number c.new_with_metadata-flat.ensures.layout_data (c.in-Ok.ensures.dtype ∙ ap ty c.deref.ensures) c.in-Ok.ensures.encodings refl,
)

pub returns-in-Err-clause-told : goal.returns-in-Err-clause-told
returns-in-Err-clause-told g c = inl (unasked_by g.O.Sink.Fallible.faults g.O.Sink.Fallible.may_fail g.O.Sink.Fallible.must_fail (g.O.Order.sink c.args.order.now) (g.O.Order.sink c.give_up_id.new.order) c.give_up_id.ensures.sink)

pub returns-in-Err-clause-kept : goal.returns-in-Err-clause-kept
returns-in-Err-clause-kept g c = kept_same (g.O.Order.outlet c.args.order.now) (g.O.Order.outlet c.give_up_id.new.order) c.give_up_id.ensures.outlet

pub returns-in-Err-written-clause-refused : goal.returns-in-Err-written-clause-refused
returns-in-Err-written-clause-refused g c =
    subst (λ b. AppendRefused (g.O.Order.outlet c.args.order.now) (c.args.stored.id, b) c.in-Err-written.error) c.deref-in-Ok.ensures.value c.in-Err-written.ensures.refused
