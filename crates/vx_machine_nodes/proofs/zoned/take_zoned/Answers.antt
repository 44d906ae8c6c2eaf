use Rattle.std.proofs.Common.{◌∷◌, ap, ◌∙◌}
use Rattle.std.specs.Arc.{arc_value}
use Rattle.vx_model.specs.ChunkData.{piece_type}
use Rattle.vx_model.specs.TyView.{ty}
use Rattle.vx_machine_node.specs.declared.item.Due.TheVariants.{Put}
use Rattle.vx_machine_nodes.proofs.SplitSteps.{misfit_eq, typed_eq}
use Rattle.vx_machine_nodes.proofs.ZoneSteps.{zone_took}
use Rattle.vx_machine_nodes.proofs.zoned.take_zoned.Goals as goal

pub returns-then-not-has_type-clause-refused : goal.returns-then-not-has_type-clause-refused
returns-then-not-has_type-clause-refused g c = λ s name ks.
    misfit_eq (piece_type c.args.item.chunk) (ty c.deref.result.now) (ty (arc_value c.args.node.now.dtype)) c.has_type.result c.has_type.ensures (ap ty c.deref.ensures) c.if-not-has_type.true

pub returns-in-Ok-clause-done : goal.returns-in-Ok-clause-done
returns-in-Ok-clause-done g c = λ s name ks hash.
    zone_took s name ks c.args.node.now c.record_chunk.new.node c.args.item c.push_front_reserved.new.self.items c.args.todo.now.items c.record_chunk.ensures.zoner c.record_chunk.ensures.held
    (c.in-Ok.ensures.zones s hash) c.in-Ok.ensures.makes_zones c.in-Ok.ensures.fits
    (typed_eq (piece_type c.args.item.chunk) (ty c.deref.result.now) (ty (arc_value c.args.node.now.dtype)) c.has_type.result c.has_type.ensures (ap ty c.deref.ensures) c.if-not-has_type.false)
    (c.push_front_reserved.ensures.items ∙ ap (λ ds. Put 0 c.args.item ∷ ds) c.reserve.ensures.items)
