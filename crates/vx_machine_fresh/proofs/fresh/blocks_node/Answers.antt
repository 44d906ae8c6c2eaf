use Rattle.std.proofs.Common.{ap, ◌∙◌}
use Rattle.std.specs.Arc.{arc_value}
use Rattle.vx_model.specs.TyLaws.{ty_eq_decides}
use Rattle.vx_model.specs.TyView.{ty}
use Rattle.vx_machine_node.specs.Regrouped.{is_of}
use Rattle.vx_machine_fresh.proofs.fresh.blocks_node.Goals as goal

pub fresh-requires-clause-typed : goal.fresh-requires-clause-typed
fresh-requires-clause-typed c =
    let t = ty (arc_value c.args.dtype) in
    ap (λ r. is_of r t) c.repartition-rule.ensures ∙ (ty_eq_decides (ty c.in-Ok.copy) t).1 (c.in-Ok.ensures.cases ∙ ap ty c.deref-2.ensures)
