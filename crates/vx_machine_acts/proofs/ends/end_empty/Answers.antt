use Rattle.std.proofs.Common.{ap, map, subst, [], ◌∷◌, ◌∙◌}
use Rattle.std.proofs.lemmas.Result.{err_from_is_err_and}
use Rattle.vx_model.specs.Words.{total_by}
use Rattle.vx_model.specs.TyView.{ty}
use Rattle.vx_layout_spec.specs.LayoutTree.{row_count, gathered}
use Rattle.vx_layout_tree.specs.LayoutView.{layout_data}
use Rattle.vx_machine_state.specs.State as view
use Rattle.vx_machine_nodes.specs.Acting.{JoinRefused}
use Rattle.vx_machine_nodes.proofs.RefusalSteps.{none_joined}
use Rattle.vx_machine_acts.proofs.ends.end_empty.Goals as goal

pub returns-clause-layout : goal.returns-clause-layout
returns-clause-layout c =
    ap view.made (c.in_ok-layout.ensures.layout ∙ (λ j. gathered (ty (c.deref.ensures j)) (total_by row_count (map layout_data (c.new.ensures.items j))) (map layout_data (c.new.ensures.items j))))

pub returns-in_err-layout-clause-memory : goal.returns-in_err-layout-clause-memory
returns-in_err-layout-clause-memory c =
    let p = err_from_is_err_and c.from_residual.result c.from_residual.ensures.1 in
    rw (p.1, p.2) (none_joined c.in_err-layout.field-0.0 c.in_err-layout.ensures.cause (subst (λ z. JoinRefused (total_by row_count (map layout_data z) ∷ []) c.in_err-layout.field-0.0) c.new.ensures.items c.in_err-layout.ensures.refused))
