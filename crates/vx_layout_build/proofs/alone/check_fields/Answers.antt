use Rattle.std.proofs.Common.{sym, ◌∙◌}
use Rattle.std.proofs.lemmas.Result.{err_from_is_err_and}
use Rattle.vx_model.specs.TyView.{ty}
use Rattle.vx_layout_tree.specs.KidsView.{layout_kids}
use Rattle.vx_layout_tree.proofs.KidSteps.{struct_count}
use Rattle.vx_layout_build.proofs.PartSteps.{count_is}
use Rattle.vx_layout_build.proofs.BuildSteps.{struct_made, struct_metadata_fails, struct_count_fails, struct_rows_fail}
use Rattle.vx_layout_build.proofs.alone.check_fields.Goals as goal

pub returns-in_err-no_metadata : goal.returns-in_err-no_metadata
returns-in_err-no_metadata c =
    let p = err_from_is_err_and c.from_residual.result c.from_residual.ensures.1 in
    rw (p.1, p.2) (struct_metadata_fails _ c.args.parts.now c.args.metadata.now c.in_err-no_metadata.ensures)

pub returns-in_err-has_children : goal.returns-in_err-has_children
returns-in_err-has_children c =
    let parts = c.args.parts.now in
    let p = err_from_is_err_and c.from_residual-in_err-has_children.result c.from_residual-in_err-has_children.ensures.1 in
    let needed = c.struct_children.ensures ∙ sym (struct_count (ty parts.dtype)) in
    rw (p.1, p.2) (struct_count_fails _ parts c.args.metadata.now c.struct_children.result c.in_ok-no_metadata.ensures (sym c.is_struct.ensures ∙ c.if-not-is_struct.false) needed c.in_err-has_children.ensures)

pub returns-in_err-all_have_rows : goal.returns-in_err-all_have_rows
returns-in_err-all_have_rows c =
    let parts = c.args.parts.now in
    let p = err_from_is_err_and c.from_residual-in_err-all_have_rows.result c.from_residual-in_err-all_have_rows.ensures.1 in
    let needed = c.struct_children.ensures ∙ sym (struct_count (ty parts.dtype)) in
    rw (p.1, p.2) (struct_rows_fail _ parts c.args.metadata.now c.struct_children.result c.in_ok-no_metadata.ensures (sym c.is_struct.ensures ∙ c.if-not-is_struct.false) needed c.in_ok-has_children.ensures c.in_err-all_have_rows.ensures)

pub returns : goal.returns
returns c =
    let parts = c.args.parts.now in
    let needed = c.struct_children.ensures ∙ sym (struct_count (ty parts.dtype)) in
    let count = count_is (layout_kids parts.children) c.struct_children.result c.in_ok-has_children.ensures ∙ needed in
    (struct_made parts c.args.metadata.now c.struct_children.result c.in_ok-no_metadata.ensures (sym c.is_struct.ensures ∙ c.if-not-is_struct.false) needed c.in_ok-has_children.ensures c.in_ok-all_have_rows.ensures count, count)
