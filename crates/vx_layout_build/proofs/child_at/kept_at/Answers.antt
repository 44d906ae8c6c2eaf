use Rattle.std.proofs.Common.{◌∙◌}
use Rattle.std.proofs.lemmas.Result.{err_from_is_err_and}
use Rattle.vx_model.specs.TyView.{ty}
use Rattle.vx_layout_build.proofs.ChildSteps.{kept_is}
use Rattle.vx_layout_build.proofs.child_at.kept_at.Goals as goal

pub returns-in_err-check_type : goal.returns-in_err-check_type
returns-in_err-check_type c =
    let p = err_from_is_err_and c.from_residual.result c.from_residual.ensures.1 in
    let is = kept_is c.args.layouts.now c.args.index c.index-layouts-index.result (ty c.args.dtype.now) c.requires c.index-layouts-index.is in
    rw (p.1, p.2, is) c.in_err-check_type.ensures

pub returns : goal.returns
returns c =
    kept_is c.args.layouts.now c.args.index c.index-layouts-index.result (ty c.args.dtype.now) c.requires c.index-layouts-index.is ∙ c.in_ok-check_type.ensures
