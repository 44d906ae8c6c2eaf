use Rattle.std.proofs.Common.{refl}
use Rattle.vx_model.specs.TyView.{ty}
use Rattle.vx_layout_build.proofs.OpenSteps.{dict_opens}
use Rattle.vx_layout_build.proofs.opened.open_dict.Goals as goal

pub returns-in_ok-head-in-Ok : goal.returns-in_ok-head-in-Ok
returns-in_ok-head-in-Ok c =
    let made_of = c.in_ok-head-in-Ok.ensures in
    let made = dict_opens c.args.parts c.args.metadata.now c.in-Ok.dict (ty c.args.parts.dtype) (ty c.codes_type.result) c.in_ok-head-in-Ok.wanted.items c.in-Ok.ensures refl c.codes_type.ensures made_of.children in
    rw made_of.head (made, made_of.depth, tt)
