use Rattle.std.proofs.Common.{sym, ◌∙◌}
use Rattle.vx_model.specs.TyView.{ty}
use Rattle.vx_layout_build.proofs.OpenSteps.{list_opens}
use Rattle.vx_layout_build.proofs.opened.open_list.Goals as goal

pub returns-in_ok-head-in-Ok : goal.returns-in_ok-head-in-Ok
returns-in_ok-head-in-Ok c =
    let made_of = c.in_ok-head-in-Ok.ensures in
    let made = list_opens c.args.parts c.args.metadata.now c.in-Ok.offsets (ty c.offsets_type-ends.result) c.in_ok-head-in-Ok.wanted.items c.in-Ok.ensures (sym c.is_list.ensures ∙ c.if-not-is_list.false) c.offsets_type-ends.ensures made_of.children in
    rw made_of.head (made, made_of.depth, made_of.count)
