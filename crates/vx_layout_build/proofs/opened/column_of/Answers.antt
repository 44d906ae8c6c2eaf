use Rattle.std.proofs.Common.{arith}
use Rattle.vx_model.specs.TyView.{ty}
use Rattle.vx_layout_tree.specs.KidsView.{chunks, layout_kids}
use Rattle.vx_layout_build.proofs.OpenSteps.{column_wanted}
use Rattle.vx_layout_build.proofs.opened.column_of.Goals as goal

pub returns : goal.returns
returns c =
    let two = c.in_ok-column.ensures in
    ((λ t. column_wanted (layout_kids c.args.children) c.in_ok-column.column c.in_ok-column.zones (ty c.args.dtype.now) t c.in-Ok.wanted.items (chunks t c.in_ok-zones.zones) two.0 c.in-Ok.ensures.built (c.in_ok-zones.ensures t)), omega (arith, c.in-Ok.ensures.depth, two.1))
