use Rattle.std.proofs.Common.{refl}
use Rattle.vx_layout_tree.specs.KidsView.{layout_kids}
use Rattle.vx_layout_build.specs.PartsView.{children_depth}
use Rattle.vx_layout_build.proofs.OpenSteps.{triple_wanted, triple_depth}
use Rattle.vx_layout_build.proofs.open.triple_of.Goals as goal

pub returns-in_ok-vec-in-Ok : goal.returns-in_ok-vec-in-Ok
returns-in_ok-vec-in-Ok c =
    let all = c.in_ok-vec-in-Ok.field-0.items in
    let is = c.in_ok-vec-in-Ok.ensures.items in
    let three = c.in-Ok.ensures in (
      triple_wanted (layout_kids c.args.children) c.in-Ok.first c.in-Ok.second c.in-Ok.third c.args.first_type c.args.second_type c.flags.result c.args.rows all three.0 is c.flags.ensures,
      triple_depth (children_depth c.args.children) c.in-Ok.first c.in-Ok.second c.in-Ok.third c.args.first_type c.args.second_type c.flags.result c.args.rows all is three.1 three.2 three.3,
      (rw is refl),
    )
