use Rattle.std.proofs.Common.{◌≤◌, length, arith}
use Rattle.vx_layout_spec.specs.LayoutTree.{children_of}
use Rattle.vx_layout_tree.specs.LayoutView.{layout_data}
use Rattle.vx_layout_build.proofs.PresentSteps.{past_children}
use Rattle.vx_layout_build.proofs.layout_walk.LayoutLayoutWalk.slot.Goals as goal

pub returns-then-place-nchildren : goal.returns-then-place-nchildren
returns-then-place-nchildren c =
    let l = layout_data c.args.self.now in
    let le : length (children_of l) ≤ c.in-Some.place = omega (arith, c.if-place-nchildren.true, c.nchildren.ensures) in
    past_children l c.args.slot c.in-Some.place _ c.slot_to_child.ensures c.in-Some.is le
