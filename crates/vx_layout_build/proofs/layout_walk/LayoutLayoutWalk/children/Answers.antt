use Rattle.std.proofs.Common.{◌<◌, ◌≤◌, length, map, arith}
use Rattle.std.proofs.lemmas.List.{map_push}
use Rattle.std.proofs.lemmas.Result.{err_from_is_err_and}
use Rattle.vx_layout_spec.specs.LayoutTree.{children_of}
use Rattle.vx_layout_build.specs.ChildView.{child_lay}
use Rattle.vx_layout_tree.specs.LayoutView.{layout_data}
use Rattle.vx_layout_build.proofs.PresentSteps.{next_child, child_refused, whole}
use Rattle.vx_layout_build.proofs.layout_walk.LayoutLayoutWalk.children.Goals as goal

pub returns-in_err-child : goal.returns-in_err-child
returns-in_err-child c =
    let ls = children_of (layout_data c.args.self.now) in
    let p = err_from_is_err_and c.from_residual-in_err-child.result c.from_residual-in_err-child.ensures.1 in
    let lt : c.loop-i.i < length ls = omega (arith, c.loop-i-test.true, c.nchildren-i-end.ensures) in
    rw (p.1, p.2) (child_refused ls (map child_lay c.loop-i.children.items) c.loop-i.i _ _ lt c.loop-i.invariant c.in_err-child.ensures)

pub loop-i-preserved : goal.loop-i-preserved
loop-i-preserved c =
    let ls = children_of (layout_data c.args.self.now) in
    let lt : c.loop-i.i < length ls = omega (arith, c.loop-i-test.true, c.nchildren-i-end.ensures) in
    next_child ls (map child_lay c.loop-i.children.items) _ c.loop-i.i _ _ lt c.in_ok-child.ensures (rw c.in_ok-push.ensures.items (map_push _ _ _)) c.loop-i.invariant

pub returns : goal.returns
returns c =
    let ls = children_of (layout_data c.args.self.now) in
    let le : length ls ≤ c.loop-i.i = omega (arith, c.loop-i-test.false, c.nchildren-i-end.ensures) in
    whole ls (map child_lay c.loop-i.children.items) c.loop-i.i _ le c.loop-i.invariant
