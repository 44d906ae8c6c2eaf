use Rattle.std.proofs.Common.{◌≡◌, ◌<◌, length, Ok, arith}
use Rattle.std.proofs.lemmas.Result.{err_from_is_err_and}
use Rattle.vx_layout_spec.specs.LayoutTree.{children_of}
use Rattle.vx_layout_tree.specs.Children.{child_in}
use Rattle.vx_layout_tree.specs.LayoutView.{layout_data}
use Rattle.vx_display.proofs.BuildSteps.{child_fails, below_fails, next_built}
use Rattle.vx_display.proofs.building.+check_built.Goals as goal

pub returns-in_err-child : goal.returns-in_err-child
returns-in_err-child t c =
    let p = err_from_is_err_and c.from_residual.result c.from_residual.ensures.1 in
    let lt : c.loop-i.i < length (children_of (layout_data c.args.layout.now)) = omega (arith, c.loop-i-test.true, c.nchildren-i-end.ensures) in
    rw (p.1, p.2) (child_fails (layout_data c.args.layout.now) c.loop-i.i _ lt c.loop-i.invariant c.in_err-child.ensures)

pub returns-in_err-checked : goal.returns-in_err-checked
returns-in_err-checked t c =
    let p = err_from_is_err_and c.from_residual-in_err-checked.result c.from_residual-in_err-checked.ensures.1 in
    let lt : c.loop-i.i < length (children_of (layout_data c.args.layout.now)) = omega (arith, c.loop-i-test.true, c.nchildren-i-end.ensures) in
    let at : child_in (children_of (layout_data c.args.layout.now)) c.loop-i.i ≡ Ok (layout_data c.layout.result.now) = cc (c.in_ok-child.ensures, c.layout.ensures) in
    rw (p.1, p.2) (below_fails (layout_data c.args.layout.now) c.loop-i.i _ (layout_data c.layout.result.now) lt c.loop-i.invariant at c.in_err-checked.ensures)

pub loop-i-preserved : goal.loop-i-preserved
loop-i-preserved t c =
    let lt : c.loop-i.i < length (children_of (layout_data c.args.layout.now)) = omega (arith, c.loop-i-test.true, c.nchildren-i-end.ensures) in
    let at : child_in (children_of (layout_data c.args.layout.now)) c.loop-i.i ≡ Ok (layout_data c.layout.result.now) = cc (c.in_ok-child.ensures, c.layout.ensures) in
    next_built (layout_data c.args.layout.now) c.loop-i.i (layout_data c.layout.result.now) _ lt c.loop-i.invariant at c.in_ok-checked.ensures
