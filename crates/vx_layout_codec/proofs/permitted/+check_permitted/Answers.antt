use Rattle.std.proofs.Common.{◌<◌, length, arith}
use Rattle.std.proofs.lemmas.Result.{err_from_is_err_and}
use Rattle.vx_layout_spec.specs.LayoutTree.{children_of}
use Rattle.vx_layout_tree.specs.LayoutView.{layout_data}
use Rattle.vx_layout_codec.proofs.WalkSteps.{below_unlisted, next_listed, next_skipped, child_some, child_none}
use Rattle.vx_layout_codec.proofs.permitted.+check_permitted.Goals as goal
use Rattle.vx_layout_codec.proofs.permitted.+check_permitted.Goals.{in-Some+in_ok-checked-in-Some, in-None}

pub returns-in_err-checked-in-Some : goal.returns-in_err-checked-in-Some
returns-in_err-checked-in-Some t c =
    let p = err_from_is_err_and c.from_residual-in_err-checked-in-Some.result c.from_residual-in_err-checked-in-Some.ensures.1 in
    let lt : c.loop-i.i < length (children_of (layout_data c.args.layout.now)) = omega (arith, c.loop-i-test.true, c.nchildren-i-end.ensures) in
    rw (p.1, p.2) (below_unlisted c.args.ctx.now (layout_data c.args.layout.now) c.loop-i.i _ (layout_data c.layout.result.now) lt c.loop-i.invariant (child_some _ c.in-Some.child _ (layout_data c.layout.result.now) c.in-Some.is c.in_ok-child.ensures c.layout.ensures) c.in_err-checked-in-Some.ensures)

pub loop-i-preserved : goal.loop-i-preserved
loop-i-preserved t c =
    let lt : c.loop-i.i < length (children_of (layout_data c.args.layout.now)) = omega (arith, c.loop-i-test.true, c.nchildren-i-end.ensures) in
    elim c.match-branch-3.branch [
      | in-Some+in_ok-checked-in-Some w ↦ next_listed c.args.ctx.now (layout_data c.args.layout.now) c.loop-i.i (layout_data w.layout.result.now) _ lt c.loop-i.invariant (child_some _ w.in-Some.child _ (layout_data w.layout.result.now) w.in-Some.is c.in_ok-child.ensures w.layout.ensures) w.in_ok-checked-in-Some.ensures
      | in-None w ↦ next_skipped c.args.ctx.now (layout_data c.args.layout.now) c.loop-i.i lt c.loop-i.invariant (child_none _ _ w.in-None.is c.in_ok-child.ensures)
    ]
