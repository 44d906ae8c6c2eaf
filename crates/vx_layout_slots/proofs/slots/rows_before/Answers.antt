use Rattle.std.proofs.Common.{◌+◌, arith}
use Rattle.vx_layout_tree.specs.KidsView.{layout_kids}
use Rattle.vx_layout_tree.proofs.KidSteps.{take_rows, few_rows}
use Rattle.vx_layout_slots.proofs.slots.rows_before.Goals as goal

pub overflow_add-before : goal.overflow_add-before
overflow_add-before c =
    let ks = layout_kids c.args.children.now in
    omega (arith, c.loop-i.invariant, c.child_row_count-before.ensures, c.requires.all, c.ranges.rows.fits, few_rows ks (c.loop-i.i + 1), take_rows ks c.loop-i.i (omega (arith, c.loop-i-test.true, c.requires.within)))
