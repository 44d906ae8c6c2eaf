use Rattle.std.proofs.Common.{◌+◌, arith}
use Rattle.vx_layout_tree.specs.KidsView.{layout_kids}
use Rattle.vx_layout_tree.proofs.KidSteps.{take_rows, few_rows}
use Rattle.vx_layout_slots.proofs.slot_walk.rows_through.Goals as goal

pub overflow_add-result : goal.overflow_add-result
overflow_add-result c =
    let ks = layout_kids c.args.children.now in
    let i = c.args.at.slot in
    omega (arith, c.child_row_count.ensures, c.requires.all, c.requires.before, c.ranges.rows.fits, few_rows ks (i + 1), take_rows ks i (omega (arith, c.if-at-nchildren.true, c.nchildren.ensures)))
