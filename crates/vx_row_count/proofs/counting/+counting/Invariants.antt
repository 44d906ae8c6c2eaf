use Rattle.std.proofs.Common.{◌≡◌, ◌+◌, ◌*◌}
use Rattle.vx_layout_spec.specs.LayoutTree.{children_of}
use Rattle.vx_layout_tree.specs.LayoutView.{layout_data}
use Rattle.vx_layout_tree.specs.LayDepth.{depth}
use Rattle.vx_row_count.specs.Counting.{rows_before}
use Rattle.vx_row_count.proofs.counting.+counting.Given as goal

abbrev pub decreases-count_rows : goal.decreases-count_rows
decreases-count_rows l = 3 * depth (layout_data l.layout.now) + 2

abbrev pub decreases-count_chunks : goal.decreases-count_chunks
decreases-count_chunks l = 3 * depth (layout_data l.layout.now) + 1

abbrev pub decreases-count_columns : goal.decreases-count_columns
decreases-count_columns l = 3 * depth (layout_data l.layout.now) + 1

abbrev pub decreases-count_child : goal.decreases-count_child
decreases-count_child l = 3 * depth (layout_data l.layout.now)

abbrev pub invariant-count_chunks-loop-i : goal.invariant-count_chunks-loop-i
invariant-count_chunks-loop-i l = l.count ≡ rows_before (children_of (layout_data l.layout)) l.i

abbrev pub invariant-count_columns-loop-i : goal.invariant-count_columns-loop-i
invariant-count_columns-loop-i l = Unit {0}
