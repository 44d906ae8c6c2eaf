use Rattle.std.proofs.Common.{◌≡◌, ◌+◌, ◌*◌, take, map}
use Rattle.vx_layout_spec.specs.LayoutTree.{lays_of}
use Rattle.vx_layout_tree.specs.LayoutView.{layout_data}
use Rattle.vx_layout_tree.specs.LayDepth.{depth, depths}
use Rattle.vx_layout_tree.specs.Copies.{kept_depth, table_depth}
use Rattle.vx_layout_tree.proofs.+copying.Given as goal

abbrev pub decreases-layout::Layout::to_layout : goal.decreases-layout::Layout::to_layout
decreases-layout::Layout::to_layout l = 5 * depth (layout_data l.self.now) + 4

abbrev pub decreases-children::LayoutChildren::to_arc : goal.decreases-children::LayoutChildren::to_arc
decreases-children::LayoutChildren::to_arc l = 5 * kept_depth l.self.now + 1

abbrev pub decreases-copy::copies : goal.decreases-copy::copies
decreases-copy::copies l = 5 * depths (lays_of (map layout_data l.layouts.now.items))

abbrev pub invariant-copy::copies-loop-layout : goal.invariant-copy::copies-loop-layout
invariant-copy::copies-loop-layout l = map layout_data l.copies.items ≡ map layout_data (take l.layout-index l.layouts.items)

abbrev pub decreases-copy::copy_table : goal.decreases-copy::copy_table
decreases-copy::copy_table l = 5 * table_depth l.table.now + 2

abbrev pub decreases-zoned::ZonedLayout::copy : goal.decreases-zoned::ZonedLayout::copy
decreases-zoned::ZonedLayout::copy l = 5 * depth l.self.now + 3
