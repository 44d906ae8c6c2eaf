use Rattle.std.proofs.Common.{◌+◌, ◌*◌, take, map}
use Rattle.vx_layout_spec.specs.LayoutTree.{lays_of}
use Rattle.vx_layout_segments.specs.Segments.{all_segments}
use Rattle.vx_layout_tree.specs.LayDepth.{depth, depths}
use Rattle.vx_layout_tree.specs.LayoutView.{layout_data}
use Rattle.vx_layout_paths.specs.Taking.{Took}
use Rattle.vx_layout_paths.proofs.taking.+taking.Given as goal

abbrev pub decreases-take_paths : goal.decreases-take_paths
decreases-take_paths l = 3 * depth (layout_data l.layout.now) + 2

abbrev pub decreases-take_below : goal.decreases-take_below
decreases-take_below l = 3 * depth (layout_data l.layout.now) + 1

abbrev pub decreases-take_all : goal.decreases-take_all
decreases-take_all l = 3 * depths (lays_of (map layout_data l.layouts.now))

abbrev pub invariant-take_all-loop-layout : goal.invariant-take_all-loop-layout
invariant-take_all-loop-layout l = Took (all_segments (lays_of (map layout_data (take l.layout-index l.layouts)))) l.fn.paths l.paths l.fn.ordered l.ordered
