use Rattle.std.proofs.Common.{◌+◌, ◌*◌, ◌++◌, take}
use Rattle.vx_layout_spec.specs.LayoutTree.{children_of}
use Rattle.vx_layout_tree.specs.LayoutView.{layout_data}
use Rattle.vx_layout_tree.specs.LayDepth.{depth}
use Rattle.vx_segment_map.specs.SegmentView.{segment_in}
use Rattle.vx_run.specs.Tables.{own_tables, tables_in, ReadsOn}
use Rattle.vx_run.proofs.tables.+tables.Given as goal

abbrev pub decreases-push_tables : goal.decreases-push_tables
decreases-push_tables l = 2 * depth (layout_data l.layout.now) + 1

abbrev pub decreases-push_child : goal.decreases-push_child
decreases-push_child l = 2 * depth (layout_data l.layout.now)

abbrev pub invariant-push_tables-loop-i : goal.invariant-push_tables-loop-i
invariant-push_tables-loop-i l = ReadsOn (segment_in l.segments) l.fn.tables.items l.tables.items (own_tables (layout_data l.layout) ++ tables_in (take l.i (children_of (layout_data l.layout))))
