use Rattle.std.proofs.Common.{◌≡◌, ◌+◌, ◌*◌, length, take, drop, map}
use Rattle.vx_layout_spec.specs.LayoutTree.{children_of}
use Rattle.vx_layout_spec.specs.Rows.{all_there, rows}
use Rattle.vx_layout_tree.specs.LayoutView.{layout_data}
use Rattle.vx_layout_tree.specs.LayDepth.{depth}
use Rattle.vx_segment_reader.specs.Codec.{segment_codec}
use Rattle.vx_segment_map.specs.SegmentView.{segment_in}
use Rattle.vx_read.specs.Parts.{rows_in, first_parts, first_faults}
use Rattle.vx_read.specs.Reading.{first_in, first_fault}
use Rattle.vx_read.proofs.DictSteps.{before}
use Rattle.vx_read.proofs.reading.+reading.Given as goal

abbrev pub decreases-rows_of : goal.decreases-rows_of
decreases-rows_of l = 3 * depth (layout_data l.layout.now) + 2

abbrev pub decreases-parts_of : goal.decreases-parts_of
decreases-parts_of l = 3 * depth (layout_data l.layout.now) + 1

abbrev pub decreases-part_of : goal.decreases-part_of
decreases-part_of l = 3 * depth (layout_data l.layout.now)

abbrev pub invariant-parts_of-loop-i : goal.invariant-parts_of-loop-i
invariant-parts_of-loop-i l = record {
  count : length l.parts.items ≡ l.i;
  parts : before (map rows_in l.parts.items) (all_there (map (rows segment_codec (segment_in l.segments)) (drop l.i (take l.count (children_of (layout_data l.layout)))))) ≡ first_parts segment_codec (segment_in l.segments) l.count (layout_data l.layout);
  faults : first_in (map (first_fault segment_codec (segment_in l.segments)) (drop l.i (take l.count (children_of (layout_data l.layout))))) ≡ first_faults segment_codec (segment_in l.segments) l.count (layout_data l.layout);
}
