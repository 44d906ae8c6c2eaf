use Rattle.std.proofs.Common.{◌≡◌, ◌+◌, ◌*◌, length, take, map, Some}
use Rattle.vx_model.specs.ChunkData.{row_values}
use Rattle.vx_layout_spec.specs.LayoutTree.{children_of, row_count}
use Rattle.vx_layout_spec.specs.Rows.{all_there, rows}
use Rattle.vx_layout_tree.specs.LayoutView.{layout_data}
use Rattle.vx_layout_tree.specs.LayDepth.{depth}
use Rattle.vx_segment_reader.specs.Codec.{segment_codec}
use Rattle.vx_segment_map.specs.SegmentView.{segment_in}
use Rattle.vx_read_chunk.specs.Held.{parts_rows}
use Rattle.vx_read_chunk.proofs.HoldingSteps.{rows_behind}
use Rattle.vx_read_chunk.proofs.holding.+holding.Given as goal

abbrev pub decreases-held_parts : goal.decreases-held_parts
decreases-held_parts l = 5 * depth (layout_data l.layout.now) + 4

abbrev pub decreases-chunked_parts : goal.decreases-chunked_parts
decreases-chunked_parts l = 5 * depth (layout_data l.layout.now) + 3

abbrev pub decreases-struct_parts : goal.decreases-struct_parts
decreases-struct_parts l = 5 * depth (layout_data l.layout.now) + 3

abbrev pub decreases-data_parts : goal.decreases-data_parts
decreases-data_parts l = 5 * depth (layout_data l.layout.now) + 3

abbrev pub decreases-columns_of : goal.decreases-columns_of
decreases-columns_of l = 5 * depth (layout_data l.layout.now) + 2

abbrev pub decreases-child_chunk : goal.decreases-child_chunk
decreases-child_chunk l = 5 * depth (layout_data l.layout.now) + 1

abbrev pub decreases-child_parts : goal.decreases-child_parts
decreases-child_parts l = 5 * depth (layout_data l.layout.now)

abbrev pub invariant-chunked_parts-loop-i : goal.invariant-chunked_parts-loop-i
invariant-chunked_parts-loop-i l = record {
  rows : rows_behind (segment_in l.segments) (take l.i (children_of (layout_data l.layout))) ≡ Some (parts_rows l.parts);
  count : length (parts_rows l.parts) + l.rest ≡ row_count (layout_data l.layout);
}

abbrev pub invariant-columns_of-loop-i : goal.invariant-columns_of-loop-i
invariant-columns_of-loop-i l = all_there (map (rows segment_codec (segment_in l.segments)) (take l.i (children_of (layout_data l.layout)))) ≡ Some (map row_values l.columns.items)
