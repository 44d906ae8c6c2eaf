use Rattle.std.proofs.Common.{◌≡◌, ◌+◌, ◌*◌, ◌≤◌, ◌++◌, drop}
use Rattle.std.specs.Prelude.{IsTrue}
use Rattle.vx_model.specs.ChunkData.{pieces_of, pieces_in}
use Rattle.vx_chunk.specs.ChunkView.{node_piece}
use Rattle.vx_chunk.specs.Depth.{depth, depths}
use Rattle.vx_chunk.specs.Rows.{have_rows}
use Rattle.vx_chunk.specs.Slice.{sliced_parts, sliced_each}
use Rattle.vx_chunk.proofs.slice.+slice.Given as goal

abbrev pub decreases-cut : goal.decreases-cut
decreases-cut l = 3 * depth l.chunk.now + 2

abbrev pub decreases-cut_node : goal.decreases-cut_node
decreases-cut_node l = 3 * depth (node_piece l.node.now) + 1

abbrev pub decreases-cut_list : goal.decreases-cut_list
decreases-cut_list l = 3 * depth l.elements.now + 3

abbrev pub decreases-cut_parts : goal.decreases-cut_parts
decreases-cut_parts l = 3 * depths (pieces_of l.parts.now)

abbrev pub decreases-cut_each : goal.decreases-cut_each
decreases-cut_each l = 3 * depths (pieces_of l.fields.now)

abbrev pub invariant-cut_parts-loop-part : goal.invariant-cut_parts-loop-part
invariant-cut_parts-loop-part l = record {
  order : l.start ≤ l.end;
  parts : l.kept.items ++ pieces_in (sliced_parts (pieces_of (drop l.part-index l.parts)) l.start l.end) ≡ pieces_in (sliced_parts (pieces_of l.parts) l.from l.to);
}

abbrev pub invariant-cut_each-loop-field : goal.invariant-cut_each-loop-field
invariant-cut_each-loop-field l = record {
  within : IsTrue (have_rows l.to (drop l.field-index l.fields));
  fields : l.cuts.items ++ pieces_in (sliced_each (pieces_of (drop l.field-index l.fields)) l.from l.to) ≡ pieces_in (sliced_each (pieces_of l.fields) l.from l.to);
}
