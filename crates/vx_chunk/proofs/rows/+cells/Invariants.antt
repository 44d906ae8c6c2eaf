use Rattle.std.proofs.Common.{◌≡◌, ◌+◌, ◌-◌, ◌*◌, ◌≤◌, ◌++◌, map, take, drop}
use Rattle.std.specs.Prelude.{IsTrue}
use Rattle.vx_model.specs.TreeView.{tree}
use Rattle.vx_model.specs.ChunkData.{pieces_of, joined_cells}
use Rattle.vx_chunk_cells.specs.Window.{window}
use Rattle.vx_chunk.specs.Depth.{depth, depths}
use Rattle.vx_chunk_cells.specs.Columns.{trees_in, rows_across}
use Rattle.vx_chunk.specs.Rows.{have_rows, column}
use Rattle.vx_chunk.proofs.rows.+cells.Given as goal

abbrev pub decreases-cells_between : goal.decreases-cells_between
decreases-cells_between l = 3 * depth l.chunk.now + 2

abbrev pub decreases-push_between : goal.decreases-push_between
decreases-push_between l = 3 * depth l.chunk.now + 1

abbrev pub decreases-push_parts : goal.decreases-push_parts
decreases-push_parts l = 3 * depths (pieces_of l.parts.now)

abbrev pub decreases-push_elements : goal.decreases-push_elements
decreases-push_elements l = 3 * depth l.elements.now + 3

abbrev pub decreases-push_fields : goal.decreases-push_fields
decreases-push_fields l = 3 * depths (pieces_of l.fields.now)

abbrev pub invariant-push_parts-loop-part : goal.invariant-push_parts-loop-part
invariant-push_parts-loop-part l = record {
  order : l.start ≤ l.end;
  cells : map tree l.out.items ++ window l.start l.end (joined_cells (pieces_of (drop l.part-index l.parts))) ≡ map tree l.fn.out.items ++ window l.from l.to (joined_cells (pieces_of l.parts));
}

abbrev pub invariant-push_fields-loop-field : goal.invariant-push_fields-loop-field
invariant-push_fields-loop-field l = record {
  within : IsTrue (have_rows l.to (drop l.field-index l.fields));
  rows : map trees_in l.rows.items ≡ rows_across (l.to - l.from) (map (column l.from l.to) (take l.field-index l.fields));
}
