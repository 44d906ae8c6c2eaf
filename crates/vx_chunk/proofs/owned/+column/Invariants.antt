use Rattle.std.proofs.Common.{◌≡◌, ◌+◌, ◌*◌, ◌≤◌, ◌++◌}
use Rattle.std.specs.Vec.Iter.{into_iter_items}
use Rattle.vx_model.specs.ChunkData.{pieces_of, joined_cells}
use Rattle.vx_column.specs.ColumnView.{column_cells}
use Rattle.vx_chunk.specs.Depth.{depth, depths}
use Rattle.vx_chunk.proofs.owned.+column.Given as goal

abbrev pub decreases-own_column : goal.decreases-own_column
decreases-own_column l = 2 * depth l.chunk + 1

abbrev pub decreases-join_parts : goal.decreases-join_parts
decreases-join_parts l = 2 * depths (pieces_of l.parts.items)

abbrev pub invariant-join_parts-loop-part : goal.invariant-join_parts-loop-part
invariant-join_parts-loop-part l = record {
  cells : column_cells l.column ++ joined_cells (pieces_of (into_iter_items l.part-iterator)) ≡ joined_cells (pieces_of l.fn.parts.items);
  deep : depths (pieces_of (into_iter_items l.part-iterator)) ≤ depths (pieces_of l.fn.parts.items);
}
