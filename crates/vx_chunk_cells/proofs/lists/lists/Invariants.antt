use Rattle.std.proofs.Common.{◌≡◌, ◌-◌, ◌<◌, length, map, reverse, take, drop, slice_index}
use Rattle.vx_model.specs.Words.{head_or}
use Rattle.vx_model.specs.TreeView.{tree}
use Rattle.vx_model.specs.ChunkData.{list_rows}
use Rattle.vx_chunk_cells.specs.Window.{rebased}
use Rattle.vx_chunk_cells.proofs.lists.lists.Given as goal

abbrev pub decreases-loop-row : goal.decreases-loop-row
decreases-loop-row l = l.row

abbrev pub invariant-loop-row : goal.invariant-loop-row
invariant-loop-row l = record {
  within : l.row < length l.offsets;
  rows : reverse (map tree l.rows.items) ≡ list_rows (map tree l.fn.elements.items) (drop l.row (rebased (head_or 0 l.offsets) l.offsets)) (drop l.row l.valid);
  left : map tree l.elements.items ≡ take (slice_index l.offsets l.row - head_or 0 l.offsets) (map tree l.fn.elements.items);
}
