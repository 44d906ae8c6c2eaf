use Rattle.std.proofs.Common.{◌≡◌, ◌+◌, ◌*◌, ◌++◌, length, map, drop}
use Rattle.vx_model.specs.TreeView.{tree}
use Rattle.vx_model.specs.ChunkData.{pieces_of, joined_cells}
use Rattle.vx_layout_spec.specs.Parts.{all_elements, ends}
use Rattle.vx_chunk.specs.Depth.{depth, depths}
use Rattle.vx_chunk.proofs.elements.+apart.Given as goal

abbrev pub decreases-push_lists_apart : goal.decreases-push_lists_apart
decreases-push_lists_apart l = 2 * depth l.chunk.now + 1

abbrev pub decreases-push_parts_apart : goal.decreases-push_parts_apart
decreases-push_parts_apart l = 2 * depths (pieces_of l.parts.now)

abbrev pub invariant-push_parts_apart-loop-part : goal.invariant-push_parts_apart-loop-part
invariant-push_parts_apart-loop-part l = record {
  elements : map tree l.elements.items ++ all_elements (joined_cells (pieces_of (drop l.part-index l.parts))) ≡ map tree l.fn.elements.items ++ all_elements (joined_cells (pieces_of l.parts));
  offsets : l.offsets.items ++ ends (length l.elements.items) (joined_cells (pieces_of (drop l.part-index l.parts))) ≡ l.fn.offsets.items ++ ends (length l.fn.elements.items) (joined_cells (pieces_of l.parts));
}
