use Rattle.std.proofs.Common.{◌≡◌, ◌+◌, ◌-◌, ◌*◌, ◌^◌, ◌≤◌, length, drop}
use Rattle.vx_model.specs.ChunkData.{pieces_of, joined_cells}
use Rattle.vx_layout_spec.specs.Parts.{all_elements}
use Rattle.vx_chunk.specs.Depth.{depth, depths}
use Rattle.vx_chunk.proofs.elements.+counts.Given as goal

abbrev pub decreases-element_count : goal.decreases-element_count
decreases-element_count l = 2 * depth l.chunk.now + 1

abbrev pub decreases-elements_in : goal.decreases-elements_in
decreases-elements_in l = 2 * depths (pieces_of l.parts.now)

abbrev pub invariant-elements_in-loop-part : goal.invariant-elements_in-loop-part
invariant-elements_in-loop-part l = record {
  count : l.total + length (all_elements (joined_cells (pieces_of (drop l.part-index l.parts)))) ≡ length (all_elements (joined_cells (pieces_of l.parts)));
  bound : l.total + length (joined_cells (pieces_of (drop l.part-index l.parts))) * (2 ^ 64 - 1) ≤ length (joined_cells (pieces_of l.parts)) * (2 ^ 64 - 1);
}
