use Rattle.std.proofs.Common.{◌≡◌, ◌+◌, length, drop}
use Rattle.vx_model.specs.ChunkData.{pieces_of, joined_cells}
use Rattle.vx_chunk.proofs.node.Chunk.+len.Given as goal

abbrev pub invariant-loop-part : goal.invariant-loop-part
invariant-loop-part l = l.rows + length (joined_cells (pieces_of (drop l.part-index l.part-items))) ≡ length (joined_cells (pieces_of l.part-items))
