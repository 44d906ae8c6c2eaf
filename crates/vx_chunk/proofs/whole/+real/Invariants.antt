use Rattle.std.proofs.Common.{◌≡◌, ◌+◌, ◌*◌, drop}
use Rattle.vx_model.specs.ChunkData.{pieces_of}
use Rattle.vx_layout_spec.specs.Real.{are_real}
use Rattle.vx_chunk.specs.Depth.{depth, depths}
use Rattle.vx_chunk.proofs.whole.+real.Given as goal

abbrev pub decreases-real : goal.decreases-real
decreases-real l = 2 * depth l.chunk.now + 1

abbrev pub decreases-real_parts : goal.decreases-real_parts
decreases-real_parts l = 2 * depths (pieces_of l.chunks.now)

abbrev pub invariant-real_parts-loop-chunk : goal.invariant-real_parts-loop-chunk
invariant-real_parts-loop-chunk l = are_real (pieces_of (drop l.chunk-index l.chunks)) ≡ are_real (pieces_of l.chunks)
