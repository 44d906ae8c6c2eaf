use Rattle.std.proofs.Common.{◌+◌, ◌*◌, drop}
use Rattle.vx_model.specs.ChunkData.{pieces_of}
use Rattle.vx_chunk.specs.Depth.{depth, depths}
use Rattle.vx_segment_writer.proofs.Steps.{Completes, Carries}
use Rattle.vx_segment_writer.proofs.encode.+encode.Given as goal

abbrev pub decreases-push_chunk : goal.decreases-push_chunk
decreases-push_chunk l = 2 * depth l.chunk.now + 1

abbrev pub decreases-push_chunks : goal.decreases-push_chunks
decreases-push_chunks l = 2 * depths (pieces_of l.chunks.now)

abbrev pub invariant-push_chunks-loop-chunk : goal.invariant-push_chunks-loop-chunk
invariant-push_chunks-loop-chunk l = record {
  written : Completes l.padded l.fn.out.items l.out.items l.fn.tree.items l.tree.items l.ctx (drop l.chunk-index l.chunks) l.chunks;
  refused : Carries l.ctx (drop l.chunk-index l.chunks) l.chunks;
}
