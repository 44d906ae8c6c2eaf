use Rattle.std.proofs.Common.{◌≡◌, ◌+◌, ◌-◌, ◌*◌, ◌^◌, ◌<◌, min, drop}
use Rattle.vx_model.specs.ChunkData.{pieces_of, held_parts}
use Rattle.vx_chunk.specs.Depth.{depth, depths}
use Rattle.vx_chunk.proofs.sizes.+held.Given as goal

abbrev pub decreases-held_bytes : goal.decreases-held_bytes
decreases-held_bytes l = 2 * depth l.chunk.now + 1

abbrev pub decreases-all_held : goal.decreases-all_held
decreases-all_held l = 2 * depths (pieces_of l.chunks.now)

abbrev pub invariant-all_held-loop-chunk : goal.invariant-all_held-loop-chunk
invariant-all_held-loop-chunk l = record {
  short : l.total < 2 ^ 128;
  sum : min (l.total + held_parts (pieces_of (drop l.chunk-index l.chunks))) (2 ^ 128 - 1) ≡ min (held_parts (pieces_of l.chunks)) (2 ^ 128 - 1);
}
