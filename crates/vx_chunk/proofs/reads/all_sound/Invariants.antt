use Rattle.std.proofs.Common.{◌≡◌, drop}
use Rattle.vx_model.specs.ChunkData.{pieces_of, are_sound}
use Rattle.vx_chunk.proofs.reads.all_sound.Given as goal

abbrev pub invariant-loop-chunk : goal.invariant-loop-chunk
invariant-loop-chunk l = are_sound (pieces_of (drop l.chunk-index l.chunks)) ≡ are_sound (pieces_of l.chunks)
