use Rattle.std.proofs.Common.{◌≡◌, ◌+◌, ◌*◌, ◌≤◌, length, drop}
use Rattle.vx_model.specs.ChunkData.{pieces_of, joined_cells}
use Rattle.vx_chunk.proofs.reads.total_rows.Given as goal

abbrev pub invariant-loop-chunk : goal.invariant-loop-chunk
invariant-loop-chunk l = record {
  sum : l.rows + length (joined_cells (pieces_of (drop l.chunk-index l.chunks))) ≡ length (joined_cells (pieces_of l.chunks));
  bound : l.rows ≤ l.chunk-index * 18446744073709551615;
}
