use Rattle.std.proofs.Common.{◌≡◌, drop}
use Rattle.vx_segment_spec.specs.Pieces.{have_rows}
use Rattle.vx_segment_reader.proofs.pieces.have_rows.Given as goal

abbrev pub invariant-loop-chunk : goal.invariant-loop-chunk
invariant-loop-chunk l = have_rows l.rows (drop l.chunk-index l.chunks) ≡ have_rows l.rows l.chunks
