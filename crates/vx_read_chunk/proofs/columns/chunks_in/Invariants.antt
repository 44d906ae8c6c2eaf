use Rattle.std.proofs.Common.{◌≡◌, ◌++◌}
use Rattle.std.specs.Vec.Iter.{into_iter_items}
use Rattle.vx_model.specs.Words.{joined_by}
use Rattle.vx_model.specs.ChunkData.{row_values}
use Rattle.vx_read_chunk.specs.Held.{part_rows, parts_rows}
use Rattle.vx_read_chunk.proofs.columns.chunks_in.Given as goal

abbrev pub invariant-loop-part : goal.invariant-loop-part
invariant-loop-part l = joined_by row_values l.chunks.items ++ joined_by part_rows (into_iter_items l.part-iterator) ≡ parts_rows l.fn.parts
