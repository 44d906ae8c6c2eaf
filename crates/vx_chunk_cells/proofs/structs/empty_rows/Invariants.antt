use Rattle.std.proofs.Common.{◌≡◌, [], map}
use Rattle.vx_chunk_cells.specs.Columns.{trees_in, rows_across}
use Rattle.vx_chunk_cells.proofs.structs.empty_rows.Given as goal

abbrev pub invariant-loop-i : goal.invariant-loop-i
invariant-loop-i l = map trees_in l.rows.items ≡ rows_across l._i []
