use Rattle.std.proofs.Common.{◌≡◌, ◌++◌}
use Rattle.vx_chunk_cells.specs.Parts.{row_flags}
use Rattle.vx_chunk_cells.proofs.parts.push_row_flags.Given as goal

abbrev pub invariant-loop-row : goal.invariant-loop-row
invariant-loop-row l = l.out.items ≡ l.fn.out.items ++ row_flags l.row l.valid
