use Rattle.std.proofs.Common.{◌≡◌, ◌++◌, ◌-◌, map}
use Rattle.vx_layout_spec.specs.Rows.{zipped}
use Rattle.vx_read.specs.Parts.{rows_in, queued}
use Rattle.vx_read.proofs.structs.zipped.Given as goal

abbrev pub invariant-loop-row : goal.invariant-loop-row
invariant-loop-row l = rows_in l.rows ++ zipped (l.row_count - l._row) (map queued l.queues.items) ≡ zipped l.row_count (map rows_in l.fn.columns.items)
