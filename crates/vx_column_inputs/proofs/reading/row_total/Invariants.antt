use Rattle.vx_column_inputs.proofs.Rows.{Counted}
use Rattle.vx_column_inputs.proofs.reading.row_total.Given as goal

abbrev pub invariant-loop-batch : goal.invariant-loop-batch
invariant-loop-batch l = Counted l.batches l.batch-index l.rows
