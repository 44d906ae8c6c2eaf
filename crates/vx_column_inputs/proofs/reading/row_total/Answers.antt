use Rattle.std.proofs.Common.{◌+◌, ap, ◌∙◌, subst, sym}
use Rattle.std.proofs.lemmas.Result.{err_from_is_err_and}
use Rattle.vx_column_inputs.proofs.Rows.{Counted, counted_more, counted_past, all_counted}
use Rattle.vx_column_inputs.proofs.reading.row_total.Goals as goal

pub loop-batch-preserved : goal.loop-batch-preserved
loop-batch-preserved c =
    subst (Counted c.args.batches.now (c.loop-batch.batch-index + 1)) (sym (c.in_ok-rows.ensures ∙ ap (λ z. c.loop-batch.rows + z) c.len.ensures.rows))
    (counted_more c.args.batches.now c.loop-batch.batch-index c.loop-batch.rows c.batch-item.result c.loop-batch-test.true c.batch-item.is c.loop-batch.invariant)

pub returns-in_err-rows-clause-past : goal.returns-in_err-rows-clause-past
returns-in_err-rows-clause-past c =
    let p = err_from_is_err_and c.from_residual.result c.from_residual.ensures.1 in
    rw (p.1, p.2)
    (counted_past c.args.batches.now c.loop-batch.batch-index c.loop-batch.rows c.batch-item.result c.loop-batch-test.true c.batch-item.is c.loop-batch.invariant c.in_err-rows.field-0.0
    (c.in_err-rows.ensures.0 ∙ ap (λ z. c.loop-batch.rows + z) c.len.ensures.rows) c.in_err-rows.ensures.1)

pub returns-clause-total : goal.returns-clause-total
returns-clause-total c = all_counted c.args.batches.now c.loop-batch.batch-index c.loop-batch.rows c.loop-batch-test.false c.loop-batch.invariant
