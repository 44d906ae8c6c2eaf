use Rattle.std.proofs.Common.{length}
use Rattle.std.proofs.lemmas.Result.{err_from_is_err_and}
use Rattle.vx_column_worker.proofs.Refused.{order_cause, order_told}
use Rattle.vx_column_worker.proofs.steps.hand_on.Goals as goal

pub returns-in_err-_receipt-clause-refused : goal.returns-in_err-_receipt-clause-refused
returns-in_err-_receipt-clause-refused g c =
    let p = err_from_is_err_and c.from_residual.result c.from_residual.ensures.1 in
    rw (p.1, p.2) (order_cause g.P.Pairs.first (length g.P.Pairs.pairs) c.in_err-_receipt.field-0.0 c.in_err-_receipt.ensures.fits)

pub returns-in_err-_receipt-clause-seat : goal.returns-in_err-_receipt-clause-seat
returns-in_err-_receipt-clause-seat g c =
    let p = err_from_is_err_and c.from_residual.result c.from_residual.ensures.1 in
    rw (p.1, p.2) (order_told c.in_err-_receipt.field-0.0 c.args.seat.now.faults.amount c.write.new.seat.faults.amount c.args.seat.now.made.amount c.write.new.seat.made.amount
    c.args.seat.now.seen.amount c.write.new.seat.seen.amount c.in_err-_receipt.ensures.faults c.in_err-_receipt.ensures.made c.in_err-_receipt.ensures.seen)
