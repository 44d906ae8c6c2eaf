use Rattle.std.proofs.Common.{◌∷◌, ◌++◌, [], ◌∙◌, sym, subst}
use Rattle.std.proofs.lemmas.Result.{err_from_is_err_and}
use Rattle.vx_column_inputs.proofs.Answering.{HasGiven, batch_given, call_stops, no_room}
use Rattle.vx_column_inputs.proofs.reading.read_all.Goals as goal

pub returns-in_err-batch-clause-refused : goal.returns-in_err-batch-clause-refused
returns-in_err-batch-clause-refused g c =
    let p = err_from_is_err_and c.from_residual.result c.from_residual.ensures.1 in
    rw (p.1, p.2)
    (call_stops g.B.Fallible.faults g.B.Fallible.may_fail g.B.Fallible.must_fail g.B.BatchSource.to_come (g.B.BatchSource.kind c.args.source.now) c.args.source.now c.batches.source c.next_of_type.new.source c.batches.batches.items
    c.batches.invariant.given (g.B.BatchSource.kind c.batches.source) c.batches.invariant.kind c.in_err-batch.field-0.0 c.in_err-batch.ensures.told)

pub batches-preserved : goal.batches-preserved
batches-preserved g c = record {
  kind = c.next_of_type.ensures.kind ∙ c.batches.invariant.kind;
  given =
      subst (HasGiven g.B.Fallible.faults g.B.Fallible.may_fail g.B.Fallible.must_fail g.B.BatchSource.to_come (g.B.BatchSource.kind c.args.source.now) c.args.source.now c.next_of_type.new.source) (sym c.in_ok-push.ensures.items)
      (batch_given g.B.Fallible.faults g.B.Fallible.may_fail g.B.Fallible.must_fail g.B.BatchSource.to_come (g.B.BatchSource.kind c.args.source.now) c.args.source.now c.batches.source c.next_of_type.new.source c.batches.batches.items
      c.batches.invariant.given (g.B.BatchSource.kind c.batches.source) c.batches.invariant.kind c.in_ok-batch.field-0 c.in-Some.batch c.in-Some.is c.in_ok-batch.ensures.told);
}

pub returns-in_err-push-clause-refused : goal.returns-in_err-push-clause-refused
returns-in_err-push-clause-refused g c =
    let p = err_from_is_err_and c.from_residual-in_err-push.result c.from_residual-in_err-push.ensures.1 in
    rw (p.1, p.2)
    (no_room g.B.Fallible.faults g.B.Fallible.may_fail g.B.Fallible.must_fail g.B.BatchSource.to_come (g.B.BatchSource.kind c.args.source.now) c.args.source.now c.next_of_type.new.source (c.batches.batches.items ++ (c.in-Some.batch ∷ []))
    (batch_given g.B.Fallible.faults g.B.Fallible.may_fail g.B.Fallible.must_fail g.B.BatchSource.to_come (g.B.BatchSource.kind c.args.source.now) c.args.source.now c.batches.source c.next_of_type.new.source c.batches.batches.items
    c.batches.invariant.given (g.B.BatchSource.kind c.batches.source) c.batches.invariant.kind c.in_ok-batch.field-0 c.in-Some.batch c.in-Some.is c.in_ok-batch.ensures.told))
