use Rattle.std.proofs.Common.{◌≡◌}
use Rattle.vx_column_inputs.proofs.Answering.{HasGiven}
use Rattle.vx_column_inputs.proofs.reading.read_all.Given as goal

abbrev pub invariant-batches : goal.invariant-batches
invariant-batches g l = record {
  kind : g.B.BatchSource.kind l.source ≡ g.B.BatchSource.kind l.initial.source;
  given : HasGiven g.B.Fallible.faults g.B.Fallible.may_fail g.B.Fallible.must_fail g.B.BatchSource.to_come (g.B.BatchSource.kind l.initial.source) l.initial.source l.source l.batches.items;
}

abbrev pub decreases-batches : goal.decreases-batches
decreases-batches g l = g.B.BatchSource.left l.source
