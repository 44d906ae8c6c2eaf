use Rattle.std.proofs.Common.{◌≡◌, ◌+◌, length}
use Rattle.vx_seats.specs.Turns.{NeverFails}
use Rattle.vx_column_machine.specs.Course.{Course}
use Rattle.vx_column_machine.specs.Underway.{InBalance}
use Rattle.vx_column_worker.specs.Jobs.{AtWork}
use Rattle.vx_column_worker.proofs.steps.steps.Given as goal

abbrev pub invariant-steps : goal.invariant-steps
invariant-steps g l = record {
  goes : (goal.iterator-steps g).can_next l.iterator' × (goal.iterator-steps g).is_finite l.iterator';
  balance : InBalance g.B.Fallible.may_fail l.machine;
  at_work : (x : Course) → AtWork g.B.BatchSource.to_come g.B.BatchSource.kind g.B.BatchSource.left g.P.Pairs.pairs (g.D.CompressorPlugin.image (g.D.CompressorPlugin.kind l.initial.compressor)) x l.initial.machine
      → AtWork g.B.BatchSource.to_come g.B.BatchSource.kind g.B.BatchSource.left g.P.Pairs.pairs (g.D.CompressorPlugin.image (g.D.CompressorPlugin.kind l.initial.compressor)) x l.machine;
  writes : l.seat.writes.amount + length l.initial.machine.paths.items ≡ l.initial.seat.writes.amount + length l.machine.paths.items;
  column : l.seat.column ≡ l.initial.seat.column;
  faults : l.seat.faults.amount ≡ l.initial.seat.faults.amount;
  made : l.seat.made.amount ≡ l.initial.seat.made.amount;
  seen : l.seat.seen.amount ≡ l.initial.seat.seen.amount;
  kind : g.D.CompressorPlugin.kind l.compressor ≡ g.D.CompressorPlugin.kind l.initial.compressor;
  pressed : g.D.Fallible.faults l.compressor ≡ g.D.Fallible.faults l.initial.compressor;
  steady : NeverFails (g.D.Fallible.may_fail l.initial.compressor) → NeverFails (g.D.Fallible.may_fail l.compressor);
}
