use Rattle.std.proofs.Common.{◌≡◌, ◌+◌, vec_len, ◌-◌, ◌^◌, []}
use Rattle.vx_machine_ids.specs.Balance.{Owned, Moved, Exact}
use Rattle.vx_machine.specs.Calls.{reads_in, appends_in, calls_in}
use Rattle.vx_machine.specs.Run.{at, Ran}
use Rattle.vx_machine.specs.Names.{HasNames}
use Rattle.vx_machine.specs.View.{phase_of, machine_of}
use Rattle.vx_sink.specs.ContextView.{counted}
use Rattle.vx_machine_node.specs.Ledger.{told_by}
use Rattle.vx_machine.specs.Whole.{machine_stock, machine_reserved}
use Rattle.vx_fault.proofs.Answering.{Answered}
use Rattle.vx_machine.proofs.running.run.Given as goal

abbrev pub invariant-steps : goal.invariant-steps
invariant-steps g l = record {
  owned : Owned (g.O.Order.active l.order) (machine_stock l.machine);
  enough : HasNames (phase_of l.machine.phase) (g.B.BatchSource.left l.source);
  moved : Moved (g.O.Order.active l.initial.order) (g.O.Order.active l.order) (machine_stock l.initial.machine) (machine_stock l.machine);
  kind : g.B.BatchSource.kind l.source ≡ g.B.BatchSource.kind l.initial.source;
  sources : l.initial.trace.items ≡ [] → Answered g.B.Fallible.faults g.B.Fallible.may_fail g.B.Fallible.must_fail l.initial.source l.source (reads_in l.trace.items);
  sinks : l.initial.trace.items ≡ [] → Answered g.O.Sink.Fallible.faults g.O.Sink.Fallible.may_fail g.O.Sink.Fallible.must_fail (g.O.Order.sink l.initial.order) (g.O.Order.sink l.order) (appends_in l.trace.items);
  pressed : l.initial.trace.items ≡ [] → Answered g.C.Fallible.faults g.C.Fallible.may_fail g.C.Fallible.must_fail l.initial.compressor l.compressor (calls_in l.trace.items);
  tracked : counted l.ctx ≡ counted l.initial.ctx + machine_reserved l.machine;
  context : told_by l.ctx ≡ told_by l.initial.ctx;
  compressor : g.C.CompressorPlugin.kind l.compressor ≡ g.C.CompressorPlugin.kind l.initial.compressor;
  ran : l.initial.trace.items ≡ [] → Exact (g.O.Order.active l.initial.order) (machine_stock l.initial.machine)
      → Ran l.initial.ctx (g.C.CompressorPlugin.image (g.C.CompressorPlugin.kind l.initial.compressor)) (g.B.BatchSource.kind l.initial.source) l.schedule 0 (at (machine_of l.initial.machine) (g.B.BatchSource.to_come l.initial.source) (g.O.Order.outlet l.initial.order)) l.trace.items
      (at (machine_of l.machine) (g.B.BatchSource.to_come l.source) (g.O.Order.outlet l.order));
}

abbrev pub decreases-steps : goal.decreases-steps
decreases-steps g l = 2 ^ 64 - vec_len l.trace
