use Rattle.std.proofs.Common.{inl, refl}
use Rattle.vx_machine_ids.proofs.MoveLaws.{moved_none}
use Rattle.vx_sink.specs.ContextView.{counted}
use Rattle.vx_machine_node.specs.Context.{setting_of}
use Rattle.vx_machine.specs.Whole.{machine_stock}
use Rattle.vx_machine_nodes.proofs.WriteSteps.{kept_same}
use Rattle.vx_machine_nodes.proofs.CallSteps.{unasked_self}
use Rattle.vx_machine.proofs.Remembering.{memory_first}
use Rattle.vx_machine.proofs.machine.Machine.step.Goals as goal

pub returns-in_default-clause-moved : goal.returns-in_default-clause-moved
returns-in_default-clause-moved g c = moved_none (g.O.Order.active c.args.order.now) (machine_stock c.args.self.now) c.requires.owned

pub returns-in_default-clause-source_told : goal.returns-in_default-clause-source_told
returns-in_default-clause-source_told g c = inl (unasked_self (g.B.Fallible.faults c.args.source.now) (g.B.Fallible.may_fail c.args.source.now) (g.B.Fallible.must_fail c.args.source.now))

pub returns-in_default-clause-sink_told : goal.returns-in_default-clause-sink_told
returns-in_default-clause-sink_told g c =
    inl (unasked_self (g.O.Sink.Fallible.faults (g.O.Order.sink c.args.order.now)) (g.O.Sink.Fallible.may_fail (g.O.Order.sink c.args.order.now)) (g.O.Sink.Fallible.must_fail (g.O.Order.sink c.args.order.now)))

pub returns-in_default-clause-pressed : goal.returns-in_default-clause-pressed
returns-in_default-clause-pressed g c = inl (unasked_self (g.C.Fallible.faults c.args.compressor.now) (g.C.Fallible.may_fail c.args.compressor.now) (g.C.Fallible.must_fail c.args.compressor.now))

pub returns-in_default-clause-refused : goal.returns-in_default-clause-refused
returns-in_default-clause-refused g c = λ number.
    memory_first (setting_of c.args.ctx.now (g.C.CompressorPlugin.image (g.C.CompressorPlugin.kind c.args.compressor.now))) (g.O.Order.active c.args.order.now) number (g.B.BatchSource.kind c.args.source.now) (g.O.Order.outlet c.args.order.now) c.args.self.now c.args.pick (counted c.args.ctx.now)
    (g.B.BatchSource.to_come c.args.source.now) c.requires.ready

pub returns-in_default-clause-kept : goal.returns-in_default-clause-kept
returns-in_default-clause-kept g c = kept_same (g.O.Order.outlet c.args.order.now) (g.O.Order.outlet c.args.order.now) refl
