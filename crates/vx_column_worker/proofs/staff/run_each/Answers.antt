use Rattle.std.proofs.Common.{sym, subst}
use denote.Exit.{no}
use denote.Param.Send.{arg_send, param_send}
use Rattle.vx_column_worker.specs.Staffed.{MayRun}
use Rattle.vx_column_worker.proofs.Crossing.{worker_sends}
use Rattle.vx_column_worker.proofs.staff.run_each.Goals as goal

pub for_each_mut-requires-clause-accepts : goal.for_each_mut-requires-clause-accepts
for_each_mut-requires-clause-accepts g c κs within = λ i p l e.
    subst (λ z. MayRun g.P.Pairs.pairs g.C.CompressorPlugin.image g.C.CompressorPlugin.kind z.job z.done) (sym e) (c.requires.may i p.now l)

pub returns-clause-each : goal.returns-clause-each
returns-clause-each g c = λ i d l. let k = (c.for_each_mut.ensures i d l).1 in rw (← k.argument_is, ← k.left) k.call

pub for_each_mut-requires-send-T : goal.for_each_mut-requires-send-T
for_each_mut-requires-send-T g c κs within =
    param_send 1 _ (arg_send _ no _ (worker_sends _ _ _ _ _ _ _ g.P.Pairs g.W.Ledger g.F.Ledger g.M.Ledger g.N.Ledger g.L.Ledger c.type_bounds.send-C))
