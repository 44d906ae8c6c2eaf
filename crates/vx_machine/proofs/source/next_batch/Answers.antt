use Rattle.std.proofs.Common.{sym, subst}
use Rattle.vx_machine.specs.Source.{SourceMay, ReadsNone, NoNumber}
use Rattle.vx_machine.proofs.CallSteps.{failed_stops}
use Rattle.vx_machine.proofs.CauseSteps.{source_may, source_reads}
use Rattle.vx_machine.proofs.SourceSteps.{no_number}
use Rattle.vx_machine.proofs.source.next_batch.Goals as goal

pub returns-in-Err-clause-reads : goal.returns-in-Err-clause-reads
returns-in-Err-clause-reads g c =
    subst (λ e. ReadsNone (g.B.BatchSource.to_come c.args.source.now) (g.B.BatchSource.to_come c.next.new.self) e) (sym c.into.ensures)
    (source_reads (g.B.BatchSource.to_come c.args.source.now) (g.B.BatchSource.to_come c.next.new.self) c.in-Err.error c.in-Err.ensures.batch)

pub returns-in-Err-clause-told : goal.returns-in-Err-clause-told
returns-in-Err-clause-told g c =
    failed_stops g.B.Fallible.faults g.B.Fallible.may_fail g.B.Fallible.must_fail c.args.source.now c.next.new.self c.in-Err.error c.into.result c.into.ensures c.in-Err.ensures.told

pub returns-in-Err-clause-cause : goal.returns-in-Err-clause-cause
returns-in-Err-clause-cause g c = subst (λ e. SourceMay (g.B.BatchSource.kind c.args.source.now) e) (sym c.into.ensures) (source_may (g.B.BatchSource.kind c.args.source.now) c.in-Err.error)

pub returns-in-Err-clause-number : goal.returns-in-Err-clause-number
returns-in-Err-clause-number g c = subst (λ e. NoNumber e) (sym c.into.ensures) (no_number c.in-Err.error)
