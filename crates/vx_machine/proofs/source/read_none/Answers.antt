use Rattle.std.proofs.Common.{sym, subst}
use Rattle.vx_named_tasks.specs.Names.{onward}
use Rattle.vx_machine.specs.SourceActs.{ReadRefused}
use Rattle.vx_machine.proofs.CallSteps.{full_stops}
use Rattle.vx_machine.proofs.SourceSteps.{full, ends, refuses}
use Rattle.vx_machine.proofs.source.read_none.Goals as goal

pub returns-in-Ok-Some-clause-refused : goal.returns-in-Ok-Some-clause-refused
returns-in-Ok-Some-clause-refused g c =
    subst (λ x. ReadRefused (g.B.BatchSource.kind c.args.source.now) (g.B.BatchSource.to_come c.args.source.now) (g.B.BatchSource.to_come c.next_batch.new.source) (onward c.args.pointer) x) (sym c.into.ensures)
    (full (g.B.BatchSource.kind c.args.source.now) (g.B.BatchSource.to_come c.args.source.now) (g.B.BatchSource.to_come c.next_batch.new.source) c.args.pointer c.in-Ok-Some.batch c.args.full
    (rw c.in-Ok-Some.field-0-is at c.in-Ok-Some.ensures.reads) (rw c.in-Ok-Some.field-0-is at c.in-Ok-Some.ensures.typed) (rw c.in-Ok-Some.field-0-is at c.in-Ok-Some.ensures.whole) c.requires.full c.requires.late)

pub returns-in-Ok-None-clause-done : goal.returns-in-Ok-None-clause-done
returns-in-Ok-None-clause-done g c =
    ends (g.B.BatchSource.kind c.args.source.now) (g.B.BatchSource.to_come c.args.source.now) (g.B.BatchSource.to_come c.next_batch.new.source) (onward c.args.pointer) (rw c.in-Ok-None.field-0-is at c.in-Ok-None.ensures.reads)

pub returns-in-Err-clause-refused : goal.returns-in-Err-clause-refused
returns-in-Err-clause-refused g c =
    refuses (g.B.BatchSource.kind c.args.source.now) (g.B.BatchSource.to_come c.args.source.now) (g.B.BatchSource.to_come c.next_batch.new.source) (onward c.args.pointer) c.in-Err.error
    c.in-Err.ensures.reads c.in-Err.ensures.cause c.in-Err.ensures.number

pub returns-in-Ok-Some-clause-told : goal.returns-in-Ok-Some-clause-told
returns-in-Ok-Some-clause-told g c =
    full_stops g.B.Fallible.faults g.B.Fallible.may_fail g.B.Fallible.must_fail c.args.source.now c.next_batch.new.source c.args.pointer.last c.args.full c.into.result c.into.ensures c.requires.full c.in-Ok-Some.ensures.told
