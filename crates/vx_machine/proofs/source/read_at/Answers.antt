use Rattle.vx_named_tasks.specs.Names.{onward}
use Rattle.vx_machine.proofs.SourceSteps.{gives, ends, refuses}
use Rattle.vx_machine.proofs.source.read_at.Goals as goal

pub returns-in-Ok-Some-clause-done : goal.returns-in-Ok-Some-clause-done
returns-in-Ok-Some-clause-done g c = λ e i n f.
    gives (g.B.BatchSource.kind c.args.source.now) (g.B.BatchSource.to_come c.args.source.now) (g.B.BatchSource.to_come c.next_batch.new.source) e c.args.pointer c.args.id c.in-Ok-Some.chunk
    (rw c.in-Ok-Some.field-0-is at c.in-Ok-Some.ensures.reads) (rw c.in-Ok-Some.field-0-is at c.in-Ok-Some.ensures.typed) (rw c.in-Ok-Some.field-0-is at c.in-Ok-Some.ensures.whole) i n f

pub returns-in-Ok-None-clause-done : goal.returns-in-Ok-None-clause-done
returns-in-Ok-None-clause-done g c = λ e i n f.
    ends (g.B.BatchSource.kind c.args.source.now) (g.B.BatchSource.to_come c.args.source.now) (g.B.BatchSource.to_come c.next_batch.new.source) (onward e) (rw c.in-Ok-None.field-0-is at c.in-Ok-None.ensures.reads)

pub returns-in-Err-clause-refused : goal.returns-in-Err-clause-refused
returns-in-Err-clause-refused g c = λ e.
    refuses (g.B.BatchSource.kind c.args.source.now) (g.B.BatchSource.to_come c.args.source.now) (g.B.BatchSource.to_come c.next_batch.new.source) (onward e) c.in-Err.error
    c.in-Err.ensures.reads c.in-Err.ensures.cause c.in-Err.ensures.number
