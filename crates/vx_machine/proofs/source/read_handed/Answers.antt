use Rattle.vx_named_tasks.specs.Names.{handed}
use Rattle.vx_machine.proofs.SourceSteps.{hands, ends, refuses}
use Rattle.vx_machine.proofs.source.read_handed.Goals as goal

pub returns-in-Some-clause-done : goal.returns-in-Some-clause-done
returns-in-Some-clause-done g c =
    hands (g.B.BatchSource.kind c.args.source.now) (g.B.BatchSource.to_come c.args.source.now) (g.B.BatchSource.to_come c.next_batch.new.source) c.args.ids.items c.pop_front.new.self.items c.in-Some.id c.in-Ok-Some.chunk
    (rw c.in-Ok-Some.field-0-is at c.in-Ok-Some.ensures.reads) (rw c.in-Ok-Some.field-0-is at c.in-Ok-Some.ensures.typed) (rw c.in-Ok-Some.field-0-is at c.in-Ok-Some.ensures.whole) c.in-Some.ensures.items

pub returns-in-Ok-None-clause-done : goal.returns-in-Ok-None-clause-done
returns-in-Ok-None-clause-done g c =
    ends (g.B.BatchSource.kind c.args.source.now) (g.B.BatchSource.to_come c.args.source.now) (g.B.BatchSource.to_come c.next_batch.new.source) (handed c.args.ids.items) (rw c.in-Ok-None.field-0-is at c.in-Ok-None.ensures.reads)

pub returns-in-Err-clause-refused : goal.returns-in-Err-clause-refused
returns-in-Err-clause-refused g c =
    refuses (g.B.BatchSource.kind c.args.source.now) (g.B.BatchSource.to_come c.args.source.now) (g.B.BatchSource.to_come c.next_batch.new.source) (handed c.args.ids.items) c.in-Err.error
    c.in-Err.ensures.reads c.in-Err.ensures.cause c.in-Err.ensures.number
