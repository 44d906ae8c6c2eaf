use Rattle.vx_model.specs.TyView.{ty}
use Rattle.vx_generator.proofs.BatchLaws.{given}
use Rattle.vx_generator.proofs.source.GeneratedSourceBatchSource.next.Goals as goal

pub returns-in-Ok-clause-batch : goal.returns-in-Ok-clause-batch
returns-in-Ok-clause-batch c =
    given (ty c.args.self.now.dtype) c.args.self.now.next c.args.self.now.end c.batch_len-count.result c.in-Ok.chunk c.batch_len-count.ensures c.if-count-eq0.false c.in-Ok.ensures
