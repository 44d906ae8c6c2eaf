use Rattle.vx_tasks.proofs.Refusals.{many_chunks}
use Rattle.std.proofs.Common.{refl}
use Rattle.vx_tasks.proofs.instances.refusals.Goals as goal

pub returns-clause-chunks : goal.returns-clause-chunks
returns-clause-chunks c = λ picks. many_chunks picks

pub returns-clause-batch : goal.returns-clause-batch
returns-clause-batch c = (refl, refl, refl)
