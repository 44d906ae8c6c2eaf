use Rattle.vx_tasks.proofs.Queues.{always_queued}
use Rattle.vx_tasks.proofs.laws.queues.Goals as goal

pub returns : goal.returns
returns c = λ f e ms rules l. always_queued f e ms rules l
