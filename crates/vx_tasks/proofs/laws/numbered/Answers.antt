use Rattle.vx_tasks.proofs.Sorted.{numbered_run}
use Rattle.vx_tasks.proofs.laws.numbered.Goals as goal

pub returns : goal.returns
returns c = λ f e ms rules order l. numbered_run f e ms rules order l
