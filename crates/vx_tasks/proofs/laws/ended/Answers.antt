use Rattle.vx_tasks.proofs.Runs.{at_the_end}
use Rattle.vx_tasks.proofs.laws.ended.Goals as goal

pub returns : goal.returns
returns c = λ f e ms rules l h. at_the_end f e ms rules l h
