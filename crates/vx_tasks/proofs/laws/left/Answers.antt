use Rattle.vx_tasks.specs.Run.{all_held, outside}
use Rattle.vx_tasks.specs.State.Counts.{Zeros}
use Rattle.vx_tasks.proofs.Steps.{move_left}
use Rattle.vx_tasks.proofs.Runs.{leads_left, refusal_left}
use Rattle.vx_tasks.proofs.laws.left.Goals as goal

pub returns-clause-moves : goal.returns-clause-moves
returns-clause-moves c = λ f s m i. move_left (all_held f s) outside 1 0 f s m i

pub returns-clause-shared : goal.returns-clause-shared
returns-clause-shared c = λ f e ms l. leads_left f Zeros e ms l

pub returns-clause-refused : goal.returns-clause-refused
returns-clause-refused c = λ f e ms m l i. refusal_left f e ms m l i
