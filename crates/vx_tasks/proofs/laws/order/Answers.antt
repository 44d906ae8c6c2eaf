use Rattle.vx_tasks.specs.State.Counts.{Zeros}
use Rattle.vx_tasks.proofs.Sorted.{all_covered, run_ascends, run_below}
use Rattle.vx_tasks.proofs.laws.order.Goals as goal

pub returns-clause-covered : goal.returns-clause-covered
returns-clause-covered c = λ f s rules order x i. all_covered f s rules order x i

pub returns-clause-ascends : goal.returns-clause-ascends
returns-clause-ascends c = λ f e ms rules order l. run_ascends f Zeros e ms rules order l

pub returns-clause-below : goal.returns-clause-below
returns-clause-below c = λ f e ms rules order l x y i k. run_below f Zeros e ms rules order l x y i k
