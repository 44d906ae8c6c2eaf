use Rattle.vx_tasks.proofs.Leaves.{flat_good}
use Rattle.vx_tasks.proofs.nodes.flat.Goals as goal

pub returns : goal.returns
returns c = λ name e bad ps ended. flat_good name e bad ps ended
