use Rattle.vx_tasks.proofs.Passing.{passing_good}
use Rattle.vx_tasks.proofs.nodes.passing.Goals as goal

pub returns : goal.returns
returns c = λ name ps ended e t cname cps cend ce d kids dr s k a b h g. passing_good name ps ended e t cname cps cend ce d kids dr s k a b h g
