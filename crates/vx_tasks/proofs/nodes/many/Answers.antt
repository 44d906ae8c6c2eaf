use Rattle.vx_tasks.proofs.Many.{many_good}
use Rattle.vx_tasks.proofs.nodes.many.Goals as goal

pub returns : goal.returns
returns c = λ ps ended e t ds kids d a k g. many_good ps ended e t d ds kids a k g
