use Rattle.vx_tasks.proofs.Joins.{joins_apart}
use Rattle.vx_tasks.proofs.nodes.joins.Goals as goal

pub returns : goal.returns
returns c = λ t kids b. joins_apart t kids b
