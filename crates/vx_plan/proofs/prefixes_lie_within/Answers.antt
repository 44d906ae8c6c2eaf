use Rattle.vx_plan.proofs.SourceLaws.{prefix_within}
use Rattle.vx_plan.proofs.prefixes_lie_within.Goals as goal

pub returns : goal.returns
returns c = prefix_within
