use Rattle.vx_plan.proofs.SourceLaws.{paths_in_region}
use Rattle.vx_plan.proofs.paths_lie_in_region.Goals as goal

pub returns : goal.returns
returns c = paths_in_region
