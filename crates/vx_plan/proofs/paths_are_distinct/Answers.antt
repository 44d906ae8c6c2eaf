use Rattle.vx_plan.proofs.SourceLaws.{paths_distinct}
use Rattle.vx_plan.proofs.paths_are_distinct.Goals as goal

pub returns : goal.returns
returns c = paths_distinct
