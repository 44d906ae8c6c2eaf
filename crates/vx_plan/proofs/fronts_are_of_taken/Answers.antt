use Rattle.vx_plan.proofs.SourceLaws.{front_of_taken}
use Rattle.vx_plan.proofs.fronts_are_of_taken.Goals as goal

pub returns : goal.returns
returns c = front_of_taken
