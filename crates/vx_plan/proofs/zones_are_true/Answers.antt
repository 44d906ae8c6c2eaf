use Rattle.vx_plan.proofs.SourceLaws.{zones_are_true}
use Rattle.vx_plan.proofs.zones_are_true.Goals as goal

pub returns : goal.returns
returns c = zones_are_true
