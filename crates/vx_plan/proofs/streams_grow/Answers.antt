use Rattle.vx_plan.proofs.SourceLaws.{streams_grow}
use Rattle.vx_plan.proofs.streams_grow.Goals as goal

pub returns : goal.returns
returns c = streams_grow
