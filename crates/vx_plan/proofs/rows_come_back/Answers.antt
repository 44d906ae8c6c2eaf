use Rattle.vx_plan.proofs.SourceLaws.{rows_come_back}
use Rattle.vx_plan.proofs.rows_come_back.Goals as goal

pub returns : goal.returns
returns c = rows_come_back
