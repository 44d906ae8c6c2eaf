use Rattle.vx_plan.proofs.InOrderLaws.{chunks_in_order}
use Rattle.vx_plan.proofs.chunks_stand_in_order.Goals as goal

pub returns : goal.returns
returns c = chunks_in_order
