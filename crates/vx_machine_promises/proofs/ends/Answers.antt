use Rattle.vx_machine_promises.proofs.Ending.{end_is_planned}
use Rattle.vx_machine_promises.proofs.ends.Goals as goal

pub returns : goal.returns
returns c = end_is_planned
