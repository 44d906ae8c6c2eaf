use Rattle.vx_machine_promises.proofs.Ending.{history_is_first}
use Rattle.vx_machine_promises.proofs.fronts.Goals as goal

pub returns : goal.returns
returns c = history_is_first
