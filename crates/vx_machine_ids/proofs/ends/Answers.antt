use Rattle.vx_machine_ids.proofs.MoveLaws.{leaves_none}
use Rattle.vx_machine_ids.proofs.ends.Goals as goal

pub returns : goal.returns
returns c = leaves_none
