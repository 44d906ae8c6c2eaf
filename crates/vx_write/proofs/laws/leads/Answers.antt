use Rattle.vx_write.proofs.Leading.{runs_are_led}
use Rattle.vx_write.proofs.laws.leads.Goals as goal

pub returns : goal.returns
returns c = runs_are_led
