use Rattle.vx_machine_view.proofs.Moving.{steps_show}
use Rattle.vx_machine_view.proofs.tasks.Goals as goal

pub returns : goal.returns
returns c = steps_show
