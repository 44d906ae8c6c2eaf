use Rattle.vx_machine_turns.proofs.Planned.{tasks_are_planned}
use Rattle.vx_machine_turns.proofs.tasks_are_planned.Goals as goal

pub returns : goal.returns
returns c = tasks_are_planned
