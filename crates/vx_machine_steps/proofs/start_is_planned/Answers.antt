use Rattle.vx_machine_steps.proofs.StartPlanned.{start_at_is_planned, start_is_planned}
use Rattle.vx_machine_steps.proofs.start_is_planned.Goals as goal

pub returns-clause-planned : goal.returns-clause-planned
returns-clause-planned c = start_at_is_planned

pub returns-clause-root : goal.returns-clause-root
returns-clause-root c = start_is_planned
