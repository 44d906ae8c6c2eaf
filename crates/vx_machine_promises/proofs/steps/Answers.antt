use Rattle.vx_machine_promises.proofs.Stepping.{start_is_reached, step_is_reached}
use Rattle.vx_machine_promises.proofs.steps.Goals as goal

pub returns-clause-start : goal.returns-clause-start
returns-clause-start c = start_is_reached

pub returns-clause-step : goal.returns-clause-step
returns-clause-step c = step_is_reached
