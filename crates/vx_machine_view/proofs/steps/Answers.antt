use Rattle.vx_machine_view.proofs.Wholes.{start_shows_at, step_shows_at, ready_shows_at}
use Rattle.vx_machine_view.proofs.steps.Goals as goal

pub returns-clause-start : goal.returns-clause-start
returns-clause-start c = start_shows_at

pub returns-clause-step : goal.returns-clause-step
returns-clause-step c = step_shows_at

pub returns-clause-ready : goal.returns-clause-ready
returns-clause-ready c = ready_shows_at
