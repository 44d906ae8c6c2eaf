use Rattle.vx_machine_runs.proofs.Picking.{picks_are_exact, ready_is_within_steps, ready_is_within_all}
use Rattle.vx_machine_runs.proofs.picks.Goals as goal

pub returns-clause-exact : goal.returns-clause-exact
returns-clause-exact c = picks_are_exact

pub returns-clause-steps : goal.returns-clause-steps
returns-clause-steps c = ready_is_within_steps c.steps.ensures.start c.steps.ensures.step c.ends.ensures c.traces.ensures.whole c.traces.ensures.all

pub returns-clause-all : goal.returns-clause-all
returns-clause-all c = ready_is_within_all c.steps.ensures.start c.steps.ensures.step c.traces.ensures.first
