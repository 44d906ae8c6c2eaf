use Rattle.vx_machine_runs.proofs.Bounding.{numbers_are_counted, numbers_fit}
use Rattle.vx_machine_runs.proofs.counts.Goals as goal

pub returns-clause-counted : goal.returns-clause-counted
returns-clause-counted c = numbers_are_counted c.steps.ensures.start c.steps.ensures.step c.ends.ensures

pub returns-clause-fit : goal.returns-clause-fit
returns-clause-fit c = numbers_fit c.steps.ensures.start c.steps.ensures.step c.ends.ensures
