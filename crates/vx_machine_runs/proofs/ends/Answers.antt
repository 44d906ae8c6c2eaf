use Rattle.vx_machine_runs.proofs.Ending.{stays_ready, ends_whole, steps_have_cause}
use Rattle.vx_machine_runs.proofs.ends.Goals as goal

pub returns-clause-ready : goal.returns-clause-ready
returns-clause-ready c = stays_ready

pub returns-clause-whole : goal.returns-clause-whole
returns-clause-whole c = ends_whole c.ends.ensures

pub returns-clause-causes : goal.returns-clause-causes
returns-clause-causes c = steps_have_cause c.causes.ensures.refusals c.causes.ensures.moves
