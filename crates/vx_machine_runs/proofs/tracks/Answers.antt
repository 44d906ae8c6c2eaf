use Rattle.vx_machine_runs.proofs.Tracking.{step_is_tracked, steps_are_tracked, tracker_comes, tracker_comes_within}
use Rattle.vx_machine_runs.proofs.tracks.Goals as goal

pub returns-clause-step : goal.returns-clause-step
returns-clause-step c = step_is_tracked

pub returns-clause-within : goal.returns-clause-within
returns-clause-within c = steps_are_tracked c.causes.ensures.moves

pub returns-clause-comes : goal.returns-clause-comes
returns-clause-comes c = tracker_comes

pub returns-clause-fits : goal.returns-clause-fits
returns-clause-fits c = tracker_comes_within c.causes.ensures.moves
