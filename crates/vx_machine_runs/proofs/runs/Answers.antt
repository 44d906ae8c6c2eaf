use Rattle.vx_machine_runs.proofs.Stepping.{start_under, step_under, run_by_under, places_are_picks, run_under, schedule_is_free}
use Rattle.vx_machine_runs.proofs.runs.Goals as goal

pub returns-clause-start : goal.returns-clause-start
returns-clause-start c = start_under c.steps.ensures.start

pub returns-clause-step : goal.returns-clause-step
returns-clause-step c = step_under c.steps.ensures.step

pub returns-clause-by : goal.returns-clause-by
returns-clause-by c = run_by_under c.steps.ensures.start c.steps.ensures.step

pub returns-clause-picks : goal.returns-clause-picks
returns-clause-picks c = places_are_picks

pub returns-clause-run : goal.returns-clause-run
returns-clause-run c = run_under c.steps.ensures.start c.steps.ensures.step

pub returns-clause-free : goal.returns-clause-free
returns-clause-free c = schedule_is_free
