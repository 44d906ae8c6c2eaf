use Rattle.vx_turn_laws.proofs.Turns.{run_turns_react, runs_start}
use Rattle.vx_turn_laws.proofs.run_turns_react.Goals as goal

pub returns-clause-turns : goal.returns-clause-turns
returns-clause-turns c = run_turns_react

pub returns-clause-start : goal.returns-clause-start
returns-clause-start c = runs_start
