use Rattle.vx_machine_steps.proofs.Laws.{moves_agree, held_agrees, move_keeps, runs_lead}
use Rattle.vx_machine_steps.proofs.steps.Goals as goal

pub returns-clause-moves : goal.returns-clause-moves
returns-clause-moves c = moves_agree

pub returns-clause-held : goal.returns-clause-held
returns-clause-held c = held_agrees

pub returns-clause-keeps : goal.returns-clause-keeps
returns-clause-keeps c = move_keeps

pub returns-clause-runs : goal.returns-clause-runs
returns-clause-runs c = runs_lead
