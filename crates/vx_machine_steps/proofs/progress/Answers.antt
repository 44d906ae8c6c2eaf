use Rattle.vx_machine_steps.proofs.Ready.{some_move, moves_lower, runs_count}
use Rattle.vx_machine_steps.proofs.progress.Goals as goal

pub returns-clause-some : goal.returns-clause-some
returns-clause-some c = some_move

pub returns-clause-lowers : goal.returns-clause-lowers
returns-clause-lowers c = moves_lower

pub returns-clause-counts : goal.returns-clause-counts
returns-clause-counts c = runs_count
