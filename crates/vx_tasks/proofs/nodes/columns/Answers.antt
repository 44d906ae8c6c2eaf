use Rattle.vx_tasks.proofs.Leaves.{rows_good}
use Rattle.vx_tasks.proofs.Columns.{columns_good}
use Rattle.vx_tasks.proofs.nodes.columns.Goals as goal

pub returns-clause-columns : goal.returns-clause-columns
returns-clause-columns c = λ name e list w ps ended kids k. columns_good name e list w ps ended kids k

pub returns-clause-rows : goal.returns-clause-rows
returns-clause-rows c = λ name e ps ended. rows_good name e ps ended
