use Rattle.vx_tasks.proofs.Chunks.{chunked_good, barred_good}
use Rattle.vx_tasks.proofs.nodes.chunked.Goals as goal

pub returns-clause-chunks : goal.returns-clause-chunks
returns-clause-chunks c = λ name e ps ended kids k. chunked_good name e ps ended kids k

pub returns-clause-barred : goal.returns-clause-barred
returns-clause-barred c = λ name e p ps ended. barred_good name e p ps ended
