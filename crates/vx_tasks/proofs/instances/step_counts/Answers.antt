use Rattle.vx_tasks.proofs.Counting.{chunked_steps, struct_steps}
use Rattle.vx_tasks.proofs.instances.step_counts.Goals as goal

pub returns-clause-chunks : goal.returns-clause-chunks
returns-clause-chunks c = λ here e n picks. chunked_steps here e n picks

pub returns-clause-columns : goal.returns-clause-columns
returns-clause-columns c = λ here e n w picks some. struct_steps here e n w picks
