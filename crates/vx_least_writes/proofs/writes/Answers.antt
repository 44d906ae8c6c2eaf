use Rattle.vx_least_writes.proofs.Least.{steps_write_least}
use Rattle.vx_least_writes.proofs.writes.Goals as goal

pub returns : goal.returns
returns c = steps_write_least
