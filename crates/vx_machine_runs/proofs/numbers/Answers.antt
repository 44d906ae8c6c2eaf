use Rattle.vx_machine_runs.proofs.Freed.{number_is_free}
use Rattle.vx_machine_runs.proofs.numbers.Goals as goal

pub returns : goal.returns
returns c = number_is_free
