use Rattle.vx_machine_steps.proofs.Laws.{joins_are_free, end_is_free, over_is_done}
use Rattle.vx_machine_steps.proofs.ends.Goals as goal

pub returns-clause-joins : goal.returns-clause-joins
returns-clause-joins c = joins_are_free

pub returns-clause-free : goal.returns-clause-free
returns-clause-free c = end_is_free

pub returns-clause-done : goal.returns-clause-done
returns-clause-done c = over_is_done
