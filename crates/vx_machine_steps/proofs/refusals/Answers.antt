use Rattle.vx_machine_steps.proofs.Listed.{refusals_within}
use Rattle.vx_machine_steps.proofs.Unrefused.{none_refused}
use Rattle.vx_machine_steps.proofs.refusals.Goals as goal

pub returns-clause-within : goal.returns-clause-within
returns-clause-within c = refusals_within

pub returns-clause-none : goal.returns-clause-none
returns-clause-none c = none_refused
