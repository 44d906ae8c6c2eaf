use Rattle.vx_machine_steps.proofs.Sorted.{scattered_is_one, appended_first, all_sorted}
use Rattle.vx_machine_steps.proofs.appends.Goals as goal

pub returns-clause-one : goal.returns-clause-one
returns-clause-one c = scattered_is_one

pub returns-clause-first : goal.returns-clause-first
returns-clause-first c = appended_first

pub returns-clause-sorted : goal.returns-clause-sorted
returns-clause-sorted c = all_sorted
