use Rattle.vx_machine_turns.proofs.WholeLaws.{source_is_silent, source_is_tidy, machine_is_planned, machine_is_good, root_is_source}
use Rattle.vx_machine_turns.proofs.machines_are_planned.Goals as goal

pub returns-clause-silent : goal.returns-clause-silent
returns-clause-silent c = source_is_silent

pub returns-clause-tidy : goal.returns-clause-tidy
returns-clause-tidy c = source_is_tidy

pub returns-clause-planned : goal.returns-clause-planned
returns-clause-planned c = machine_is_planned

pub returns-clause-good : goal.returns-clause-good
returns-clause-good c = machine_is_good

pub returns-clause-root : goal.returns-clause-root
returns-clause-root c = root_is_source
