use Rattle.vx_machine_turns.proofs.TidyLaws.{scripts_are_tidy, firsts_are_started}
use Rattle.vx_machine_turns.proofs.scripts_are_tidy.Goals as goal

pub returns-clause-tidy : goal.returns-clause-tidy
returns-clause-tidy c = scripts_are_tidy

pub returns-clause-firsts : goal.returns-clause-firsts
returns-clause-firsts c = firsts_are_started
