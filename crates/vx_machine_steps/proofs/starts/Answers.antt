use Rattle.vx_machine_turns.specs.Readings.{pair_reading, fault_reading, layout_reading, number_reading, index_reading, start_reading, raise_reading, lower_reading}
use Rattle.vx_machine_steps.proofs.Neats.{tidy_is_neat}
use Rattle.vx_machine_steps.proofs.Births.{start_opens}
use Rattle.vx_machine_steps.proofs.Start.{start_at_reads}
use Rattle.vx_machine_steps.proofs.Fresh.{start_is_neat}
use Rattle.vx_machine_steps.proofs.Standing.{start_stands}
use Rattle.vx_machine_steps.proofs.starts.Goals as goal

pub returns-clause-pairs : goal.returns-clause-pairs
returns-clause-pairs c = start_at_reads pair_reading

pub returns-clause-faults : goal.returns-clause-faults
returns-clause-faults c = start_at_reads fault_reading

pub returns-clause-layouts : goal.returns-clause-layouts
returns-clause-layouts c = start_at_reads layout_reading

pub returns-clause-numbers : goal.returns-clause-numbers
returns-clause-numbers c = start_at_reads number_reading

pub returns-clause-indices : goal.returns-clause-indices
returns-clause-indices c = start_at_reads index_reading

pub returns-clause-starts : goal.returns-clause-starts
returns-clause-starts c = start_at_reads start_reading

pub returns-clause-opened : goal.returns-clause-opened
returns-clause-opened c = start_opens

pub returns-clause-raised : goal.returns-clause-raised
returns-clause-raised c = start_at_reads raise_reading

pub returns-clause-lowered : goal.returns-clause-lowered
returns-clause-lowered c = start_at_reads lower_reading

pub returns-clause-tidy : goal.returns-clause-tidy
returns-clause-tidy c = tidy_is_neat

pub returns-clause-neat : goal.returns-clause-neat
returns-clause-neat c = start_is_neat

pub returns-clause-stands : goal.returns-clause-stands
returns-clause-stands c = start_stands
