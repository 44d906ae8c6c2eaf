use Rattle.vx_machine_turns.specs.Readings.{pair_reading, fault_reading, layout_reading, number_reading, index_reading, start_reading, raise_reading, lower_reading}
use Rattle.vx_machine_steps.proofs.Laws.{runs_read}
use Rattle.vx_machine_steps.proofs.readings.Goals as goal

pub returns-clause-pairs : goal.returns-clause-pairs
returns-clause-pairs c = runs_read pair_reading

pub returns-clause-faults : goal.returns-clause-faults
returns-clause-faults c = runs_read fault_reading

pub returns-clause-layouts : goal.returns-clause-layouts
returns-clause-layouts c = runs_read layout_reading

pub returns-clause-numbers : goal.returns-clause-numbers
returns-clause-numbers c = runs_read number_reading

pub returns-clause-indices : goal.returns-clause-indices
returns-clause-indices c = runs_read index_reading

pub returns-clause-starts : goal.returns-clause-starts
returns-clause-starts c = runs_read start_reading

pub returns-clause-raised : goal.returns-clause-raised
returns-clause-raised c = runs_read raise_reading

pub returns-clause-lowered : goal.returns-clause-lowered
returns-clause-lowered c = runs_read lower_reading
