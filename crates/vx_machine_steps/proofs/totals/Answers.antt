use Rattle.vx_machine_steps.proofs.Summed.{sum_raised, sum_lowered}
use Rattle.vx_machine_steps.proofs.Listed.{list_pairs, list_numbers, list_indices}
use Rattle.vx_machine_steps.proofs.Births.{births_within}
use Rattle.vx_machine_steps.proofs.totals.Goals as goal

pub returns-clause-raised : goal.returns-clause-raised
returns-clause-raised c = sum_raised

pub returns-clause-lowered : goal.returns-clause-lowered
returns-clause-lowered c = sum_lowered

pub returns-clause-pairs : goal.returns-clause-pairs
returns-clause-pairs c = list_pairs

pub returns-clause-numbers : goal.returns-clause-numbers
returns-clause-numbers c = list_numbers

pub returns-clause-indices : goal.returns-clause-indices
returns-clause-indices c = list_indices

pub returns-clause-births : goal.returns-clause-births
returns-clause-births c = births_within
