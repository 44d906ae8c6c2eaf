use Rattle.vx_machine_promises.proofs.Causing.{refusals_have_cause, moves_are_counted, start_is_counted, taken_is_planned}
use Rattle.vx_machine_promises.proofs.causes.Goals as goal

pub returns-clause-refusals : goal.returns-clause-refusals
returns-clause-refusals c = refusals_have_cause

pub returns-clause-moves : goal.returns-clause-moves
returns-clause-moves c = moves_are_counted

pub returns-clause-start : goal.returns-clause-start
returns-clause-start c = start_is_counted

pub returns-clause-taken : goal.returns-clause-taken
returns-clause-taken c = taken_is_planned
