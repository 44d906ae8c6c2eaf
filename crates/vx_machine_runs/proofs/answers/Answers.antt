use Rattle.vx_machine_runs.proofs.Asking.{answers_are_noted, asked_before_end, taken_are_typed, taken_are_whole}
use Rattle.vx_machine_runs.proofs.answers.Goals as goal

pub returns-clause-asked : goal.returns-clause-asked
returns-clause-asked c = asked_before_end

pub returns-clause-noted : goal.returns-clause-noted
returns-clause-noted c = answers_are_noted

pub returns-clause-typed : goal.returns-clause-typed
returns-clause-typed c = taken_are_typed

pub returns-clause-whole : goal.returns-clause-whole
returns-clause-whole c = taken_are_whole
