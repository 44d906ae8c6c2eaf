use Rattle.vx_machine_view.proofs.Reserving.{steps_reserve, start_reserves_at, whole_reserves_at, finish_reserves}
use Rattle.vx_machine_view.proofs.reserves.Goals as goal

pub returns-clause-start : goal.returns-clause-start
returns-clause-start c = start_reserves_at

pub returns-clause-steps : goal.returns-clause-steps
returns-clause-steps c = steps_reserve

pub returns-clause-whole : goal.returns-clause-whole
returns-clause-whole c = whole_reserves_at

pub returns-clause-finish : goal.returns-clause-finish
returns-clause-finish c = finish_reserves
