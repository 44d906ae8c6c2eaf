use Rattle.vx_machine_turns.proofs.PathLaws.{turns_go}
use Rattle.vx_machine_turns.proofs.Goods.{tasks_are_good}
use Rattle.vx_machine_turns.proofs.tasks_are_good.Goals as goal

pub returns-clause-turns : goal.returns-clause-turns
returns-clause-turns c = turns_go

pub returns-clause-good : goal.returns-clause-good
returns-clause-good c = tasks_are_good
