use Rattle.vx_column_plan.proofs.SharedLaws.{history_is_of_plan}
use Rattle.vx_column_plan.proofs.histories_are_of_plans.Goals as goal

pub returns : goal.returns
returns c = history_is_of_plan
