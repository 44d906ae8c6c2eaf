use Rattle.vx_column_plan.proofs.SharedLaws.{columns_are_allowed}
use Rattle.vx_column_plan.proofs.columns_are_allowed.Goals as goal

pub returns : goal.returns
returns c = columns_are_allowed
