use Rattle.vx_own_plans.proofs.OwnLaws.{columns_write_their_own}
use Rattle.vx_own_plans.proofs.columns_write_their_own.Goals as goal

pub returns : goal.returns
returns c = columns_write_their_own
