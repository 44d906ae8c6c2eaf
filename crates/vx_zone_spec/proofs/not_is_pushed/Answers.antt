use Rattle.vx_zone_spec.proofs.PruneLaws.{not_is_pushed}
use Rattle.vx_zone_spec.proofs.not_is_pushed.Goals as goal

pub returns : goal.returns
returns c = not_is_pushed
