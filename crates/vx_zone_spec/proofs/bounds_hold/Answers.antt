use Rattle.vx_zone_spec.proofs.BoundLaws.{bounds_hold}
use Rattle.vx_zone_spec.proofs.bounds_hold.Goals as goal

pub returns : goal.returns
returns c = bounds_hold
