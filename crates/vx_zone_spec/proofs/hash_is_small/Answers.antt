use Rattle.vx_zone_spec.proofs.HashLaws.{hash_is_small}
use Rattle.vx_zone_spec.proofs.hash_is_small.Goals as goal

pub returns : goal.returns
returns c = hash_is_small
