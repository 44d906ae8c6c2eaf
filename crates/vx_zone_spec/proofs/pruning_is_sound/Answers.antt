use Rattle.vx_zone_spec.proofs.PruneLaws.{pruning_is_sound}
use Rattle.vx_zone_spec.proofs.pruning_is_sound.Goals as goal

pub returns : goal.returns
returns c = pruning_is_sound
