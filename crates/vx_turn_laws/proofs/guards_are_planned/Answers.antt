use Rattle.vx_turn_laws.proofs.Guards.{guards_are_planned}
use Rattle.vx_turn_laws.proofs.guards_are_planned.Goals as goal

pub returns : goal.returns
returns c = guards_are_planned
