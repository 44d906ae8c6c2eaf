use Rattle.vx_turn_laws.proofs.Guards.{zoned_turns_guard}
use Rattle.vx_turn_laws.proofs.zoned_turns_guard.Goals as goal

pub returns : goal.returns
returns c = zoned_turns_guard
