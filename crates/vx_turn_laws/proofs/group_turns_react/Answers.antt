use Rattle.vx_turn_laws.proofs.Turns.{group_turns_react}
use Rattle.vx_turn_laws.proofs.group_turns_react.Goals as goal

pub returns : goal.returns
returns c = group_turns_react
