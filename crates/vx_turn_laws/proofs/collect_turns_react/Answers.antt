use Rattle.vx_turn_laws.proofs.Turns.{collect_turns_react}
use Rattle.vx_turn_laws.proofs.collect_turns_react.Goals as goal

pub returns : goal.returns
returns c = collect_turns_react
