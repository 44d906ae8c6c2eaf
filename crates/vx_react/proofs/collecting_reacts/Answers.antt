use Rattle.vx_react.proofs.Reacting.{collecting_reacts}
use Rattle.vx_react.proofs.collecting_reacts.Goals as goal

pub returns : goal.returns
returns c = collecting_reacts
