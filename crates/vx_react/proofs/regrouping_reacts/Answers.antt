use Rattle.vx_react.proofs.Reacting.{regrouping_reacts}
use Rattle.vx_react.proofs.regrouping_reacts.Goals as goal

pub returns : goal.returns
returns c = regrouping_reacts
