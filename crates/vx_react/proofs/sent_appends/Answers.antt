use Rattle.vx_react.proofs.Reacting.{sent_appends}
use Rattle.vx_react.proofs.sent_appends.Goals as goal

pub returns : goal.returns
returns c = sent_appends
