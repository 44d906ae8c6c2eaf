use Rattle.vx_react.proofs.RunsSent.{cuts_are_counted}
use Rattle.vx_react.proofs.cuts_are_counted.Goals as goal

pub returns : goal.returns
returns c = cuts_are_counted
