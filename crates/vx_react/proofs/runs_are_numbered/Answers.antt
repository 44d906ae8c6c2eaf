use Rattle.vx_react.proofs.RunsSent.{runs_are_numbered}
use Rattle.vx_react.proofs.runs_are_numbered.Goals as goal

pub returns : goal.returns
returns c = runs_are_numbered
