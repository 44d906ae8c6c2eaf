use Rattle.vx_react.proofs.RunsSent.{runs_react}
use Rattle.vx_react.proofs.runs_react.Goals as goal

pub returns : goal.returns
returns c = runs_react
