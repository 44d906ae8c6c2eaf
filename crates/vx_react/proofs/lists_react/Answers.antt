use Rattle.vx_react.proofs.ColumnsSent.{lists_react}
use Rattle.vx_react.proofs.lists_react.Goals as goal

pub returns : goal.returns
returns c = lists_react
