use Rattle.vx_react.proofs.ColumnsSent.{lists_are_counted}
use Rattle.vx_react.proofs.lists_are_counted.Goals as goal

pub returns : goal.returns
returns c = lists_are_counted
