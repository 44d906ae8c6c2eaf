use Rattle.vx_react.proofs.ColumnsSent.{structs_react}
use Rattle.vx_react.proofs.structs_react.Goals as goal

pub returns : goal.returns
returns c = structs_react
