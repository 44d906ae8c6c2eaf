-- What rules give, as contracts see it.
use Rattle.std.specs.Prelude.{List, map, Option, option_map}
use Rattle.std.specs.Global.{Vec}
use Rattle.vx_model.specs.declared.row_value.Value.{Value}
use Rattle.vx_model.specs.ValueData.{ValueData}
use Rattle.vx_model.specs.TreeView.{val}
use Rattle.vx_react.specs.Reactor as react
use Rattle.vx_nodes.specs.declared.outputs.Output.{Output}

abbrev pub output : Output → react.Output
output o = (o.place, o.chunk)

abbrev pub outputs_in : Vec Output → List react.Output
outputs_in v = map output v.items

abbrev pub values_of : Vec Value → List ValueData
values_of v = map val v.items

abbrev pub zone_in : Option (Vec Value) → Option (List ValueData)
zone_in z = option_map values_of z
