-- Columns of a table in memory.
use Rattle.std.specs.Prelude.{List, map}
use Rattle.std.specs.Global.{Vec}
use Rattle.vx_model.specs.TyView.{ty}
use Rattle.vx_model.specs.TreeView.{val}
use Rattle.vx_model.specs.ValueData.{ValueData}
use Rattle.vx_model.specs.declared.row_value.Value.{Value}
use Rattle.vx_aggregate_spec.specs.Aggregate.{Column}
use Rattle.vx_aggregate.specs.AggregateView.{aggregate}
use Rattle.vx_zone_spec.specs.ZoneTable.{Filled}
use Rattle.vx_zone_table.specs.declared.held.HeldColumn.{HeldColumn}
use Rattle.vx_zone_table.specs.declared.column.TableColumn.{TableColumn}

abbrev pub held_column : HeldColumn → Column
held_column c = (aggregate c.aggregate, ty c.state)

abbrev pub zone_values : Vec Value → List ValueData
zone_values v = map val v.items

abbrev pub filled_column : TableColumn → Filled
filled_column c = record { aggregate = aggregate c.aggregate; state = ty c.state; values = map val c.values.items }
