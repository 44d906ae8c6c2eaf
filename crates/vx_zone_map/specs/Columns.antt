-- The columns of a zone table, and the record of a zone.
use Rattle.std.specs.Prelude.{ℕ, zero, suc, List, [], ◌∷◌, map}
use Rattle.vx_model.specs.CellData.{CellData}
use Rattle.vx_model.specs.TreeView.{tree}
use Rattle.vx_model.specs.ValueData.{ValueData, null_value, value}
use Rattle.vx_aggregate_spec.specs.Aggregate.{Aggregate}
use Rattle.vx_aggregate.specs.AggregateView.{aggregate}
use Rattle.vx_zone_spec.specs.Pruning.{ZoneRecord}
use Rattle.vx_zone_map.specs.declared.columns.ZoneColumn.{ZoneColumn}

abbrev pub name_in : ZoneColumn → Aggregate
name_in c = aggregate c.aggregate

-- a cell a zone, and what a reader sees of it
abbrev pub column_cells : ZoneColumn → List CellData
column_cells c = map tree c.cells.items

abbrev pub seen_values : ZoneColumn → List ValueData
seen_values c = map value (column_cells c)

-- the value at the place, null past the end
abbrev pub value_at : ℕ → List ValueData → ValueData
value_at n [] = null_value
value_at zero (v ∷ vs) = v
value_at (suc n) (v ∷ vs) = value_at n vs

-- the record of the zone at the place
abbrev pub entries : ℕ → List ZoneColumn → ZoneRecord
entries z [] = []
entries z (c ∷ cs) = (name_in c, value_at z (seen_values c)) ∷ entries z cs
