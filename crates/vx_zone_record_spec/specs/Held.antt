-- Aggregates that a column can hold, and records with a value for each.
use Rattle.std.specs.Prelude.{◌&&◌, Bool, true, false, List, [], ◌∷◌, is_some}
use Rattle.vx_model.specs.Ty.{Ty}
use Rattle.vx_model.specs.CellData.{fits}
use Rattle.vx_model.specs.ValueData.{ValueData}
use Rattle.vx_aggregate_spec.specs.Aggregate.{Aggregate, Column, state_type}
use Rattle.vx_zone_spec.specs.ZoneTable.{state_cell}

-- the aggregate's values on a column of the type have a type
abbrev pub has_state : Ty → Aggregate → Bool
has_state t a = is_some (state_type a t)

-- one value a column, whose cell is one of the column's type
abbrev pub record_fits : List Column → List ValueData → Bool
record_fits [] [] = true
record_fits (a ∷ columns) (v ∷ vs) = fits a.1 (state_cell v) && record_fits columns vs
record_fits columns vs = false
