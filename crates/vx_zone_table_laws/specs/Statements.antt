-- Zone tables are whole chunks.
use Rattle.std.specs.Prelude.{◌≡◌, ℕ, ◌^◌, ◌<◌, true, List, [], ◌∷◌, length, map, Some}
use Rattle.vx_model.specs.Words.{all_by}
use Rattle.vx_model.specs.Ty.{Ty}
use Rattle.vx_model.specs.CellData.{CellData, fits}
use Rattle.vx_model.specs.ValueData.{ValueData, value}
use Rattle.vx_layout_spec.specs.Real.{Of, is_real_cell}
use Rattle.vx_aggregate_spec.specs.Aggregate.{Aggregate, bloom, Column, held_aggregates}
use Rattle.vx_zone_spec.specs.Record.{zone_record}
use Rattle.vx_zone_spec.specs.ZoneTable.{Filled, kept_columns, table_type, table_piece}

-- the cells of a zone: they fit the type, can be in memory, and are fewer than 2^64
pub record Zone (t : Ty) (cs : List CellData) : Type 0 where
  pub fit : all_by (fits t) cs ≡ true
  pub real : all_by is_real_cell cs ≡ true
  pub short : length cs < 2 ^ 64

abbrev pub Zones : Ty → List (List CellData) → Type 0
Zones t [] = Unit {0}
Zones t (z ∷ zs) = Zone t z × Zones t zs

-- a filter's number of blocks has 32 bits
abbrev pub SmallFilter : Aggregate → Type 0
SmallFilter (bloom n) = n < 2 ^ 32
SmallFilter a = Unit {0}

abbrev pub SmallFilters : List Aggregate → Type 0
SmallFilters [] = Unit {0}
SmallFilters (a ∷ aggregates) = SmallFilter a × SmallFilters aggregates

abbrev pub records : (List ℕ → ℕ) → Ty → List Column → List (List CellData) → List (List ValueData)
records hash t columns [] = []
records hash t columns (z ∷ zs) = zone_record hash t (map value z) columns ∷ records hash t columns zs

-- The table of the records of zones is a whole chunk of the table's type.
abbrev pub TablesAreWhole : Type 0
TablesAreWhole = (hash : List ℕ → ℕ) (t : Ty) (aggregates : List Aggregate) (zs : List (List CellData)) (table : List Filled) → SmallFilters aggregates → Zones t zs → length zs < 2 ^ 64
    → kept_columns (held_aggregates aggregates t) (records hash t (held_aggregates aggregates t) zs) ≡ Some table → Of (table_type table) (table_piece table (length zs))
