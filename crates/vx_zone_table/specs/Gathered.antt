-- What a builder of zone tables has gathered, and the table that it gives.
use Rattle.std.specs.Prelude.{Bool, List, [], ◌∷◌, ◌++◌, length, Option}
use Rattle.std.specs.Option.{option_map}
use Rattle.vx_model.specs.Words.{all_by}
use Rattle.vx_model.specs.ValueData.{ValueData}
use Rattle.vx_model.specs.ChunkData.{ChunkData}
use Rattle.vx_aggregate_spec.specs.Aggregate.{Aggregate, Column}
use Rattle.vx_zone_spec.specs.ZoneTable.{Filled, kept_columns, table_piece}
use Rattle.vx_zone_record_spec.specs.Held.{record_fits}

-- the aggregates that the column can hold, and a record a zone
pub record Gathered : Type 0 where
  pub columns : List Column
  pub records : List (List ValueData)

abbrev pub with_record : Gathered → List ValueData → Gathered
with_record g r = record { columns = g.columns; records = g.records ++ r ∷ [] }

abbrev pub records_fit : Gathered → Bool
records_fit g = all_by (record_fits g.columns) g.records

-- ---- the table

abbrev pub aggregates_in : List Filled → List Aggregate
aggregates_in [] = []
aggregates_in (c ∷ cs) = c.aggregate ∷ aggregates_in cs

-- the chunk and the aggregates of its columns; nothing where no zone or no column is left
abbrev pub finished : Gathered → Option (ChunkData × List Aggregate)
finished g = option_map (λ cs. (table_piece cs (length g.records), aggregates_in cs)) (kept_columns g.columns g.records)
