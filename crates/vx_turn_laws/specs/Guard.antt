-- The guard of zones: it records each chunk that it is handed, and refuses those that make no zones.
use Rattle.std.specs.Prelude.{ℕ, Bool, true, false, List, [], ◌∷◌, ◌++◌, Option, Some, None}
use Rattle.vx_model.specs.Ty.{Ty}
use Rattle.vx_model.specs.ValueData.{ValueData}
use Rattle.vx_model.specs.ChunkData.{ChunkData, row_values}
use Rattle.vx_aggregate_spec.specs.Aggregate.{Aggregate, Column, held_aggregates}
use Rattle.vx_zone_spec.specs.Record.{zone_record}
use Rattle.vx_plan.specs.PlanData.{Item, What, rows_in}
use Rattle.vx_machine_turns.specs.Acts.{or_else}
use Rattle.vx_machine_turns.specs.Zoned.{zone_fault}

-- what it records of chunks of a type, and the rows of the last chunk, a zone's where none came
pub record Guard : Type 0 where
  pub typed : Ty
  pub zone_len : ℕ
  pub columns : List Column
  pub last : ℕ

-- before the first chunk: of the aggregates it records those that the type can hold
abbrev pub guard : ℕ → List Aggregate → Ty → Guard
guard zone_len aggregates t = record { typed = t; zone_len = zone_len; columns = held_aggregates aggregates t; last = zone_len }

-- what it refuses at a chunk
abbrev pub refused_at : Guard → ChunkData → Option What
refused_at g p = zone_fault g.zone_len g.columns g.last (rows_in p)

-- whether there is something to record
abbrev pub is_some_column : List Column → Bool
is_some_column [] = false
is_some_column (a ∷ columns) = true

abbrev pub records : Guard → Bool
records g = is_some_column g.columns

-- the record of a chunk, filters being those of the hash
abbrev pub record_at : (List ℕ → ℕ) → Guard → ChunkData → List ValueData
record_at hash g p = zone_record hash g.typed (row_values p) g.columns

abbrev pub where_some : List Column → List ValueData → Option (List ValueData)
where_some [] r = None
where_some (a ∷ columns) r = Some r

-- the zone that it tells of
abbrev pub zone_at : (List ℕ → ℕ) → Guard → ChunkData → Option (List ValueData)
zone_at hash g p = where_some g.columns (record_at hash g p)

abbrev pub behind : Guard → ChunkData → Guard
behind g p = record { typed = g.typed; zone_len = g.zone_len; columns = g.columns; last = rows_in p }

-- ---- over a stream

abbrev pub first_refused : Guard → List Item → Option What
first_refused g [] = None
first_refused g (i ∷ is) = or_else (refused_at g i.1) (first_refused (behind g i.1) is)

abbrev pub told_zone : Option (List ValueData) → List (List ValueData)
told_zone None = []
told_zone (Some r) = r ∷ []

abbrev pub told_zones : (List ℕ → ℕ) → Guard → List Item → List (List ValueData)
told_zones hash g [] = []
told_zones hash g (i ∷ is) = told_zone (zone_at hash g i.1) ++ told_zones hash (behind g i.1) is
