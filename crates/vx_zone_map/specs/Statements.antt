-- The tables that a builder finishes, as zone maps.
use Rattle.std.specs.Prelude.{◌≡◌, ◌≢◌, ℕ, List, [], ◌∷◌, length, Some, slice_get}
use Rattle.vx_path.specs.Lists.{In}
use Rattle.vx_model.specs.Ty.{Ty}
use Rattle.vx_model.specs.ValueData.{ValueData, null_value, value}
use Rattle.vx_model.specs.ChunkData.{ChunkData, piece_type, cells, row_values}
use Rattle.vx_aggregate_spec.specs.Aggregate.{Aggregate, held_aggregates}
use Rattle.vx_aggregate_spec.specs.Tables.{stats_table}
use Rattle.vx_zone_spec.specs.Pruning.{Predicate, ZoneRecord, falsified}
use Rattle.vx_zone_spec.specs.ZoneTable.{state_cell}
use Rattle.vx_zone_spec.specs.ZoneMap.{ZoneMap, names_of, paired, record_of}
use Rattle.vx_zone_spec.specs.Statements.{IsRecord}
use Rattle.vx_zone_table.specs.Gathered.{Gathered, finished}

-- what a table keeps of a value: no list and no struct
abbrev pub kept_value : ValueData → ValueData
kept_value v = value (state_cell v)

abbrev pub kept_entries : ZoneRecord → ZoneRecord
kept_entries [] = []
kept_entries (e ∷ r) = (e.0, kept_value e.1) ∷ kept_entries r

-- the record that was pushed, as a table keeps it
abbrev pub pushed_record : Gathered → List ValueData → ZoneRecord
pushed_record g r = kept_entries (paired (names_of g.columns) r)

-- Of a record and one without some of its entries that are null: both tell the same.
pub record TellsAs (pushed told : ZoneRecord) : Type 0 where
  pub only : (e : Aggregate × ValueData) → In e told → In e pushed
  pub all : (e : Aggregate × ValueData) → In e pushed → e.1 ≢ null_value → In e told
  pub holds : (hash : List ℕ → ℕ) (t : Ty) (vs : List ValueData) → IsRecord hash t vs pushed → IsRecord hash t vs told
  pub same : (hash : List ℕ → ℕ) (t : Ty) (p : Predicate) (n : ℕ) → falsified hash t p told n ≡ falsified hash t p pushed n

pub record IsTaken (t : Ty) (g : Gathered) (table : ChunkData) (aggregates : List Aggregate) : Type 0 where
  pub typed : piece_type table ≡ stats_table t aggregates
  pub rows : length (cells table) ≡ length g.records
  pub records : (m : ZoneMap) → m.column ≡ t → m.aggregates ≡ aggregates → m.zones ≡ row_values table
      → (z : ℕ) (r : List ValueData) (row : ValueData) → slice_get g.records z ≡ Some r → slice_get m.zones z ≡ Some row → TellsAs (pushed_record g r) (record_of m row)

abbrev pub FinishedTablesAreTaken : Type 0
FinishedTablesAreTaken = (t : Ty) (listed : List Aggregate) (g : Gathered) (table : ChunkData) (aggregates : List Aggregate) → g.columns ≡ held_aggregates listed t
    → finished g ≡ Some (table, aggregates) → IsTaken t g table aggregates
