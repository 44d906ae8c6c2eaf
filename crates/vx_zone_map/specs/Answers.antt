-- What a zone map takes and refuses, and what its answers promise.
use Rattle.std.specs.Prelude.{◌≡◌, ◌≢◌, ℕ, Bool, true, false, List, length, Some, slice_get}
use Rattle.vx_path.specs.Lists.{In}
use Rattle.vx_hash.specs.XxHash3.{xxhash3_64}
use Rattle.vx_model.specs.Ty.{Ty}
use Rattle.vx_model.specs.ValueData.{ValueData}
use Rattle.vx_model.specs.ChunkData.{ChunkData, piece_type, cells}
use Rattle.vx_aggregate_spec.specs.Aggregate.{Aggregate}
use Rattle.vx_aggregate_spec.specs.Tables.{stats_table}
use Rattle.vx_zone_spec.specs.Pruning.{Predicate, says, predicate_fits}
use Rattle.vx_zone_spec.specs.ZoneMap.{ZoneMap, zones_fit, zone_rows, record_of}
use Rattle.vx_zone_spec.specs.Statements.{AllValues, IsRecord}
use Rattle.vx_zone_map.specs.declared.error.ZoneError.{ZoneError}
use Rattle.vx_zone_map.specs.declared.error.ZoneError.TheVariants.{TableType, ZoneRows, PredicateType, OutOfMemory}

-- ---- tables

-- the table of these aggregates, with all zones but the last within the rows
pub record TakesTable (t : Ty) (aggregates : List Aggregate) (table : ChunkData) (zone_len row_count : ℕ) : Type 0 where
  pub typed : piece_type table ≡ stats_table t aggregates
  pub rows : zones_fit zone_len row_count (length (cells table)) ≡ true

-- the type is looked at before the rows; want of memory may come before both
abbrev pub RefusesTable : Ty → List Aggregate → ChunkData → ℕ → ℕ → ZoneError → Type 0
RefusesTable t aggregates table zone_len row_count TableType = piece_type table ≢ stats_table t aggregates
RefusesTable t aggregates table zone_len row_count ZoneRows = (piece_type table ≡ stats_table t aggregates) × (zones_fit zone_len row_count (length (cells table)) ≡ false)
RefusesTable t aggregates table zone_len row_count PredicateType = ⊥
RefusesTable t aggregates table zone_len row_count OutOfMemory = Unit {0}

-- ---- predicates

-- memory is asked for only where the predicate fits
abbrev pub RefusesPredicate : Ty → Predicate → ZoneError → Type 0
RefusesPredicate t p TableType = ⊥
RefusesPredicate t p ZoneRows = ⊥
RefusesPredicate t p PredicateType = predicate_fits t p ≡ false
RefusesPredicate t p OutOfMemory = predicate_fits t p ≡ true

-- no row of a zone that is skipped matches, whatever rows the zone's record is true of
abbrev pub NoneMatches : ZoneMap → Predicate → List Bool → Type 0
NoneMatches m p skips = (z : ℕ) (row : ValueData) (vs : List ValueData) → slice_get m.zones z ≡ Some row → slice_get skips z ≡ Some true
    → AllValues m.column vs → length vs ≡ zone_rows m z → IsRecord xxhash3_64 m.column vs (record_of m row) → (w : ValueData) → In w vs → says p w ≢ Some true
