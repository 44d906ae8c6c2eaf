-- Pruning over the zone tables of what was written.
use Rattle.std.specs.Prelude.{◌≡◌, ◌≢◌, ℕ, ◌<◌, Bool, true, List, [], length, Option, Some}
use Rattle.vx_model.specs.Ty.{Ty}
use Rattle.vx_model.specs.ValueData.{ValueData, null_value, bytes_value}
use Rattle.vx_model.specs.ChunkData.{ChunkData}
use Rattle.vx_path.specs.Lists.{In}
use Rattle.vx_layout_spec.specs.LayoutTree.{LayoutData, Spec, layout_type}
use Rattle.vx_layout_spec.specs.Rows.{rows}
use Rattle.vx_bloom_spec.specs.Bytes.{filter_at}
use Rattle.vx_bloom_spec.specs.Values.{value_hash, may_contain_hash}
use Rattle.vx_aggregate_spec.specs.Aggregate.{bloom}
use Rattle.vx_aggregate_spec.specs.Tables.{stats_table}
use Rattle.vx_zone_spec.specs.Pruning.{Predicate, says, predicate_fits}
use Rattle.vx_zone_spec.specs.ZoneMap.{ZoneMap, zones_fit, zone_rows, record_of, skips}
use Rattle.vx_zone_spec.specs.Statements.{AllValues, SmallHash, IsRecord}
use Rattle.vx_plan.specs.PlanData.{Setting}
use Rattle.vx_strategy_spec.specs.StrategyData.{StrategyData}
use Rattle.vx_strategy_spec.specs.Admitted.{is_admitted}
use Rattle.vx_plan.specs.Valid.{Fit, AllOf, Keeps}
use Rattle.vx_plan.specs.SourcePlan.{source_plan}
use Rattle.vx_plan.specs.Number.{segments, numbered, segment_at, element}
use Rattle.vx_plan.specs.ZonesHold.{IsZoneCount, EachZoned}
use Rattle.vx_prune_laws.specs.Pruned.{zone_map, zone_at, unskipped, matching}

-- What a reader finds at a zoned node of n rows, by its specs and its children's rows.
pub record IsPrunable {A : Type 0} (s : Setting) (look : A → Option (List ℕ)) (zone_len : ℕ) (specs : List Spec) (t : Ty) (n : ℕ) (data_child zones : LayoutData A) : Type 0 where
  pub map : ZoneMap
  pub values : List ValueData
  -- both children are read
  pub zones_read : zone_map s.codec look zone_len specs t n zones ≡ Some map
  pub data_read : rows s.codec look data_child ≡ Some values
  pub row_count : length values ≡ n
  pub of_type : AllValues t values
  -- the table has the type of these aggregates, and a row for each of the zones, which are all zones of the rows
  pub zones_type : layout_type zones ≡ stats_table t map.aggregates
  pub all_zones : IsZoneCount n zone_len (length map.zones)
  pub zones_fit : zones_fit zone_len n (length map.zones) ≡ true
  pub zone_rows : (z : ℕ) → z < length map.zones → zone_rows map z ≡ length (zone_at zone_len values z)
  -- each row is the record of its zone
  pub records : (z : ℕ) (row : ValueData) → element map.zones z ≡ Some row → IsRecord s.hash t (zone_at zone_len values z) (record_of map row)
  -- a stored filter contains each value of its zone that isn't null
  pub filters : (z : ℕ) (row : ValueData) (blocks : ℕ) (stored : List ℕ) → element map.zones z ≡ Some row → In (bloom blocks, bytes_value stored) (record_of map row)
      → (v : ValueData) → In v (zone_at zone_len values z) → v ≢ null_value → may_contain_hash (filter_at stored) (value_hash s.hash t v) ≡ true
  -- no row of a zone that is skipped matches, and no row that matches is lost
  pub skipped : (p : Predicate) (z : ℕ) → predicate_fits t p ≡ true → element (skips s.hash map p) z ≡ Some true → (v : ValueData) → In v (zone_at zone_len values z) → says p v ≢ Some true
  pub kept : (p : Predicate) → predicate_fits t p ≡ true → matching p (unskipped zone_len (skips s.hash map p) values) ≡ matching p values

-- Pruning over the zone table of each zoned node of the numbered layout, those of zone tables too, loses no row.
abbrev pub PruningKeepsRows : Type 0
PruningKeepsRows = (s : Setting) (w : StrategyData) (t : Ty) (m : Bool) (batches : List ChunkData) (first : ℕ) → Keeps s → SmallHash s.hash → is_admitted w ≡ true → AllOf t batches
    → (source_plan s w t m batches true).faults ≡ [] → Fit (source_plan s w t m batches true).numbers
    → EachZoned (IsPrunable s (segment_at first (segments (source_plan s w t m batches true)))) (numbered (source_plan s w t m batches true) first)
