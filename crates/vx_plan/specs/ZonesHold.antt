-- What each zoned node of a layout promises.
use Rattle.std.specs.Prelude.{ℕ, zero, suc, ◌+◌, ◌*◌, ◌<◌, ◌≤◌, length, ◌≡◌, true, List, [], ◌∷◌, take, drop, Option, Some}
use Rattle.vx_model.specs.Words.{all_by}
use Rattle.vx_model.specs.Ty.{Ty}
use Rattle.vx_model.specs.ValueData.{ValueData}
use Rattle.vx_model.specs.ChunkData.{row_values}
use Rattle.vx_layout_spec.specs.LayoutTree.{Kind, zoned_kind, LayoutData, LayoutList, layout, no_layouts, child, layout_type, Spec}
use Rattle.vx_layout_spec.specs.Rows.{rows}
use Rattle.vx_aggregate_spec.specs.Aggregate.{Aggregate, Column, held_aggregates, has_options}
use Rattle.vx_zone_spec.specs.Record.{zone_record}
use Rattle.vx_zone_spec.specs.ZoneTable.{Filled, kept_columns, table_specs, table_type, table_piece}
use Rattle.vx_zone_spec.specs.Statements.{AllValues}
use Rattle.vx_plan.specs.PlanData.{Setting}

-- consecutive stretches of so many rows, the last of what is left
abbrev pub zones_of : ℕ → ℕ → List ValueData → List (List ValueData)
zones_of zero zone_len vs = []
zones_of (suc n) zone_len vs = take zone_len vs ∷ zones_of n zone_len (drop zone_len vs)

-- so many zones are all zones of the rows: each but the last has zone_len rows, and the last at least one
abbrev pub IsZoneCount : ℕ → ℕ → ℕ → Type 0
IsZoneCount rows zone_len count = (rows ≤ count * zone_len) × (count * zone_len < rows + zone_len)

abbrev pub records_of : Setting → Ty → List Column → List (List ValueData) → List (List ValueData)
records_of s t columns [] = []
records_of s t columns (vs ∷ zones) = zone_record s.hash t vs columns ∷ records_of s t columns zones

-- A zoned node of n rows: record z is of the rows, as the data child gives them, from z * zone_len to the next zone or the
-- end; the kept columns of these records are the table, and the zones child gives its rows.
pub record IsZoned {A : Type 0} (s : Setting) (look : A → Option (List ℕ)) (zone_len : ℕ) (specs : List Spec) (t : Ty) (n : ℕ) (data_child zones : LayoutData A) : Type 0 where
  -- those that were asked for; the type can hold some of them
  pub aggregates : List Aggregate
  pub options : all_by has_options aggregates ≡ true
  pub values : List ValueData
  pub count : ℕ
  pub table : List Filled
  pub data_rows : rows s.codec look data_child ≡ Some values
  pub row_count : length values ≡ n
  pub of_type : AllValues t values
  pub all_zones : IsZoneCount (length values) zone_len count
  pub kept : kept_columns (held_aggregates aggregates t) (records_of s t (held_aggregates aggregates t) (zones_of count zone_len values)) ≡ Some table
  pub specs_are : specs ≡ table_specs table
  pub zones_type : layout_type zones ≡ table_type table
  pub zones_rows : rows s.codec look zones ≡ Some (row_values (table_piece table count))

-- ---- each zoned node of a layout, those of zone tables too

-- what is said of a zoned node: of its zone length, specs, type, rows, data and zones
abbrev pub OfZoned : {A : Type 0} → (ℕ → List Spec → Ty → ℕ → LayoutData A → LayoutData A → Type 0) → Kind → Ty → ℕ → LayoutList A → Type 0
OfZoned P (zoned_kind zone_len specs) t n (child data_child (child zones no_layouts)) = P zone_len specs t n data_child zones
OfZoned P k t n ls = Unit {0}

abbrev mutual
  pub EachZoned : {A : Type 0} → (ℕ → List Spec → Ty → ℕ → LayoutData A → LayoutData A → Type 0) → LayoutData A → Type 0
  EachZoned P (layout k t n names ls) = OfZoned P k t n ls × AllZoned P ls

  pub AllZoned : {A : Type 0} → (ℕ → List Spec → Ty → ℕ → LayoutData A → LayoutData A → Type 0) → LayoutList A → Type 0
  AllZoned P no_layouts = Unit {0}
  AllZoned P (child l ls) = EachZoned P l × AllZoned P ls

abbrev pub ZonesHold : {A : Type 0} → Setting → (A → Option (List ℕ)) → LayoutData A → Type 0
ZonesHold s look l = EachZoned (IsZoned s look) l
