-- Pruning over the zone tables of what was written.
use Rattle.std.proofs.Common.{◌≡◌, ℕ, zero, suc, ◌+◌, ◌*◌, ◌≤◌, true, List, [], ◌∷◌, length, take, drop, Option, Some, refl, sym, ap, ap₂, ◌∙◌, subst, arith}
use Rattle.vx_model.specs.Ty.{Ty}
use Rattle.vx_model.specs.ValueData.{ValueData, bytes_value, struct_value, vals_of}
use Rattle.vx_model.specs.ChunkData.{row_values}
use Rattle.vx_path.specs.Lists.{In}
use Rattle.vx_layout_spec.specs.LayoutTree.{Kind, flat_kind, chunked_kind, struct_kind, list_kind, dict_kind, zoned_kind, unread_zoned_kind, stats_kind, foreign_kind, refused_kind, LayoutData, LayoutList, layout, no_layouts, child, Spec}
use Rattle.vx_layout_spec.specs.Rows.{rows, and_then}
use Rattle.vx_aggregate_spec.specs.Aggregate.{Aggregate, bloom, held_aggregates}
use Rattle.vx_zone_spec.specs.ZoneTable.{Filled, table_piece}
use Rattle.vx_zone_spec.specs.Pruning.{Predicate, says, predicate_fits, falsified}
use Rattle.vx_zone_spec.specs.ZoneMap.{ZoneMap, zone_rows, names_of, paired, fields_of, record_of, skips, skips_from}
use Rattle.vx_zone_spec.specs.Statements.{SmallHash, IsRecord}
use Rattle.vx_zone_spec.proofs.PruneLaws.{pruning_is_sound}
use Rattle.vx_plan.specs.PlanData.{Setting}
use Rattle.vx_plan.specs.Number.{element}
use Rattle.vx_plan.specs.ZonesHold.{zones_of, IsZoneCount, IsZoned, OfZoned, EachZoned, AllZoned}
use Rattle.vx_plan.proofs.SourceLaws.{zones_are_true}
use Rattle.vx_zone_table_laws.proofs.TableTypes.{table_aggregates}
use Rattle.vx_prune_laws.specs.Pruned.{zone_map, zone_at}
use Rattle.vx_prune_laws.specs.Statements.{IsPrunable, PruningKeepsRows}
use Rattle.vx_prune_laws.proofs.TableRows.{AllKept, table_kept, specs_read, type_is, names_are, zone_values, table_rows, rows_are, record_is, length-table_rows, filter_holds}
use Rattle.vx_prune_laws.proofs.ZoneRows.{zone_zero, zone_suc, zone_values_of, zones_values, zones_length, rows_counted, counts_fit, skip_at, element_below, none_lost}

-- the row of the table at z is the record of zone z
row_at : (s : Setting) (t : Ty) (fs : List Filled) (zone_len n : ℕ) (vs : List ValueData) (z : ℕ) (row : ValueData) → element (table_rows s t fs (zones_of n zone_len vs)) z ≡ Some row
    → row ≡ struct_value (vals_of (zone_values s t fs (zone_at zone_len vs z)))
row_at s t fs zone_len zero vs z row e = absurd cc
row_at s t fs zone_len (suc n) vs zero row e =
    let same : struct_value (vals_of (zone_values s t fs (take zone_len vs))) ≡ row = cc in
    sym same ∙ ap (λ r. struct_value (vals_of (zone_values s t fs r))) (sym (zone_zero zone_len vs))
row_at s t fs zone_len (suc n) vs (suc z) row e =
    row_at s t fs zone_len n (drop zone_len vs) z row e ∙ ap (λ r. struct_value (vals_of (zone_values s t fs r))) (sym (zone_suc zone_len vs z))

length-skips : (hash : List ℕ → ℕ) (m : ZoneMap) (p : Predicate) (k : ℕ) (rows : List ValueData) → length (skips_from hash m p k rows) ≡ length rows
length-skips hash m p k [] = refl
length-skips hash m p k (row ∷ rows) = ap suc (length-skips hash m p (suc k) rows)

module _ {A : Type 0} (s : Setting) (small : SmallHash s.hash) (look : A → Option (List ℕ)) (zone_len : ℕ) (specs : List Spec) (t : Ty) (n : ℕ) (data_child zones : LayoutData A)
    (h : IsZoned s look zone_len specs t n data_child zones) where
  kept_all : AllKept s t (zones_of h.count zone_len h.values) h.table
  kept_all = table_kept s t h.aggregates (zones_of h.count zone_len h.values) h.table h.options h.kept

  map_of : ZoneMap
  map_of = record { column = t; aggregates = table_aggregates h.table; zone_len = zone_len; row_count = n; zones = table_rows s t h.table (zones_of h.count zone_len h.values) }

  zones_count : length (table_rows s t h.table (zones_of h.count zone_len h.values)) ≡ h.count
  zones_count = length-table_rows s t h.table (zones_of h.count zone_len h.values) ∙ zones_length h.count zone_len h.values

  zones_rows : rows s.codec look zones ≡ Some (table_rows s t h.table (zones_of h.count zone_len h.values))
  zones_rows =
      h.zones_rows
      ∙ ap (λ k. Some (row_values (table_piece h.table k))) (sym (zones_length h.count zone_len h.values))
      ∙ ap Some (rows_are s t h.table (zones_of h.count zone_len h.values) kept_all (zones_values t h.count zone_len h.values h.of_type))

  all_zones : IsZoneCount n zone_len (length (table_rows s t h.table (zones_of h.count zone_len h.values)))
  all_zones = subst (λ k. IsZoneCount n zone_len k) (sym zones_count) (subst (λ k. IsZoneCount k zone_len h.count) h.row_count h.all_zones)

  -- a record is paired with the table's aggregates
  map_names : names_of (held_aggregates (table_aggregates h.table) t) ≡ table_aggregates h.table
  map_names = names_are s t (zones_of h.count zone_len h.values) h.table kept_all

  paired_at : (z : ℕ) (row : ValueData) → element map_of.zones z ≡ Some row → IsRecord s.hash t (zone_at zone_len h.values z) (paired (table_aggregates h.table) (fields_of row))
  unfolding map_of
  paired_at z row e =
      subst (λ r. IsRecord s.hash t (zone_at zone_len h.values z) (paired (table_aggregates h.table) (fields_of r))) (sym (row_at s t h.table zone_len h.count h.values z row e))
      (record_is s t h.table (zone_at zone_len h.values z))

  record_at : (z : ℕ) (row : ValueData) → element map_of.zones z ≡ Some row → IsRecord s.hash t (zone_at zone_len h.values z) (record_of map_of row)
  unfolding map_of
  record_at z row e = subst (λ names. IsRecord s.hash t (zone_at zone_len h.values z) (paired names (fields_of row))) (sym map_names) (paired_at z row e)

  none_skipped : (p : Predicate) (z : ℕ) → predicate_fits t p ≡ true → element (skips s.hash map_of p) z ≡ Some true → (v : ValueData) → In v (zone_at zone_len h.values z) → says p v ≡ Some true → ⊥
  unfolding map_of
  none_skipped p z fits e v i =
      let r : (row : ValueData) × (element map_of.zones z ≡ Some row) × (falsified s.hash t p (record_of map_of row) (zone_rows map_of (0 + z)) ≡ true) = skip_at s.hash map_of p 0 map_of.zones z true e in
      let here : 0 + z ≡ z = omega arith in
      let count : zone_rows map_of (0 + z) ≡ length (zone_at zone_len h.values z) = ap (zone_rows map_of) here ∙ rows_counted map_of h.values (sym h.row_count) all_zones z (element_below map_of.zones z r.0 r.1) in
      pruning_is_sound s.hash t p (zone_at zone_len h.values z) (record_of map_of r.0) small (zone_values_of t zone_len h.values z h.of_type) fits (record_at z r.0 r.1)
      (subst (λ k. falsified s.hash t p (record_of map_of r.0) k ≡ true) count r.2) v i

  pub prunable : IsPrunable s look zone_len specs t n data_child zones
  unfolding map_of
  prunable = record {
    map = map_of;
    values = h.values;
    zones_read =
        ap (λ specs. zone_map s.codec look zone_len specs t n zones) h.specs_are
        ∙ ap₂ (λ (a : Option (List Aggregate)) (r : Option (List ValueData)). and_then (λ aggregates. and_then (λ table. Some (record { column = t; aggregates = aggregates; zone_len = zone_len; row_count = n; zones = table })) r) a)
        (specs_read s t (zones_of h.count zone_len h.values) h.table kept_all) zones_rows;
    data_read = h.data_rows;
    row_count = h.row_count;
    of_type = h.of_type;
    zones_type = h.zones_type ∙ type_is s t (zones_of h.count zone_len h.values) h.table kept_all;
    all_zones = all_zones;
    zones_fit = counts_fit zone_len n (length map_of.zones) all_zones;
    zone_rows = λ z l. rows_counted map_of h.values (sym h.row_count) all_zones z l;
    records = record_at;
    filters = λ z row blocks stored e i v j m. filter_holds s small t (zones_of h.count zone_len h.values) h.table kept_all (zone_at zone_len h.values z) (zone_values_of t zone_len h.values z h.of_type) (fields_of row)
        (paired_at z row e) blocks stored (subst (λ names. In (bloom blocks, bytes_value stored) (paired names (fields_of row))) map_names i) v j m;
    skipped = none_skipped;
    kept = λ p fits.
        let c : IsZoneCount n zone_len (length map_of.zones) = all_zones in
        let l : n ≤ length map_of.zones * zone_len = c.0 in
        let k : length h.values ≡ n = h.row_count in
        let m : length (skips s.hash map_of p) ≡ length map_of.zones = length-skips s.hash map_of p 0 map_of.zones in
        none_lost p zone_len (skips s.hash map_of p) h.values (subst (λ j. length h.values ≤ j * zone_len) (sym m) (omega arith)) (λ z e v i. none_skipped p z fits e v i);
  }

-- ---- each zoned node

of_prunable : {A : Type 0} (s : Setting) → SmallHash s.hash → (look : A → Option (List ℕ)) (k : Kind) (t : Ty) (n : ℕ) (ls : LayoutList A) → OfZoned (IsZoned s look) k t n ls → OfZoned (IsPrunable s look) k t n ls
of_prunable s small look (zoned_kind zone_len specs) t n (child data_child (child zones no_layouts)) h = prunable s small look zone_len specs t n data_child zones h
of_prunable s small look (zoned_kind zone_len specs) t n no_layouts h = tt
of_prunable s small look (zoned_kind zone_len specs) t n (child l no_layouts) h = tt
of_prunable s small look (zoned_kind zone_len specs) t n (child l (child m (child o ls))) h = tt
of_prunable s small look (flat_kind encodings tree) t n ls h = tt
of_prunable s small look chunked_kind t n ls h = tt
of_prunable s small look struct_kind t n ls h = tt
of_prunable s small look list_kind t n ls h = tt
of_prunable s small look (dict_kind all) t n ls h = tt
of_prunable s small look (unread_zoned_kind metadata) t n ls h = tt
of_prunable s small look (stats_kind zone_len stats) t n ls h = tt
of_prunable s small look (foreign_kind id metadata) t n ls h = tt
of_prunable s small look (refused_kind is_flat refusal) t n ls h = tt

mutual
  each_prunable : {A : Type 0} (s : Setting) → SmallHash s.hash → (look : A → Option (List ℕ)) (l : LayoutData A) → EachZoned (IsZoned s look) l → EachZoned (IsPrunable s look) l
  each_prunable s small look (layout k t n names ls) h = (of_prunable s small look k t n ls h.0, all_prunable s small look ls h.1)

  all_prunable : {A : Type 0} (s : Setting) → SmallHash s.hash → (look : A → Option (List ℕ)) (ls : LayoutList A) → AllZoned (IsZoned s look) ls → AllZoned (IsPrunable s look) ls
  all_prunable s small look no_layouts h = tt
  all_prunable s small look (child l ls) h = (each_prunable s small look l h.0, all_prunable s small look ls h.1)

pub pruning_keeps_rows : PruningKeepsRows
pruning_keeps_rows s w t m batches first keeps small admitted of clean fit = each_prunable s small _ _ (zones_are_true s w t m batches first keeps admitted of clean fit)
