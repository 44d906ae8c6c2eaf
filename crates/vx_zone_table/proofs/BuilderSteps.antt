-- The table that is finished.
use Rattle.std.proofs.Common.{◌≡◌, ℕ, ◌<◌, Bool, List, [], ◌∷◌, ◌++◌, length, map, refl, sym, ap, ap₂, ◌∙◌, arith, Some, None, true, false}
use Rattle.std.specs.Prelude.{◌==◌}
use Rattle.std.specs.Option.{option_map}
use Rattle.std.proofs.lemmas.Bool.{and_parts, and_from}
use Rattle.std.proofs.lemmas.Bool.Decides.{nat_tests}
use Rattle.std.proofs.lemmas.List.{map_push, length-map, nil_from_length}
use Rattle.vx_model.specs.Words.{all_by}
use Rattle.vx_model.specs.ValueData.{ValueData}
use Rattle.vx_model.specs.ChunkData.{ChunkData}
use Rattle.vx_path.proofs.Sort.{length-sort_by}
use Rattle.vx_aggregate_spec.specs.Aggregate.{Aggregate, Column}
use Rattle.vx_zone_spec.specs.ZoneTable.{Filled, name_of, filled, some_values, ordered, any_columns, kept_columns, table_piece}
use Rattle.vx_zone_record_spec.specs.Held.{record_fits}
use Rattle.vx_zone_table.specs.declared.column.TableColumn.{TableColumn}
use Rattle.vx_zone_table.specs.Columns.{filled_column}
use Rattle.vx_zone_table.specs.Gathered.{Gathered, aggregates_in, finished}
use Rattle.vx_zone_table.specs.Parts.{are_whole}
use Rattle.vx_zone_table.proofs.Good.{kept_whole}

-- ---- a record more

pub fit_more : (columns : List Column) (rs : List (List ValueData)) (r : List ValueData) → all_by (record_fits columns) rs ≡ true → record_fits columns r ≡ true → all_by (record_fits columns) (rs ++ r ∷ []) ≡ true
fit_more columns [] r h f = and_from (record_fits columns r) true f refl
fit_more columns (q ∷ rs) r h f =
    and_from (record_fits columns q) (all_by (record_fits columns) (rs ++ r ∷ [])) (and_parts (record_fits columns q) (all_by (record_fits columns) rs) h).0
    (fit_more columns rs r (and_parts (record_fits columns q) (all_by (record_fits columns) rs) h).1 f)

-- ---- the columns that are left

-- no zone leaves no column
no_zone : (columns : List Column) → some_values (filled columns []) ≡ []
no_zone [] = refl
no_zone (a ∷ columns) = no_zone columns

kept_none : (columns : List Column) (rs : List (List ValueData)) → some_values (filled columns rs) ≡ [] → kept_columns columns rs ≡ None
kept_none columns [] e = refl
kept_none columns (r ∷ rs) e = ap (λ (cs : List Filled). any_columns (ordered cs)) e

any_some : (cs : List Filled) → 0 < length cs → any_columns cs ≡ Some cs
any_some [] h = absurd (omega arith)
any_some (c ∷ cs) h = refl

kept_some : (columns : List Column) (rs : List (List ValueData)) → 0 < length (some_values (filled columns rs)) → kept_columns columns rs ≡ Some (ordered (some_values (filled columns rs)))
kept_some columns [] h =
    let e : length (some_values (filled columns [])) ≡ 0 = ap length (no_zone columns) in
    absurd (omega arith)
kept_some columns (r ∷ rs) h =
    let e : length (ordered (some_values (filled columns (r ∷ rs)))) ≡ length (some_values (filled columns (r ∷ rs))) = length-sort_by name_of (some_values (filled columns (r ∷ rs))) in
    any_some (ordered (some_values (filled columns (r ∷ rs)))) (omega arith)

module _ (g : Gathered) (table : List TableColumn) (left_over : map filled_column table ≡ some_values (filled g.columns g.records)) where
  pub table_none : length table ≡ 0 → None ≡ finished g
  table_none e =
      sym (ap (option_map (λ (cs : List Filled). (table_piece cs (length g.records), aggregates_in cs)))
      (kept_none g.columns g.records (sym left_over ∙ ap (map filled_column) (nil_from_length table e))))

  module _ (sorted : List TableColumn) (n : ℕ) (order : map filled_column sorted ≡ ordered (map filled_column table)) (zones : n ≡ length g.records) where
    are : map filled_column sorted ≡ ordered (some_values (filled g.columns g.records))
    are = order ∙ ap ordered left_over

    pub table_whole : all_by (record_fits g.columns) g.records ≡ true → are_whole n (map filled_column sorted) ≡ true
    table_whole h = ap (are_whole n) are ∙ kept_whole g.columns g.records n h (sym zones)

    pub table_some : (c : ChunkData) (gs : List Aggregate) → 0 < length table → c ≡ table_piece (map filled_column sorted) n → gs ≡ aggregates_in (map filled_column sorted) → Some (c, gs) ≡ finished g
    table_some c gs some e f =
        let l : length (map filled_column table) ≡ length table = length-map table filled_column in
        let m : length (map filled_column table) ≡ length (some_values (filled g.columns g.records)) = ap length left_over in
        ap Some (ap₂ (λ (x : ChunkData) (y : List Aggregate). (x, y)) (e ∙ ap₂ table_piece are zones) (f ∙ ap aggregates_in are))
        ∙ sym (ap (option_map (λ (cs : List Filled). (table_piece cs (length g.records), aggregates_in cs))) (kept_some g.columns g.records (omega arith)))

-- a list that isn't empty
pub some_left : (n : ℕ) (b : Bool) → b ≡ (n == 0) → b ≡ false → 0 < n
some_left n b e f = grind (arith, nat_tests)

pub ruleset push_rules = (fit_more, map_push)

pub ruleset finish_rules = (table_none)
