-- What holds of a table's columns: their cells fit, and there are as many as zones.
use Rattle.std.proofs.Common.{◌≡◌, ℕ, ◌&&◌, Bool, true, false, not, List, [], ◌∷◌, length, map, filter, refl, ap, ◌∙◌, ⊎_elim, eq-eqb, cond}
use Rattle.std.specs.Prelude.{if◌then◌else◌, ◌==◌}
use Rattle.std.proofs.lemmas.List.{length-map}
use Rattle.std.proofs.lemmas.Bool.{cases_Bool, and_parts, and_from}
use Rattle.vx_model.specs.Words.{all_by, head_or, tail}
use Rattle.vx_model.specs.CellData.{fits}
use Rattle.vx_model.specs.TreeView.{val}
use Rattle.vx_model.specs.ValueData.{ValueData, null_value, is_null_value}
use Rattle.vx_path.specs.Path.{path_le}
use Rattle.vx_path.specs.Sort.{insert_by}
use Rattle.vx_path.proofs.Sort.{insert_by-head, insert_by-tail}
use Rattle.vx_aggregate_spec.specs.Aggregate.{Column}
use Rattle.vx_zone_spec.specs.ZoneTable.{Filled, name_of, filled, some_values, ordered, state_cell}
use Rattle.vx_zone_record_spec.specs.Held.{record_fits}
use Rattle.vx_zone_table.specs.declared.column.TableColumn.{TableColumn}
use Rattle.vx_zone_table.specs.Columns.{filled_column}
use Rattle.vx_zone_table.specs.Parts.{column_fits, has_zones, are_whole}

-- ---- the columns of records that fit

heads_fit : (a : Column) (columns : List Column) (rs : List (List ValueData)) → all_by (record_fits (a ∷ columns)) rs ≡ true → all_by (fits a.1) (map state_cell (map (head_or null_value) rs)) ≡ true
heads_fit a columns [] h = refl
heads_fit a columns ([] ∷ rs) h = cc
heads_fit a columns ((v ∷ vs) ∷ rs) h =
    let one : (fits a.1 (state_cell v) && record_fits columns vs) ≡ true = (and_parts (fits a.1 (state_cell v) && record_fits columns vs) (all_by (record_fits (a ∷ columns)) rs) h).0 in
    and_from (fits a.1 (state_cell v)) (all_by (fits a.1) (map state_cell (map (head_or null_value) rs))) (and_parts (fits a.1 (state_cell v)) (record_fits columns vs) one).0
    (heads_fit a columns rs (and_parts (fits a.1 (state_cell v) && record_fits columns vs) (all_by (record_fits (a ∷ columns)) rs) h).1)

tails_fit : (a : Column) (columns : List Column) (rs : List (List ValueData)) → all_by (record_fits (a ∷ columns)) rs ≡ true → all_by (record_fits columns) (map tail rs) ≡ true
tails_fit a columns [] h = refl
tails_fit a columns ([] ∷ rs) h = cc
tails_fit a columns ((v ∷ vs) ∷ rs) h =
    let one : (fits a.1 (state_cell v) && record_fits columns vs) ≡ true = (and_parts (fits a.1 (state_cell v) && record_fits columns vs) (all_by (record_fits (a ∷ columns)) rs) h).0 in
    and_from (record_fits columns vs) (all_by (record_fits columns) (map tail rs)) (and_parts (fits a.1 (state_cell v)) (record_fits columns vs) one).1
    (tails_fit a columns rs (and_parts (fits a.1 (state_cell v) && record_fits columns vs) (all_by (record_fits (a ∷ columns)) rs) h).1)

filled_fit : (columns : List Column) (rs : List (List ValueData)) → all_by (record_fits columns) rs ≡ true → all_by column_fits (filled columns rs) ≡ true
filled_fit [] rs h = refl
filled_fit (a ∷ columns) rs h =
    and_from (all_by (fits a.1) (map state_cell (map (head_or null_value) rs))) (all_by column_fits (filled columns (map tail rs))) (heads_fit a columns rs h) (filled_fit columns (map tail rs) (tails_fit a columns rs h))

filled_zones : (columns : List Column) (rs : List (List ValueData)) (n : ℕ) → length rs ≡ n → all_by (has_zones n) (filled columns rs) ≡ true
filled_zones [] rs n e = refl
filled_zones (a ∷ columns) rs n e =
    and_from (length (map (head_or null_value) rs) == n) (all_by (has_zones n) (filled columns (map tail rs))) (eq-eqb (length (map (head_or null_value) rs)) n (length-map rs (head_or null_value) ∙ e))
    (filled_zones columns (map tail rs) n (length-map rs tail ∙ e))

-- ---- leaving columns out and sorting keep it

module _ (p : Filled → Bool) where
  some_keep : (cs : List Filled) → all_by p cs ≡ true → all_by p (some_values cs) ≡ true
  some_keep [] h = refl
  some_keep (c ∷ cs) h = go (all_by is_null_value c.values) (some_keep cs (and_parts (p c) (all_by p cs) h).1)
    where
      go : (b : Bool) → all_by p (some_values cs) ≡ true → all_by p (if b then some_values cs else c ∷ some_values cs) ≡ true
      go true r = r
      go false r = and_from (p c) (all_by p (some_values cs)) (and_parts (p c) (all_by p cs) h).0 r

  insert_keeps : (c : Filled) (cs : List Filled) → p c ≡ true → all_by p cs ≡ true → all_by p (insert_by name_of c cs) ≡ true
  insert_keeps c [] f h = and_from (p c) true f refl
  insert_keeps c (d ∷ cs) f h = ⊎_elim
      (λ (t : path_le (name_of c) (name_of d) ≡ true). ap (all_by p) (insert_by-head name_of c d cs t) ∙ and_from (p c) (all_by p (d ∷ cs)) f h)
      (λ (t : path_le (name_of c) (name_of d) ≡ false). ap (all_by p) (insert_by-tail name_of c d cs t) ∙ and_from (p d) (all_by p (insert_by name_of c cs)) (and_parts (p d) (all_by p cs) h).0 (insert_keeps c cs f (and_parts (p d) (all_by p cs) h).1))
      (cases_Bool (path_le (name_of c) (name_of d)))

  sort_keeps : (cs : List Filled) → all_by p cs ≡ true → all_by p (ordered cs) ≡ true
  sort_keeps [] h = refl
  sort_keeps (c ∷ cs) h = insert_keeps c (ordered cs) (and_parts (p c) (all_by p cs) h).0 (sort_keeps cs (and_parts (p c) (all_by p cs) h).1)

pub kept_whole : (columns : List Column) (rs : List (List ValueData)) (n : ℕ) → all_by (record_fits columns) rs ≡ true → length rs ≡ n → are_whole n (ordered (some_values (filled columns rs))) ≡ true
kept_whole columns rs n h e =
    and_from (all_by column_fits (ordered (some_values (filled columns rs)))) (all_by (has_zones n) (ordered (some_values (filled columns rs))))
    (sort_keeps column_fits (some_values (filled columns rs)) (some_keep column_fits (filled columns rs) (filled_fit columns rs h)))
    (sort_keeps (has_zones n) (some_values (filled columns rs)) (some_keep (has_zones n) (filled columns rs) (filled_zones columns rs n e)))

-- ---- columns in memory that aren't null in every zone

pub kept_are : (cs : List TableColumn) → map filled_column (filter (λ c. not (all_by is_null_value (map val c.values.items))) cs) ≡ some_values (map filled_column cs)
kept_are [] = refl
kept_are (c ∷ cs) = go (all_by is_null_value (map val c.values.items)) (kept_are cs)
  where
    go : (b : Bool) → map filled_column (filter (λ c. not (all_by is_null_value (map val c.values.items))) cs) ≡ some_values (map filled_column cs)
        → map filled_column (cond (not b) (c ∷ filter (λ c. not (all_by is_null_value (map val c.values.items))) cs) (filter (λ c. not (all_by is_null_value (map val c.values.items))) cs))
        ≡ (if b then some_values (map filled_column cs) else filled_column c ∷ some_values (map filled_column cs))
    go true r = r
    go false r = ap (λ (l : List Filled). filled_column c ∷ l) r
