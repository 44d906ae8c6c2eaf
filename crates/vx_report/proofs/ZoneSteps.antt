-- Steps of the loops over tables and over the names of their columns.
use Rattle.std.proofs.Common.{◌≡◌, ℕ, ◌+◌, ◌<◌, suc, Bool, true, List, [], ◌∷◌, ◌++◌, length, get_or, drop, map, refl, ◌∙◌, append_assoc, arith}
use Rattle.std.proofs.lemmas.List.{drop_more, append-nil}
use Rattle.vx_model.specs.declared.dtype.StructField.{StructField}
use Rattle.vx_model.specs.TyView.{ty, field_ty}
use Rattle.vx_model.specs.TreeView.{val}
use Rattle.vx_model.proofs.Views.{field_ty_is}
use Rattle.vx_report.specs.declared.zone_text.TableRows.{TableRows}
use Rattle.vx_report.specs.RowText.{row_lines}
use Rattle.vx_report.specs.ZoneText.{ZoneTable, comma_if, names_from, table_line, zone_lines}
use Rattle.vx_report.specs.TableView.{rows_of, AreTables, told_table, told_tables}

pub drop_table : (ts : List TableRows) (i : ℕ) (t : TableRows) → i < length ts → t ≡ get_or ts i t
    → told_tables i (drop i ts) ≡ told_table i t ++ told_tables (i + 1) (drop (i + 1) ts)
drop_table ts i t lt is =
    let n : suc i ≡ i + 1 = omega arith in
    rw (drop_more ts i t lt, ← is, n) refl

pub drop_name : (later : Bool) (fs : List StructField) (i : ℕ) (f : StructField) → i < length fs → f ≡ get_or fs i f
    → names_from later (map field_ty (drop i fs)) ≡ comma_if later ++ (f.name ++ names_from true (map field_ty (drop (i + 1) fs)))
drop_name later fs i f lt is = rw (drop_more fs i f lt, ← is, field_ty_is f) refl

-- tables that were read are told as those of the layout
pub tables_told : (k : ℕ) (ts : List TableRows) (zs : List ZoneTable) → AreTables ts zs → told_tables k ts ≡ zone_lines k zs (rows_of ts)
tables_told k [] [] are = refl
tables_told k [] (z ∷ zs) are = absurd are
tables_told k (t ∷ ts) [] are = absurd are
tables_told k (t ∷ ts) (z ∷ zs) are =
    let same : table_line k t.zone_len (ty t.dtype) ++ (row_lines (map val t.rows.items) ++ told_tables (suc k) ts) ≡ zone_lines k (z ∷ zs) (rows_of (t ∷ ts)) =
    rw (← are.0, ← are.1, ← tables_told (suc k) ts zs are.2) refl in
    append_assoc (table_line k t.zone_len (ty t.dtype)) (row_lines (map val t.rows.items)) (told_tables (suc k) ts) ∙ same

pub ruleset table_rules = (append_assoc, append-nil, drop_table)

pub ruleset name_rules = (append_assoc, append-nil, drop_name)
