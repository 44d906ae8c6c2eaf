-- Zone tables that were read, against those of a layout.
use Rattle.std.specs.Prelude.{◌≡◌, ℕ, suc, List, [], ◌∷◌, ◌++◌, map}
use Rattle.vx_model.specs.TyView.{ty}
use Rattle.vx_model.specs.TreeView.{val}
use Rattle.vx_model.specs.ValueData.{ValueData}
use Rattle.vx_layout_spec.specs.LayoutTree.{layout_type}
use Rattle.vx_report.specs.RowText.{row_lines}
use Rattle.vx_report.specs.ZoneText.{ZoneTable, table_line}
use Rattle.vx_report.specs.declared.zone_text.TableRows.{TableRows}

-- the rows of each
abbrev pub rows_of : List TableRows → List (List ValueData)
rows_of [] = []
rows_of (t ∷ ts) = map val t.rows.items ∷ rows_of ts

-- they are of these tables: of each it has the zone length and the type
abbrev pub AreTables : List TableRows → List ZoneTable → Type 0
AreTables [] [] = Unit {0}
AreTables [] (z ∷ zs) = ⊥
AreTables (t ∷ ts) [] = ⊥
AreTables (t ∷ ts) (z ∷ zs) = (t.zone_len ≡ z.zone_len) × (ty t.dtype ≡ layout_type z.rows) × AreTables ts zs

-- a table's line, and below it a line a row
abbrev pub told_table : ℕ → TableRows → List ℕ
told_table k t = table_line k t.zone_len (ty t.dtype) ++ row_lines (map val t.rows.items)

abbrev pub told_tables : ℕ → List TableRows → List ℕ
told_tables k [] = []
told_tables k (t ∷ ts) = told_table k t ++ told_tables (suc k) ts
