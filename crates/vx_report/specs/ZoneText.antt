-- The text of zone tables in a report.
use Rattle.std.specs.Prelude.{ℕ, suc, Bool, true, false, List, [], ◌∷◌, ◌++◌, codes, decimal}
use Rattle.vx_model.specs.Ty.{Ty, Named}
use Rattle.vx_model.specs.ValueData.{ValueData}
use Rattle.vx_layout_spec.specs.LayoutTree.{Kind, zoned_kind, stats_kind, LayoutData, LayoutList, layout, no_layouts, child, layout_type}
use Rattle.vx_layout_shape.specs.Shape.{fields_of}
use Rattle.vx_report.specs.RowText.{row_lines}

-- a zone table of a layout: the zone length, and the layout of the table's rows
pub record ZoneTable : Type 0 where
  pub zone_len : ℕ
  pub rows : LayoutData ℕ

abbrev pub table_of : ℕ → LayoutData ℕ → List ZoneTable
table_of n l = record { zone_len = n; rows = l } ∷ []

-- a node's own table, its second child
abbrev pub own_table : Kind → LayoutList ℕ → List ZoneTable
own_table (zoned_kind n specs) (child data_child (child zones ls)) = table_of n zones
own_table (stats_kind n stats) (child data_child (child zones ls)) = table_of n zones
own_table k ls = []

-- the tables of a layout, a node's own before those below it
abbrev mutual
  pub zone_tables : LayoutData ℕ → List ZoneTable
  zone_tables (layout k t n names ls) = own_table k ls ++ tables_below ls

  pub tables_below : LayoutList ℕ → List ZoneTable
  tables_below no_layouts = []
  tables_below (child l ls) = zone_tables l ++ tables_below ls

abbrev pub comma_if : Bool → List ℕ
comma_if true = codes ", "
comma_if false = []

-- names with commas between them, and one in front where others come before
abbrev pub names_from : Bool → List Named → List ℕ
names_from later [] = []
names_from later (f ∷ fs) = comma_if later ++ (f.0 ++ names_from true fs)

-- the names of a table's columns
abbrev pub column_names : Ty → List ℕ
column_names t = names_from false (fields_of t)

-- the table of this number, its zone length and its columns
abbrev pub table_line : ℕ → ℕ → Ty → List ℕ
table_line k zone_len t = codes "table " ++ (decimal k ++ (codes " zone " ++ (decimal zone_len ++ (codes ": " ++ (column_names t ++ codes "\n")))))

-- a line a table, and below it a line a row, where the rows of each table are given in order
abbrev pub zone_lines : ℕ → List ZoneTable → List (List ValueData) → List ℕ
zone_lines k [] rows = []
zone_lines k (z ∷ zs) [] = table_line k z.zone_len (layout_type z.rows) ++ zone_lines (suc k) zs []
zone_lines k (z ∷ zs) (vs ∷ rest) = table_line k z.zone_len (layout_type z.rows) ++ (row_lines vs ++ zone_lines (suc k) zs rest)
