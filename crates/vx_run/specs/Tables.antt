-- The zone tables of what was written, and what is read of them.
use Rattle.std.specs.Prelude.{◌≡◌, ℕ, zero, suc, List, [], ◌∷◌, ◌++◌, map, Option, Some, None, IsSome}
use Rattle.vx_model.specs.TyView.{ty}
use Rattle.vx_model.specs.TreeView.{val}
use Rattle.vx_model.specs.ValueData.{ValueData}
use Rattle.vx_layout_spec.specs.LayoutTree.{Kind, flat_kind, chunked_kind, struct_kind, list_kind, dict_kind, zoned_kind, stats_kind, LayoutData, LayoutList, layout, no_layouts, child, layout_type}
use Rattle.vx_layout_spec.specs.Rows.{rows}
use Rattle.vx_segment_reader.specs.Codec.{segment_codec}
use Rattle.vx_report.specs.declared.zone_text.TableRows.{TableRows}
use Rattle.vx_report.specs.ZoneText.{ZoneTable, own_table, zone_tables}

-- ---- tables that are there

-- A node's own table has rows. A write gives no node of another kind.
abbrev pub OwnThere : (ℕ → Option (List ℕ)) → Kind → LayoutList ℕ → Type 0
OwnThere look (flat_kind encodings tree) ls = Unit {0}
OwnThere look chunked_kind ls = Unit {0}
OwnThere look struct_kind ls = Unit {0}
OwnThere look list_kind ls = Unit {0}
OwnThere look (dict_kind all) ls = Unit {0}
OwnThere look (zoned_kind n specs) (child data_child (child zones no_layouts)) = IsSome (rows segment_codec look zones)
OwnThere look k ls = ⊥

-- each table of a layout has rows
abbrev mutual
  pub TablesThere : (ℕ → Option (List ℕ)) → LayoutData ℕ → Type 0
  TablesThere look (layout k t n names ls) = OwnThere look k ls × AllThere look ls

  pub AllThere : (ℕ → Option (List ℕ)) → LayoutList ℕ → Type 0
  AllThere look no_layouts = Unit {0}
  AllThere look (child l ls) = TablesThere look l × AllThere look ls

-- the rows of each zone table
abbrev pub table_rows : (ℕ → Option (List ℕ)) → List ZoneTable → List (Option (List ValueData))
table_rows look [] = []
table_rows look (z ∷ zs) = rows segment_codec look z.rows ∷ table_rows look zs

-- ---- the tables of a node and of its children

-- the zone length of a node that has a table
abbrev pub zone_length : Kind → Option ℕ
zone_length (zoned_kind n specs) = Some n
zone_length (stats_kind n stats) = Some n
zone_length k = None

abbrev pub own_tables : LayoutData ℕ → List ZoneTable
own_tables (layout k t n names ls) = own_table k ls

abbrev pub tables_in : List (LayoutData ℕ) → List ZoneTable
tables_in [] = []
tables_in (l ∷ ls) = zone_tables l ++ tables_in ls

-- of the child at the place
abbrev pub tables_at : List (LayoutData ℕ) → ℕ → List ZoneTable
tables_at [] i = []
tables_at (l ∷ ls) zero = zone_tables l
tables_at (l ∷ ls) (suc i) = tables_at ls i

-- ---- tables that were read

-- a table was read: its zone length, its type, and its rows
pub record IsRead (look : ℕ → Option (List ℕ)) (t : TableRows) (z : ZoneTable) : Type 0 where
  pub length_is : t.zone_len ≡ z.zone_len
  pub type_is : ty t.dtype ≡ layout_type z.rows
  pub rows_are : rows segment_codec look z.rows ≡ Some (map val t.rows.items)

-- these were read, in order
abbrev pub AreRead : (ℕ → Option (List ℕ)) → List TableRows → List ZoneTable → Type 0
AreRead look [] [] = Unit {0}
AreRead look [] (z ∷ zs) = ⊥
AreRead look (t ∷ ts) [] = ⊥
AreRead look (t ∷ ts) (z ∷ zs) = IsRead look t z × AreRead look ts zs

-- behind tables that were read, these were read
abbrev pub ReadsOn : (ℕ → Option (List ℕ)) → List TableRows → List TableRows → List ZoneTable → Type 0
ReadsOn look before now zs = (ys : List ZoneTable) → AreRead look before ys → AreRead look now (ys ++ zs)
