-- The summary of the generated table once it is written and read back.
use Rattle.std.specs.Prelude.{◌≡◌, ℕ, ◌+◌, ◌<◌, List, [], ◌∷◌, ◌++◌, length, codes, decimal, Some, Ok}
use Rattle.vx_layout_spec.specs.LayoutTree.{struct_kind, LayoutData, layout, lays_in, children_of, layout_kind}
use Rattle.vx_layout_spec.specs.Rows.{rows}
use Rattle.vx_segment_reader.specs.Codec.{segment_codec}
use Rattle.vx_layout_tree.specs.Children.{kind_name, rows_at, child_in}
use Rattle.vx_layout_tree.specs.declared.kind.LayoutKind.{LayoutKind}
use Rattle.vx_layout_tree.specs.declared.kind.LayoutKind.TheVariants as kinds
use Rattle.vx_row_count.specs.Counting.{HasChild}
use Rattle.vx_plan.specs.Number.{segments, numbered, segment_at}
use Rattle.vx_plan.specs.SourcePlan.{source_values}
use Rattle.vx_generator.specs.Generated.{table_batches}
use Rattle.vx_generator_laws.specs.TableWrite.{table_plan}

-- ---- what is written: the plan of the table's batches, its segments numbered from 0

abbrev pub table_layout : ℕ → LayoutData ℕ
table_layout n = numbered (table_plan n) 0

abbrev pub table_segments : ℕ → List (List ℕ)
table_segments n = segments (table_plan n)

-- this layout and these segments were written, and give the table's rows
pub record IsWritten (n : ℕ) (l : LayoutData ℕ) (stored : List (List ℕ)) : Type 0 where
  pub layout : l ≡ table_layout n
  pub segments : stored ≡ table_segments n
  pub read : rows segment_codec (segment_at 0 stored) l ≡ Some (source_values (table_batches n))

-- ---- what is told of it

-- the bytes of all segments
abbrev pub bytes_in : List (List ℕ) → ℕ
bytes_in [] = 0
bytes_in (b ∷ bs) = length b + bytes_in bs

-- the columns of a struct
abbrev pub columns_of : LayoutData ℕ → List (LayoutData ℕ)
columns_of (layout struct_kind t n names ls) = lays_in ls
columns_of l = []

-- the zones that a layout has a record of: the rows of its table, where its kind has one
abbrev pub zones_by : LayoutKind → List (LayoutData ℕ) → ℕ
zones_by kinds.Zoned ls = rows_at ls 1
zones_by kinds.LegacyStats ls = rows_at ls 1
zones_by k ls = 0

abbrev pub zone_count : LayoutData ℕ → ℕ
zone_count l = zones_by (kind_name (layout_kind l)) (children_of l)

abbrev pub zone_counts : List (LayoutData ℕ) → List ℕ
zone_counts [] = []
zone_counts (l ∷ ls) = codes " " ++ (decimal (zone_count l) ++ zone_counts ls)

-- the columns can be looked at
abbrev pub ColumnsThere : LayoutData ℕ → Type 0
ColumnsThere l = (i : ℕ) → i < length (columns_of l) → HasChild (columns_of l) i

-- the child at the place has a record of so many zones
abbrev pub IsZoneCount : List (LayoutData ℕ) → ℕ → ℕ → Type 0
IsZoneCount ls i n = (x : LayoutData ℕ) × (child_in ls i ≡ Ok x) × (n ≡ zone_count x)

-- So many rows, the segments, their bytes, the zones of each column, and that so many rows were read, a line each.
abbrev pub summary_of : ℕ → LayoutData ℕ → List (List ℕ) → List ℕ
summary_of n l stored =
    codes "rows " ++ (decimal n ++ (codes "\nsegments " ++ (decimal (length stored) ++ (codes "\nbytes " ++ (decimal (bytes_in stored) ++ (codes "\nzones" ++ (zone_counts (columns_of l) ++ (codes "\nread " ++ (decimal n ++ codes "\n")))))))))

-- of the table of so many rows
abbrev pub summary : ℕ → List ℕ
summary n = summary_of n (table_layout n) (table_segments n)
