-- What is gathered of batches, one batch at a time.
use Rattle.std.specs.Prelude.{ℕ, ◌+◌, ◌-◌, ◌^◌, ◌&&◌, ◌||◌, min, Bool, false, if◌then◌else◌, List, [], ◌∷◌, Option, Some, ℤ, pos}
use Rattle.vx_model.specs.Ty.{Ty}
use Rattle.vx_model.specs.TyView.{ty}
use Rattle.vx_model.specs.TreeView.{val}
use Rattle.vx_model.specs.ValueData.{ValueData, null_value, is_null_value}
use Rattle.vx_model.specs.ChunkData.{ChunkData, piece_type, row_values, row_size}
use Rattle.vx_aggregate_spec.specs.Aggregate.{sum_of_type}
use Rattle.vx_aggregate.specs.declared.stat.Stat.{Stat}
use Rattle.vx_aggregate.specs.declared.stat.Stat.TheVariants as stats
use Rattle.vx_zone_spec.specs.ValueOrder.{greater, lesser, greatest, least}
use Rattle.vx_zone_spec.specs.Bounds.{upper_bound, lower_bound}
use Rattle.vx_zone_spec.specs.Record.{nulls, exact_sum, sum_value}
use Rattle.vx_file_stats.specs.Precisions.{PrecisionData, absent, SetData}
use Rattle.vx_file_stats.specs.FileStats.{is_longer, is_byte_type, bounded, number_in, both, fitting, counted, keeps, kept, firsts, others}
use Rattle.vx_file_stats.specs.declared.bound.BoundSoFar.{BoundSoFar}
use Rattle.vx_file_stats.specs.declared.rows.RowStats.{RowStats}
use Rattle.vx_file_stats.specs.declared.column.ColumnStats.{ColumnStats}

-- ---- as contracts see it

pub record BoundData : Type 0 where
  pub found : ValueData
  -- it was cut in some batch
  pub cut : Bool
  -- some batch has none
  pub missing : Bool

pub record RowData : Type 0 where
  pub upper : BoundData
  pub lower : BoundData
  pub total : Option ℤ
  pub null_rows : ℕ

pub record ColumnData : Type 0 where
  pub type : Ty
  pub rows : RowData
  pub bytes : ℕ

abbrev pub bound_data : BoundSoFar → BoundData
bound_data b = record { found = val b.value; cut = b.cut; missing = b.missing }

abbrev pub row_data : RowStats → RowData
row_data r = record { upper = bound_data r.upper; lower = bound_data r.lower; total = r.total; null_rows = r.null_rows }

abbrev pub column_data : ColumnStats → ColumnData
column_data c = record { type = ty c.dtype; rows = row_data c.rows; bytes = c.bytes }

-- ---- one batch more

abbrev pub no_bound : BoundData
no_bound = record { found = null_value; cut = false; missing = false }

abbrev pub max_with : ℕ → ValueData → BoundData → BoundData
max_with limit v b = record {
  found = greater (upper_bound limit v) b.found;
  cut = is_longer limit v || b.cut;
  missing = is_null_value (upper_bound limit v) || b.missing;
}

abbrev pub min_with : ℕ → ValueData → BoundData → BoundData
min_with limit v b = record {
  found = lesser (lower_bound limit v) b.found;
  cut = is_longer limit v || b.cut;
  missing = is_null_value (lower_bound limit v) || b.missing;
}

-- numbers stop at the greatest 128-bit number
abbrev pub added : ℕ → ℕ → ℕ
added m n = min (m + n) (2 ^ 128 - 1)

-- what isn't kept stays as it is
abbrev pub next_upper : List Stat → ℕ → Ty → List ValueData → BoundData → BoundData
next_upper asked limit t vs b = if keeps asked stats.Max t then max_with limit (greatest vs) b else b

abbrev pub next_lower : List Stat → ℕ → Ty → List ValueData → BoundData → BoundData
next_lower asked limit t vs b = if keeps asked stats.Min t then min_with limit (least vs) b else b

abbrev pub next_total : List Stat → Ty → List ValueData → Option ℤ → Option ℤ
next_total asked t vs total = if keeps asked stats.Sum t then both (number_in (sum_value (sum_of_type t) (exact_sum vs))) total else total

abbrev pub next_null_rows : List Stat → Ty → List ValueData → ℕ → ℕ
next_null_rows asked t vs n = if keeps asked stats.NullCount t then added n (nulls vs) else n

abbrev pub with_rows : List Stat → ℕ → Ty → List ValueData → RowData → RowData
with_rows asked limit t vs r = record {
  upper = next_upper asked limit t vs r.upper;
  lower = next_lower asked limit t vs r.lower;
  total = next_total asked t vs r.total;
  null_rows = next_null_rows asked t vs r.null_rows;
}

abbrev pub next_bytes : List Stat → ChunkData → ℕ → ℕ
next_bytes asked p n = if keeps asked stats.UncompressedSizeInBytes (piece_type p) then added n (row_size p) else n

abbrev pub with_piece : List Stat → ℕ → ChunkData → ColumnData → ColumnData
with_piece asked limit p c = record {
  type = c.type;
  rows = with_rows asked limit (piece_type p) (row_values p) c.rows;
  bytes = next_bytes asked p c.bytes;
}

-- a piece a column
abbrev pub with_pieces : List Stat → ℕ → List ColumnData → List ChunkData → List ColumnData
with_pieces asked limit [] ps = []
with_pieces asked limit (c ∷ cs) [] = []
with_pieces asked limit (c ∷ cs) (p ∷ ps) = with_piece asked limit p c ∷ with_pieces asked limit cs ps

-- ---- all batches

abbrev pub no_rows : RowData
no_rows = record { upper = no_bound; lower = no_bound; total = Some (pos 0); null_rows = 0 }

abbrev pub no_column : Ty → ColumnData
no_column t = record { type = t; rows = no_rows; bytes = 0 }

abbrev pub column_gathered : List Stat → ℕ → Ty → List ChunkData → ColumnData
column_gathered asked limit t [] = no_column t
column_gathered asked limit t (p ∷ ps) = with_piece asked limit p (column_gathered asked limit t ps)

abbrev pub columns_gathered : List Stat → ℕ → List Ty → List (List ChunkData) → List ColumnData
columns_gathered asked limit [] rows = []
columns_gathered asked limit (t ∷ ts) rows = column_gathered asked limit t (firsts rows) ∷ columns_gathered asked limit ts (others rows)

-- ---- what it tells

abbrev pub max_told : Ty → BoundData → PrecisionData
max_told t b = if is_byte_type t && b.missing then absent else bounded b.cut b.found

abbrev pub min_told : BoundData → PrecisionData
min_told b = bounded b.cut b.found

abbrev pub set_told : List Stat → ColumnData → SetData
set_told asked c = record {
  of_max = kept (keeps asked stats.Max c.type) (max_told c.type c.rows.upper);
  of_min = kept (keeps asked stats.Min c.type) (min_told c.rows.lower);
  of_sum = kept (keeps asked stats.Sum c.type) (fitting c.type c.rows.total);
  of_null_count = kept (keeps asked stats.NullCount c.type) (counted c.rows.null_rows);
  of_size = kept (keeps asked stats.UncompressedSizeInBytes c.type) (counted c.bytes);
}
