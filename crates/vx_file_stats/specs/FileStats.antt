-- The statistics that a file keeps of its columns, over the batches of a source. The last batch stands first.
use Rattle.std.specs.Prelude.{ℕ, ◌^◌, ◌&&◌, ◌||◌, ◌==◌, nat_lt, Bool, false, if◌then◌else◌, List, [], ◌∷◌, length, map, Option, Some, None, is_some, ℤ, pos, ◌+ℤ◌}
use Rattle.vx_model.specs.Words.{total_by}
use Rattle.vx_model.specs.Ty.{Ty, Tys, no_fields, field, is_struct, nullable, ty_eq}
use Rattle.vx_model.specs.ValueData.{ValueData, null_value, int_value, text_value, bytes_value, is_null_value}
use Rattle.vx_model.specs.ChunkData.{ChunkData, piece_type, row_values, row_size}
use Rattle.vx_layout_spec.specs.Parts.{field_pieces}
use Rattle.vx_chunk_cells.specs.Parts.{struct_fields}
use Rattle.vx_aggregate_spec.specs.Aggregate.{byte_bound_state, sum_of_type}
use Rattle.vx_aggregate.specs.declared.stat.Stat.{Stat}
use Rattle.vx_aggregate.specs.declared.stat.Stat.TheVariants as stats
use Rattle.vx_aggregate.specs.Stats.{stat_number, stat_state}
use Rattle.vx_zone_spec.specs.ValueOrder.{greatest, least}
use Rattle.vx_zone_spec.specs.Bounds.{upper_bound, lower_bound}
use Rattle.vx_zone_spec.specs.Record.{nulls, exact_sum, sum_value}
use Rattle.vx_file_stats.specs.Precisions.{PrecisionData, exact, inexact, absent, SetData}

-- ---- columns

abbrev pub is_nullable_struct : Ty → Bool
is_nullable_struct t = is_struct t && nullable t

abbrev pub types_in : Tys → List Ty
types_in no_fields = []
types_in (field name t fs) = t ∷ types_in fs

-- a struct's fields, or the type itself; an extension over a struct is one column
abbrev pub column_types : Ty → List Ty
column_types t = if is_struct t then types_in (struct_fields t) else t ∷ []

-- a batch's columns
abbrev pub column_pieces : ChunkData → List ChunkData
column_pieces p = if is_struct (piece_type p) then field_pieces (struct_fields (piece_type p)) p else p ∷ []

-- batches of another type count in no statistic
abbrev pub of_type : Ty → List ChunkData → List ChunkData
of_type t [] = []
of_type t (p ∷ ps) = if ty_eq (piece_type p) t then p ∷ of_type t ps else of_type t ps

-- ---- bounds, cut to so many bytes

abbrev pub some_by : {X : Type 0} → (X → Bool) → List X → Bool
some_by f [] = false
some_by f (x ∷ xs) = f x || some_by f xs

-- texts and bytes alone are cut
abbrev pub is_longer : ℕ → ValueData → Bool
is_longer limit (text_value s) = nat_lt limit (length s)
is_longer limit (bytes_value s) = nat_lt limit (length s)
is_longer limit v = false

abbrev pub batch_max : ℕ → ChunkData → ValueData
batch_max limit p = upper_bound limit (greatest (row_values p))

abbrev pub batch_min : ℕ → ChunkData → ValueData
batch_min limit p = lower_bound limit (least (row_values p))

-- seen through extensions
abbrev pub is_byte_type : Ty → Bool
is_byte_type t = is_some (byte_bound_state t)

-- nothing where no batch has one
abbrev pub bounded : Bool → ValueData → PrecisionData
bounded cut null_value = absent
bounded cut v = if cut then inexact v else exact v

-- the greatest of the batches' maxima, inexact where one was cut; of texts and bytes nothing where a batch has none
abbrev pub max_of : ℕ → Ty → List ChunkData → PrecisionData
max_of limit t ps =
    if is_byte_type t && some_by (λ p. is_null_value (batch_max limit p)) ps
    then absent
    else bounded (some_by (λ p. is_longer limit (greatest (row_values p))) ps) (greatest (map (batch_max limit) ps))

-- the least of the minima of those batches that have one
abbrev pub min_of : ℕ → List ChunkData → PrecisionData
min_of limit ps = bounded (some_by (λ p. is_longer limit (least (row_values p))) ps) (least (map (batch_min limit) ps))

-- ---- totals

abbrev pub number_in : ValueData → Option ℤ
number_in (int_value n) = Some n
number_in v = None

-- nothing where it doesn't fit the type of sums
abbrev pub batch_sum : Ty → ChunkData → Option ℤ
batch_sum t p = number_in (sum_value (sum_of_type t) (exact_sum (row_values p)))

abbrev pub both : Option ℤ → Option ℤ → Option ℤ
both (Some a) (Some b) = Some (a +ℤ b)
both a b = None

abbrev pub total_sum : Ty → List ChunkData → Option ℤ
total_sum t [] = Some (pos 0)
total_sum t (p ∷ ps) = both (batch_sum t p) (total_sum t ps)

abbrev pub fitting : Ty → Option ℤ → PrecisionData
fitting t None = absent
fitting t (Some n) = bounded false (sum_value (sum_of_type t) n)

-- the sum of the batches' sums, where each of them fits and it fits too
abbrev pub sum_of : Ty → List ChunkData → PrecisionData
sum_of t ps = fitting t (total_sum t ps)

-- a number that a value can hold
abbrev pub counted : ℕ → PrecisionData
counted n = if nat_lt n (2 ^ 127) then exact (int_value (pos n)) else absent

abbrev pub null_count_of : List ChunkData → PrecisionData
null_count_of ps = counted (total_by (λ p. nulls (row_values p)) ps)

abbrev pub size_of : List ChunkData → PrecisionData
size_of ps = counted (total_by row_size ps)

-- ---- sets

abbrev pub asks_for : List Stat → Stat → Bool
asks_for [] s = false
asks_for (a ∷ asked) s = (stat_number a == stat_number s) || asks_for asked s

-- it is asked for, and its values have a type
abbrev pub keeps : List Stat → Stat → Ty → Bool
keeps asked s t = asks_for asked s && is_some (stat_state s t)

abbrev pub kept : Bool → PrecisionData → PrecisionData
kept b p = if b then p else absent

-- of a column of the type, by the batches' pieces of it
abbrev pub column_set : List Stat → ℕ → Ty → List ChunkData → SetData
column_set asked limit t ps = record {
  of_max = kept (keeps asked stats.Max t) (max_of limit t ps);
  of_min = kept (keeps asked stats.Min t) (min_of limit ps);
  of_sum = kept (keeps asked stats.Sum t) (sum_of t ps);
  of_null_count = kept (keeps asked stats.NullCount t) (null_count_of ps);
  of_size = kept (keeps asked stats.UncompressedSizeInBytes t) (size_of ps);
}

-- the first and the others of each batch's columns
abbrev pub firsts : List (List ChunkData) → List ChunkData
firsts [] = []
firsts ([] ∷ rows) = firsts rows
firsts ((p ∷ ps) ∷ rows) = p ∷ firsts rows

abbrev pub others : List (List ChunkData) → List (List ChunkData)
others [] = []
others ([] ∷ rows) = others rows
others ((p ∷ ps) ∷ rows) = ps ∷ others rows

abbrev pub column_sets : List Stat → ℕ → List Ty → List (List ChunkData) → List SetData
column_sets asked limit [] rows = []
column_sets asked limit (t ∷ ts) rows = column_set asked limit t (firsts rows) ∷ column_sets asked limit ts (others rows)

-- a set a column: of the statistics asked for, with bounds of so many bytes, over the batches of a source of the type
abbrev pub file_stats : List Stat → ℕ → Ty → List ChunkData → List SetData
file_stats asked limit t ps = column_sets asked limit (column_types t) (map column_pieces (of_type t ps))
