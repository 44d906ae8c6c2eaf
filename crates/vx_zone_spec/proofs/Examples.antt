-- Bounds, records and pruning, computed on small zones.
use Rattle.std.proofs.Common.{◌≡◌, ℕ, Bool, true, false, List, [], ◌∷◌, map, slice_index, Some, None, refl}
use Rattle.std.specs.Prelude.{pos, negsuc, codes, replicate, ◌^◌, ◌-◌}
use Rattle.std.specs.Str.{chars}
use Rattle.std.specs.Char.{encode_utf8}
use Rattle.vx_model.specs.declared.ptype.PType.TheVariants.{I32, I64, U64}
use Rattle.vx_model.specs.Ty.{primitive, list, field, no_fields, struct}
use Rattle.vx_model.specs.ValueData.{ValueData, null_value, int_value, text_value, bytes_value, list_value, vals_of}
use Rattle.vx_aggregate_spec.specs.Aggregate.{Column, maximum, minimum, null_count, bounded_maximum, bloom, spec, aggregate_of, held_aggregates, default_aggregates, sum_of_type}
use Rattle.vx_aggregate_spec.specs.Tables.{stats_table}
use Rattle.vx_zone_spec.specs.Bounds.{upper_bound, lower_bound}
use Rattle.vx_zone_spec.specs.Record.{zone_record, exact_sum, sum_value, aggregate_value}
use Rattle.vx_zone_spec.specs.ZoneTable.{Filled, kept_columns, table_fields}
use Rattle.vx_zone_spec.specs.Pruning.{Predicate, eq, not_eq, gt, lt, is_not_null, both, negated, falsified, ZoneRecord, predicate_fits}
use Rattle.vx_zone_spec.specs.ZoneMap.{ZoneMap, zone_rows, zones_fit}
use Rattle.vx_bloom_spec.specs.Blocks.{mask, chosen_bit, or_lanes, no_lanes, covers}
use Rattle.vx_bloom_spec.specs.Bytes.{filter_bytes, block_bytes, number_bytes, filter_at, block_at, number_at}
use Rattle.vx_bloom_spec.specs.Filter.{filter_of, or_all, may_contain}

-- ---- bounds

all_raised : upper_bound 2 (bytes_value (255 ∷ 255 ∷ 255 ∷ [])) ≡ null_value
all_raised = refl

second_full : upper_bound 2 (bytes_value (1 ∷ 255 ∷ 5 ∷ [])) ≡ bytes_value (2 ∷ [])
second_full = refl

lower_text : lower_bound 12 (text_value (codes "Value to be truncated")) ≡ text_value (codes "Value to be ")
unfolding chars encode_utf8
lower_text = refl

upper_text : upper_bound 12 (text_value (codes "wait a minute")) ≡ text_value (codes "wait a minuu")
unfolding chars encode_utf8
upper_text = refl

short_text : lower_bound 12 (text_value (codes "Another")) ≡ text_value (codes "Another")
short_text = refl

-- ---- sums

sum_overflows : sum_value (sum_of_type (primitive I64 true)) (exact_sum (int_value (pos 9223372036854775807) ∷ int_value (pos 1) ∷ [])) ≡ null_value
sum_overflows = refl

sum_skips_nulls : sum_value (sum_of_type (primitive I64 true)) (exact_sum (null_value ∷ int_value (pos 3) ∷ int_value (pos 4) ∷ [])) ≡ int_value (pos 7)
sum_skips_nulls = refl

sum_of_none : sum_value (sum_of_type (primitive I64 true)) (exact_sum (null_value ∷ [])) ≡ int_value (pos 0)
sum_of_none = refl

-- ---- three zones of three integers

zone : ℕ → List ValueData
zone n = int_value (pos n) ∷ int_value (pos (Rattle.std.specs.Prelude.◌+◌ n 1)) ∷ int_value (pos (Rattle.std.specs.Prelude.◌+◌ n 2)) ∷ []

kept : List Column
kept = held_aggregates (default_aggregates (primitive I32 false)) (primitive I32 false)

first_record : zone_record (λ b. 0) (primitive I32 false) (int_value (pos 1) ∷ int_value (pos 2) ∷ int_value (pos 3) ∷ []) kept ≡ int_value (pos 3) ∷ int_value (pos 1) ∷ int_value (pos 0) ∷ []
unfolding kept
first_record = refl

records : List (List ValueData)
records = (int_value (pos 3) ∷ int_value (pos 1) ∷ int_value (pos 0) ∷ []) ∷ (int_value (pos 6) ∷ int_value (pos 4) ∷ int_value (pos 0) ∷ []) ∷ (int_value (pos 9) ∷ int_value (pos 7) ∷ int_value (pos 0) ∷ []) ∷ []

columns : List Filled
columns =
    record { aggregate = maximum; state = primitive I32 true; values = int_value (pos 3) ∷ int_value (pos 6) ∷ int_value (pos 9) ∷ [] }
    ∷ record { aggregate = minimum; state = primitive I32 true; values = int_value (pos 1) ∷ int_value (pos 4) ∷ int_value (pos 7) ∷ [] }
    ∷ record { aggregate = null_count; state = primitive U64 true; values = int_value (pos 0) ∷ int_value (pos 0) ∷ int_value (pos 0) ∷ [] } ∷ []

table_columns_are : kept_columns kept records ≡ Some columns
unfolding kept records columns
table_columns_are = refl

table_names : table_fields columns ≡ field (codes "max") (primitive I32 true) (field (codes "min") (primitive I32 true) (field (codes "null_count") (primitive U64 true) no_fields))
unfolding columns
table_names = refl

-- a column of nulls alone is left out
no_bounds : kept_columns kept ((null_value ∷ null_value ∷ int_value (pos 2) ∷ []) ∷ []) ≡ Some (record { aggregate = null_count; state = primitive U64 true; values = int_value (pos 2) ∷ [] } ∷ [])
unfolding kept
no_bounds = refl

no_zones : kept_columns kept [] ≡ None
unfolding kept
no_zones = refl

-- ---- pruning

zone_1 : ZoneRecord
zone_1 = (maximum, int_value (pos 3)) ∷ (minimum, int_value (pos 1)) ∷ (null_count, int_value (pos 0)) ∷ []

zone_2 : ZoneRecord
zone_2 = (maximum, int_value (pos 6)) ∷ (minimum, int_value (pos 4)) ∷ (null_count, int_value (pos 0)) ∷ []

zone_3 : ZoneRecord
zone_3 = (maximum, int_value (pos 9)) ∷ (minimum, int_value (pos 7)) ∷ (null_count, int_value (pos 0)) ∷ []

above_6 : map (λ r. falsified (λ b. 0) (primitive I32 false) (gt (int_value (pos 6))) r 3) (zone_1 ∷ zone_2 ∷ zone_3 ∷ []) ≡ true ∷ true ∷ false ∷ []
unfolding zone_1 zone_2 zone_3
above_6 = refl

is_5 : map (λ r. falsified (λ b. 0) (primitive I32 false) (eq (int_value (pos 5))) r 3) (zone_1 ∷ zone_2 ∷ zone_3 ∷ []) ≡ true ∷ false ∷ true ∷ []
unfolding zone_1 zone_2 zone_3
is_5 = refl

not_below_7 : map (λ r. falsified (λ b. 0) (primitive I32 false) (negated (lt (int_value (pos 7)))) r 3) (zone_1 ∷ zone_2 ∷ zone_3 ∷ []) ≡ true ∷ true ∷ false ∷ []
unfolding zone_1 zone_2 zone_3
not_below_7 = refl

-- a comparison with a text, or with null, isn't asked of integers
of_text : predicate_fits (primitive I32 true) (eq (text_value (codes "a"))) ≡ false
of_text = refl

of_null : predicate_fits (primitive I32 true) (eq null_value) ≡ false
of_null = refl

of_integer : predicate_fits (primitive I32 true) (both is_not_null (negated (lt (int_value (pos 7))))) ≡ true
of_integer = refl

of_lists : predicate_fits (list (primitive I32 true) true) (eq (list_value (vals_of []))) ≡ false
of_lists = refl

-- ---- filters in a record, the hash being the first byte

-- the filter of 1 in one block
one_stored : ValueData
one_stored = aggregate_value (λ b. slice_index b 0) (primitive I32 false) (int_value (pos 1) ∷ []) (bloom 1)

excludes : ValueData → Predicate → Bool
excludes stored p = falsified (λ b. slice_index b 0) (primitive I32 false) p ((bloom 1, stored) ∷ []) 1

excludes_2 : excludes one_stored (eq (int_value (pos 2))) ≡ true
unfolding excludes one_stored filter_bytes block_bytes number_bytes filter_of or_all or_lanes no_lanes mask chosen_bit filter_at block_at number_at may_contain covers
excludes_2 = refl

keeps_1 : excludes one_stored (eq (int_value (pos 1))) ≡ false
unfolding excludes one_stored filter_bytes block_bytes number_bytes filter_of or_all or_lanes no_lanes mask chosen_bit filter_at block_at number_at may_contain covers
keeps_1 = refl

-- other comparisons don't ask it
keeps_not_2 : excludes one_stored (not_eq (int_value (pos 2))) ≡ false
unfolding excludes
keeps_not_2 = refl

-- no value is stored, or bytes of no filter
null_keeps : excludes null_value (eq (int_value (pos 2))) ≡ false
unfolding excludes
null_keeps = refl

short_keeps : excludes (bytes_value (replicate 31 0)) (eq (int_value (pos 2))) ≡ false
unfolding excludes
short_keeps = refl

-- no blocks
empty_keeps : excludes (bytes_value []) (eq (int_value (pos 2))) ≡ false
unfolding excludes
empty_keeps = refl

-- two blocks without a bit, where one was asked for: read with its own number
cleared_excludes : excludes (bytes_value (replicate 64 0)) (eq (int_value (pos 2))) ≡ true
unfolding excludes mask chosen_bit filter_at block_at number_at may_contain covers
cleared_excludes = refl

-- ---- the rows of zones: 4, 4 and 2 of 10

ten : ZoneMap
ten = record { column = primitive I32 false; aggregates = []; zone_len = 4; row_count = 10; zones = null_value ∷ null_value ∷ null_value ∷ [] }

ten_rows : zone_rows ten 0 ∷ zone_rows ten 1 ∷ zone_rows ten 2 ∷ [] ≡ 4 ∷ 4 ∷ 2 ∷ []
unfolding ten
ten_rows = refl

ten_fit : zones_fit 4 10 3 ≡ true
ten_fit = refl

seven_are_few : zones_fit 4 7 3 ≡ false
seven_are_few = refl

no_zone_fits : zones_fit 4 0 0 ≡ true
no_zone_fits = refl

-- ---- specs

bound_read : aggregate_of (spec (bounded_maximum 64)) ≡ Some (bounded_maximum 64)
bound_read = refl

filter_read : aggregate_of (spec (bloom 256)) ≡ Some (bloom 256)
filter_read = refl

zero_bound : aggregate_of (record { id = codes "vortex.bounded_max"; options = 0 ∷ 0 ∷ 0 ∷ 0 ∷ [] }) ≡ None
zero_bound = refl

other_hash : aggregate_of (record { id = codes "vortex.bloom_filter.sbbf"; options = 1 ∷ 0 ∷ 0 ∷ 0 ∷ 1 ∷ 0 ∷ 0 ∷ 0 ∷ [] }) ≡ None
other_hash = refl

with_options : aggregate_of (record { id = codes "vortex.max"; options = 1 ∷ [] }) ≡ None
with_options = refl

unknown : aggregate_of (record { id = codes "vortex.median"; options = [] }) ≡ None
unknown = refl

-- ---- the type of a table

stats_type : stats_table (primitive I32 false) (maximum ∷ bounded_maximum 64 ∷ null_count ∷ [])
    ≡ struct (field (codes "max") (primitive I32 true) (field (codes "null_count") (primitive U64 true) no_fields)) false
stats_type = refl
