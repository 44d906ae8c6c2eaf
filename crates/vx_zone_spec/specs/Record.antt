-- The record of a zone: one value an aggregate.
use Rattle.std.specs.Prelude.{ℕ, suc, if◌then◌else◌, List, [], ◌∷◌, Option, Some, None, ℤ, pos, ◌+ℤ◌}
use Rattle.vx_model.specs.declared.ptype.PType.{PType}
use Rattle.vx_model.specs.Numbers.{int_fits}
use Rattle.vx_model.specs.Ty.{Ty}
use Rattle.vx_model.specs.ValueData.{ValueData, null_value, bool_value, int_value, bytes_value}
use Rattle.vx_bloom_spec.specs.Values.{value_hashes}
use Rattle.vx_bloom_spec.specs.Filter.{filter_of}
use Rattle.vx_bloom_spec.specs.Bytes.{filter_bytes}
use Rattle.vx_aggregate_spec.specs.Aggregate.{Aggregate, maximum, minimum, bounded_maximum, bounded_minimum, null_count, sum, bloom, sum_of_type, Column}
use Rattle.vx_zone_spec.specs.ValueOrder.{greatest, least}
use Rattle.vx_zone_spec.specs.Bounds.{upper_bound, lower_bound}

abbrev pub nulls : List ValueData → ℕ
nulls [] = 0
nulls (null_value ∷ vs) = suc (nulls vs)
nulls (v ∷ vs) = nulls vs

-- truth values count as 0 and 1
abbrev pub number_of_value : ValueData → ℤ
number_of_value (int_value n) = n
number_of_value (bool_value b) = if b then pos 1 else pos 0
number_of_value v = pos 0

abbrev pub exact_sum : List ValueData → ℤ
exact_sum [] = pos 0
exact_sum (v ∷ vs) = number_of_value v +ℤ exact_sum vs

-- null where the sum doesn't fit its type
abbrev pub sum_value : Option PType → ℤ → ValueData
sum_value None n = null_value
sum_value (Some p) n = if int_fits p n then int_value n else null_value

-- an aggregate's value of a column's row values
abbrev pub aggregate_value : (List ℕ → ℕ) → Ty → List ValueData → Aggregate → ValueData
aggregate_value hash t vs maximum = greatest vs
aggregate_value hash t vs minimum = least vs
aggregate_value hash t vs (bounded_maximum n) = upper_bound n (greatest vs)
aggregate_value hash t vs (bounded_minimum n) = lower_bound n (least vs)
aggregate_value hash t vs null_count = int_value (pos (nulls vs))
aggregate_value hash t vs sum = sum_value (sum_of_type t) (exact_sum vs)
aggregate_value hash t vs (bloom blocks) = bytes_value (filter_bytes (filter_of blocks (value_hashes hash t vs)))

abbrev pub zone_record : (List ℕ → ℕ) → Ty → List ValueData → List Column → List ValueData
zone_record hash t vs [] = []
zone_record hash t vs (a ∷ columns) = aggregate_value hash t vs a.0 ∷ zone_record hash t vs columns
