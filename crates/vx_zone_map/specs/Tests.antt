-- What the entries of a record are asked.
use Rattle.std.specs.Prelude.{ℕ, ◌||◌, ◌==◌, Bool, true, false, [], ◌∷◌, pos}
use Rattle.vx_hash.specs.XxHash3.{xxhash3_64}
use Rattle.vx_model.specs.Ty.{Ty}
use Rattle.vx_model.specs.TreeView.{val}
use Rattle.vx_model.specs.ValueData.{ValueData, int_value, bytes_value, is_row_value}
use Rattle.vx_aggregate_spec.specs.Aggregate.{Aggregate, maximum, minimum, bounded_maximum, bounded_minimum, null_count, bloom}
use Rattle.vx_zone_spec.specs.ValueOrder.{value_le, value_lt, value_same}
use Rattle.vx_zone_spec.specs.Pruning.{ZoneRecord, upper_passes, lower_passes, counts, bytes_lack, lacks}
use Rattle.vx_zone_map.specs.declared.comparison.Relation.{Relation}
use Rattle.vx_zone_map.specs.declared.comparison.Relation.TheVariants.{Below, AtMost, Same, AtLeast, Above}
use Rattle.vx_zone_map.specs.declared.zone.Test.{Test}
use Rattle.vx_zone_map.specs.declared.zone.Test.TheVariants.{Upper, Lower, Lacks, Nulls}

-- a bound stands so to the literal v
abbrev pub stands : Relation → ValueData → ValueData → Bool
stands Below v u = value_lt u v
stands AtMost v u = value_le u v
stands Same v u = value_same u v
stands AtLeast v u = value_le v u
stands Above v u = value_lt v u

-- ---- one entry

abbrev pub passes : Ty → Test → Aggregate → ValueData → Bool
passes t (Upper r v) a u = upper_passes (stands r (val v.now)) a u
passes t (Lower r v) a u = lower_passes (stands r (val v.now)) a u
passes t (Lacks v) a u = lacks xxhash3_64 t (val v.now) a u
passes t (Nulls n) a u = counts n a u

-- a literal that is hashed is null or a value of the type
abbrev pub takes : Ty → Test → Bool
takes t (Upper r v) = true
takes t (Lower r v) = true
takes t (Lacks v) = is_row_value t (val v.now)
takes t (Nulls n) = true

-- some entry passes
abbrev pub some_passes : Ty → Test → ZoneRecord → Bool
some_passes t test [] = false
some_passes t test (e ∷ r) = passes t test e.0 e.1 || some_passes t test r

-- ---- an entry's aggregate and its value, each by itself

abbrev pub bounds_above : Aggregate → Bool
bounds_above maximum = true
bounds_above (bounded_maximum n) = true
bounds_above a = false

abbrev pub bounds_below : Aggregate → Bool
bounds_below minimum = true
bounds_below (bounded_minimum n) = true
bounds_below a = false

abbrev pub is_null_count : Aggregate → Bool
is_null_count null_count = true
is_null_count a = false

abbrev pub is_filter : Aggregate → Bool
is_filter (bloom n) = true
is_filter a = false

abbrev pub value_counts : ℕ → ValueData → Bool
value_counts n (int_value (pos k)) = k == n
value_counts n u = false

abbrev pub value_lacks : Ty → ValueData → ValueData → Bool
value_lacks t v (bytes_value bytes) = bytes_lack xxhash3_64 t v bytes
value_lacks t v u = false
