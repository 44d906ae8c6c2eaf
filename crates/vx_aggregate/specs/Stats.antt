-- Statistics by number and name, the aggregates of those names, and the types of their values.
use Rattle.std.specs.Prelude.{ℕ, true, List, codes, Option, Some, None}
use Rattle.vx_model.specs.declared.ptype.PType.TheVariants.{U64}
use Rattle.vx_model.specs.Ty.{Ty, primitive}
use Rattle.vx_aggregate_spec.specs.Aggregate.{Aggregate, maximum, minimum, null_count, sum, state_type}
use Rattle.vx_aggregate.specs.declared.stat.Stat.{Stat}
use Rattle.vx_aggregate.specs.declared.stat.Stat.TheVariants as stats

abbrev pub stat_number : Stat → ℕ
stat_number stats.Max = 0
stat_number stats.Min = 1
stat_number stats.Sum = 2
stat_number stats.NullCount = 3
stat_number stats.UncompressedSizeInBytes = 4

abbrev pub stat_name : Stat → List ℕ
stat_name stats.Max = codes "max"
stat_name stats.Min = codes "min"
stat_name stats.Sum = codes "sum"
stat_name stats.NullCount = codes "null_count"
stat_name stats.UncompressedSizeInBytes = codes "uncompressed_size_in_bytes"

-- the aggregate of the statistic's name
abbrev pub stat_aggregate : Stat → Option Aggregate
stat_aggregate stats.Max = Some maximum
stat_aggregate stats.Min = Some minimum
stat_aggregate stats.Sum = Some sum
stat_aggregate stats.NullCount = Some null_count
stat_aggregate stats.UncompressedSizeInBytes = None

-- the type of its values; none where the column's type has none
abbrev pub stat_state : Stat → Ty → Option Ty
stat_state stats.Max t = state_type maximum t
stat_state stats.Min t = state_type minimum t
stat_state stats.Sum t = state_type sum t
stat_state stats.NullCount t = state_type null_count t
stat_state stats.UncompressedSizeInBytes t = Some (primitive U64 true)
