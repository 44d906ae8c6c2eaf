-- What is known of the statistics of one column.
use Rattle.vx_model.specs.ValueData.{ValueData}
use Rattle.vx_model.specs.TreeView.{val}
use Rattle.vx_aggregate.specs.declared.stat.Stat.{Stat}
use Rattle.vx_aggregate.specs.declared.stat.Stat.TheVariants as stats
use Rattle.vx_file_stats.specs.declared.precision.Precision.{Precision}
use Rattle.vx_file_stats.specs.declared.precision.Precision.TheVariants.{Exact, Inexact, Absent}
use Rattle.vx_file_stats.specs.declared.stats_set.StatsSet.{StatsSet}

-- the value itself, a bound of it, or nothing
pub data PrecisionData : Type 0 where
  exact : ValueData → PrecisionData
  inexact : ValueData → PrecisionData
  absent : PrecisionData

abbrev pub precision : Precision → PrecisionData
precision (Exact v) = exact (val v)
precision (Inexact v) = inexact (val v)
precision Absent = absent

-- one for each statistic
pub record SetData : Type 0 where
  pub of_max : PrecisionData
  pub of_min : PrecisionData
  pub of_sum : PrecisionData
  pub of_null_count : PrecisionData
  pub of_size : PrecisionData

abbrev pub stat_in : SetData → Stat → PrecisionData
stat_in s stats.Max = s.of_max
stat_in s stats.Min = s.of_min
stat_in s stats.Sum = s.of_sum
stat_in s stats.NullCount = s.of_null_count
stat_in s stats.UncompressedSizeInBytes = s.of_size

abbrev pub set_data : StatsSet → SetData
set_data s = record {
  of_max = precision s.max;
  of_min = precision s.min;
  of_sum = precision s.sum;
  of_null_count = precision s.null_count;
  of_size = precision s.size;
}
