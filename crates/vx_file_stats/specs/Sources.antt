-- The parts of a source whose statistics are gathered.
use Rattle.vx_file_stats.specs.declared.accumulator.FileStatsAccumulator.{FileStatsAccumulator}
use Rattle.vx_file_stats.specs.declared.wrapped.StatsSource.{StatsSource}

abbrev pub source_in : {B : Type 0} → StatsSource B → B
source_in s = s.source

abbrev pub gathered_in : {B : Type 0} → StatsSource B → FileStatsAccumulator
gathered_in s = s.gathered
