use Rattle.vx_file_stats.proofs.GatheredSteps.{sets_given}
use Rattle.vx_file_stats.proofs.accumulator.FileStatsAccumulator.stats_sets.Goals as goal

pub returns-in-Some : goal.returns-in-Some
returns-in-Some c = λ ps g. sets_given c.args.self c.in-Some.columns ps c.deref.result.now c.sets_of.result c.in-Some.is c.deref.ensures.value c.sets_of.ensures g
