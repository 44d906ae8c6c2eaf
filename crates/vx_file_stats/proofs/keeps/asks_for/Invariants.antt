use Rattle.std.proofs.Common.{◌≡◌, drop}
use Rattle.vx_file_stats.specs.FileStats.{asks_for}
use Rattle.vx_file_stats.proofs.keeps.asks_for.Given as goal

abbrev pub invariant-loop-one : goal.invariant-loop-one
invariant-loop-one l = asks_for (drop l.one-index l.asked) l.stat ≡ asks_for l.asked l.stat
