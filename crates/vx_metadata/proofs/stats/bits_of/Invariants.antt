use Rattle.std.proofs.Common.{◌≡◌, ◌+◌, ◌<◌, drop}
use Rattle.vx_model.specs.Words.{total_by}
use Rattle.vx_metadata.specs.Spelled.{stat_bit}
use Rattle.vx_metadata.proofs.stats.bits_of.Given as goal

abbrev pub invariant-loop-stat : goal.invariant-loop-stat
invariant-loop-stat l = record {
  sum : l.bits + total_by stat_bit (drop l.stat-index l.stats) ≡ total_by stat_bit l.stats;
  few : total_by stat_bit l.stats < 32;
}
