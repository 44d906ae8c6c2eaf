use Rattle.std.proofs.Common.{◌-◌, ◌≤◌, length}
use Rattle.vx_column_layouts.proofs.Places.{Within}
use Rattle.vx_column_layouts.proofs.numbers.number_at.Given as goal

abbrev pub invariant-halves : goal.invariant-halves
invariant-halves l = record {
  top : l.high ≤ length l.history;
  within : Within l.history l.path l.low l.high;
}

abbrev pub decreases-halves : goal.decreases-halves
decreases-halves l = l.high - l.low
