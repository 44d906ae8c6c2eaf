use Rattle.std.proofs.Common.{◌+◌, ◌-◌, ◌*◌, ◌^◌, ◌≤◌, length, take, drop}
use Rattle.vx_sequence.specs.Entries.{AreBelow, IsBelow}
use Rattle.vx_sequence.proofs.entries.search.Given as goal

abbrev pub decreases-loop-low : goal.decreases-loop-low
decreases-loop-low g l = l.high - l.low

-- what is before `low` is below the path, the path is below what is from `high` on, and each step halves what is left
abbrev pub invariant-loop-low : goal.invariant-loop-low
invariant-loop-low g l = record {
  ordered : l.low ≤ l.high;
  within : l.high ≤ length (g.R.Row.entries l.row);
  before : AreBelow (take l.low (g.R.Row.entries l.row)) l.path;
  behind : IsBelow l.path (drop l.high (g.R.Row.entries l.row));
  counted : l.initial.steps ≤ l.steps;
  halved : 2 ^ (l.steps - l.initial.steps) * (l.high - l.low) ≤ length (g.R.Row.entries l.row);
  cost : 2 ^ (l.steps - l.initial.steps) ≤ 2 * length (g.R.Row.entries l.row) + 1;
}
