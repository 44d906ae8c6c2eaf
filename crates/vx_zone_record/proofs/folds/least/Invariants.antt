use Rattle.std.proofs.Common.{◌≡◌, ◌≤◌, length, drop}
use Rattle.vx_zone_spec.specs.ValueOrder.{least}
use Rattle.vx_zone_record.specs.Scalars.{scalar_value, shallow_rows}
use Rattle.vx_zone_record.proofs.folds.least.Given as goal

abbrev pub invariant-loop-place : goal.invariant-loop-place
invariant-loop-place g l = record {
  within : l.place ≤ length l.rows;
  folded : scalar_value l.found ≡ least (shallow_rows g.R.Row.seen (drop l.place l.rows));
}

abbrev pub decreases-loop-place : goal.decreases-loop-place
decreases-loop-place g l = l.place
