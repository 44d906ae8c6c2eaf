use Rattle.std.proofs.Common.{◌≡◌, ◌*◌, ◌≤◌, ◌^◌, true, map, drop}
use Rattle.std.specs.Prelude.{pos, ◌+ℤ◌, ◌-ℤ◌}
use Rattle.vx_model.specs.Words.{all_by}
use Rattle.vx_zone_spec.specs.Record.{exact_sum}
use Rattle.vx_zone_record.specs.Scalars.{is_small}
use Rattle.vx_zone_record.proofs.folds.total.Given as goal

abbrev pub invariant-loop-row : goal.invariant-loop-row
invariant-loop-row g l = record {
  above : l.sum.above ≤ 2 ^ 64 * l.row-index;
  below : l.sum.below ≤ 2 ^ 64 * l.row-index;
  small : all_by is_small (map g.R.Row.seen (drop l.row-index l.rows)) ≡ true;
  summed : (pos l.sum.above -ℤ pos l.sum.below) +ℤ exact_sum (map g.R.Row.seen (drop l.row-index l.rows)) ≡ exact_sum (map g.R.Row.seen l.rows);
}
