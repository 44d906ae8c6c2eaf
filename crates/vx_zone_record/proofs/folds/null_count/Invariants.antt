use Rattle.std.proofs.Common.{◌≡◌, ◌+◌, ◌≤◌, map, drop}
use Rattle.vx_zone_spec.specs.Record.{nulls}
use Rattle.vx_zone_record.proofs.folds.null_count.Given as goal

abbrev pub invariant-loop-row : goal.invariant-loop-row
invariant-loop-row g l = record {
  few : l.count ≤ l.row-index;
  counted : l.count + nulls (map g.R.Row.seen (drop l.row-index l.rows)) ≡ nulls (map g.R.Row.seen l.rows);
}
