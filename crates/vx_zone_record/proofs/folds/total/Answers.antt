use Rattle.std.proofs.Common.{map, arith}
use Rattle.vx_zone_spec.specs.Record.{exact_sum}
use Rattle.vx_zone_record.specs.Scalars.{scalar_value, is_small}
use Rattle.vx_zone_record.proofs.FoldSteps.{none_summed, small_here, sum_more, sum_all}
use Rattle.vx_zone_record.proofs.Walks.{holds_behind}
use Rattle.vx_zone_record.proofs.folds.total.Goals as goal

pub loop-row-init : goal.loop-row-init
loop-row-init g c = record {
  above = omega arith;
  below = omega arith;
  small = c.requires;
  summed = none_summed (exact_sum (map g.R.Row.seen c.args.rows.now));
}

pub with_row-sum-requires-clause-small : goal.with_row-sum-requires-clause-small
with_row-sum-requires-clause-small g c =
    small_here g.R.Row.seen c.args.rows.now c.loop-row.row-index c.row-item.result (scalar_value c.scalar.result) c.loop-row-test.true c.row-item.is c.scalar.ensures c.loop-row.invariant.small

pub loop-row-preserved : goal.loop-row-preserved
loop-row-preserved g c = record {
  above = omega (arith, c.with_row-sum.ensures.above);
  below = omega (arith, c.with_row-sum.ensures.below);
  small = holds_behind is_small g.R.Row.seen c.args.rows.now c.loop-row.row-index c.row-item.result c.loop-row-test.true c.row-item.is c.loop-row.invariant.small;
  summed = sum_more g.R.Row.seen c.args.rows.now c.loop-row.row-index c.row-item.result (scalar_value c.scalar.result) _ _ _ c.loop-row-test.true c.row-item.is c.scalar.ensures c.with_row-sum.ensures.summed c.loop-row.invariant.summed;
}

pub returns : goal.returns
returns g c = sum_all g.R.Row.seen c.args.rows.now c.loop-row.row-index _ (omega arith) c.loop-row.invariant.summed
