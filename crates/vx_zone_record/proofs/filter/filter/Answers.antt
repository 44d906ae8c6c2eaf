use Rattle.std.proofs.Common.{arith}
use Rattle.std.specs.Int.NonZero.{non_zero_u32_get}
use Rattle.vx_hash.specs.XxHash3.{xxhash3_64}
use Rattle.vx_model.specs.TyView.{ty}
use Rattle.vx_model.specs.ValueData.{is_row_value}
use Rattle.vx_zone_record.specs.Scalars.{scalar_value}
use Rattle.vx_zone_record.proofs.FilterSteps.{row_fits, one_inserted, filter_end}
use Rattle.vx_zone_record.proofs.Walks.{holds_behind}
use Rattle.vx_zone_record.proofs.filter.filter.Goals as goal

pub insert-requires-clause-fit : goal.insert-requires-clause-fit
insert-requires-clause-fit g c =
    row_fits xxhash3_64 (ty c.args.column.now) g.R.Row.seen c.args.rows.now c.loop-row.row-index c.row-item.result (scalar_value c.scalar.result) c.loop-row-test.true c.row-item.is c.requires.hashed c.loop-row.invariant.fit c.scalar.ensures

pub loop-row-preserved : goal.loop-row-preserved
loop-row-preserved g c = record {
  fit = holds_behind (is_row_value (ty c.args.column.now)) g.R.Row.seen c.args.rows.now c.loop-row.row-index c.row-item.result c.loop-row-test.true c.row-item.is c.loop-row.invariant.fit;
  same = one_inserted xxhash3_64 (ty c.args.column.now) g.R.Row.seen c.args.rows.now c.loop-row.row-index c.row-item.result (scalar_value c.scalar.result) c.loop-row-test.true c.row-item.is c.requires.hashed c.loop-row.invariant.fit c.scalar.ensures
      c.loop-row.partial c.insert.new.partial _ c.insert.ensures c.loop-row.invariant.same;
}

pub returns : goal.returns
returns g c =
    filter_end xxhash3_64 (ty c.args.column.now) g.R.Row.seen c.loop-row.partial (non_zero_u32_get c.args.blocks) c.loop-row.row-index c.args.rows.now c.in_ok-bytes.bytes.items c.from-blob.result (omega arith) c.loop-row.invariant.same c.in_ok-bytes.ensures c.from-blob.ensures
