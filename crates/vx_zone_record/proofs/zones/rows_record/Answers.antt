use Rattle.std.proofs.Common.{map, arith}
use Rattle.vx_hash.specs.XxHash3.{xxhash3_64}
use Rattle.vx_model.specs.TyView.{ty}
use Rattle.vx_model.specs.TreeView.{val}
use Rattle.vx_aggregate.specs.AggregateView.{aggregate}
use Rattle.vx_zone_record_spec.specs.Held.{has_state}
use Rattle.vx_zone_record.proofs.RecordSteps.{one_folded, record_end, fits_end}
use Rattle.vx_zone_record.proofs.Walks.{holds_here, holds_behind}
use Rattle.vx_zone_record.proofs.zones.rows_record.Goals as goal

pub aggregate_value-requires-clause-held : goal.aggregate_value-requires-clause-held
aggregate_value-requires-clause-held g c =
    holds_here (has_state (ty c.args.column.now)) aggregate c.args.aggregates.now c.loop-aggregate.aggregate-index c.aggregate-item.result c.loop-aggregate-test.true c.aggregate-item.is c.loop-aggregate.invariant.held

pub loop-aggregate-preserved : goal.loop-aggregate-preserved
loop-aggregate-preserved g c = record {
  held = holds_behind (has_state (ty c.args.column.now)) aggregate c.args.aggregates.now c.loop-aggregate.aggregate-index c.aggregate-item.result c.loop-aggregate-test.true c.aggregate-item.is c.loop-aggregate.invariant.held;
  values = one_folded xxhash3_64 (ty c.args.column.now) (map g.R.Row.seen c.args.rows.now) c.args.aggregates.now c.loop-aggregate.aggregate-index c.aggregate-item.result c.loop-aggregate.folded.items c.in_ok-aggregate_value.field-0 c.push.new.self.items _
      c.loop-aggregate-test.true c.aggregate-item.is c.in_ok-push.ensures.items c.in_ok-aggregate_value.ensures c.loop-aggregate.invariant.values;
}

pub returns-clause-record : goal.returns-clause-record
returns-clause-record g c = λ columns e.
    record_end xxhash3_64 (ty c.args.column.now) (map g.R.Row.seen c.args.rows.now) (map val c.loop-aggregate.folded.items) c.args.aggregates.now c.loop-aggregate.aggregate-index (omega arith) c.loop-aggregate.invariant.values columns e

pub returns-clause-fits : goal.returns-clause-fits
returns-clause-fits g c =
    fits_end xxhash3_64 (ty c.args.column.now) g.R.Row.seen c.args.rows.now (map val c.loop-aggregate.folded.items) c.args.aggregates.now c.loop-aggregate.aggregate-index c.requires.fit (omega arith) c.requires.held (omega arith) c.loop-aggregate.invariant.values
