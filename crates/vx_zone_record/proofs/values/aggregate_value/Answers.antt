use Rattle.std.proofs.Common.{◌≡◌, map, ap, arith}
use Rattle.std.specs.Int.NonZero.{non_zero_u32_get}
use Rattle.vx_hash.specs.XxHash3.{xxhash3_64}
use Rattle.vx_model.specs.TyView.{ty}
use Rattle.vx_aggregate_spec.specs.Aggregate.{bloom}
use Rattle.vx_aggregate.specs.AggregateView.{aggregate}
use Rattle.vx_zone_record.specs.Scalars.{scalar_value}
use Rattle.vx_zone_record.proofs.RowValues.{filter_order, all_small}
use Rattle.vx_zone_record.proofs.ValueSteps.{state_of, greatest_given, least_given, upper_given, lower_given}
use Rattle.vx_zone_record.proofs.values.aggregate_value.Goals as goal

pub total-requires : goal.total-requires
total-requires g c = all_small (ty c.args.column.now) (map g.R.Row.seen c.args.rows.now) c.requires.fit

pub filter-requires-clause-hashed : goal.filter-requires-clause-hashed
filter-requires-clause-hashed g c =
    filter_order (ty c.args.column.now) (state_of (ty c.args.column.now) (aggregate c.args.aggregate) (bloom (non_zero_u32_get c.in-Bloom.blocks)) (ap aggregate c.in-Bloom.is) c.requires.held)

pub returns-in-Max : goal.returns-in-Max
returns-in-Max g c =
    greatest_given xxhash3_64 (ty c.args.column.now) g.R.Row.seen c.args.rows.now c.requires.fit (aggregate c.args.aggregate) c.requires.held c.to_value.result (scalar_value c.greatest.result) (ap aggregate c.in-Max.is) c.greatest.ensures c.to_value.ensures

pub returns-in-Min : goal.returns-in-Min
returns-in-Min g c =
    least_given xxhash3_64 (ty c.args.column.now) g.R.Row.seen c.args.rows.now c.requires.fit (aggregate c.args.aggregate) c.requires.held c.to_value-in-Min.result (scalar_value c.least.result) (ap aggregate c.in-Min.is) c.least.ensures c.to_value-in-Min.ensures

pub returns-in-BoundedMax : goal.returns-in-BoundedMax
returns-in-BoundedMax g c =
    let same : c.from.result ≡ non_zero_u32_get c.in-BoundedMax.most = grind (arith, c.get.ensures.value, c.from.ensures) in
    upper_given xxhash3_64 (ty c.args.column.now) g.R.Row.seen c.args.rows.now c.requires.fit (aggregate c.args.aggregate) c.requires.held c.upper_bound.result (scalar_value c.greatest-in-BoundedMax.result)
    (non_zero_u32_get c.in-BoundedMax.most) c.from.result (ap aggregate c.in-BoundedMax.is) same c.greatest-in-BoundedMax.ensures c.upper_bound.ensures

pub returns-in-BoundedMin : goal.returns-in-BoundedMin
returns-in-BoundedMin g c =
    let same : c.from-in-BoundedMin.result ≡ non_zero_u32_get c.in-BoundedMin.most = grind (arith, c.get-in-BoundedMin.ensures.value, c.from-in-BoundedMin.ensures) in
    lower_given xxhash3_64 (ty c.args.column.now) g.R.Row.seen c.args.rows.now c.requires.fit (aggregate c.args.aggregate) c.requires.held c.lower_bound.result (scalar_value c.least-in-BoundedMin.result)
    (non_zero_u32_get c.in-BoundedMin.most) c.from-in-BoundedMin.result (ap aggregate c.in-BoundedMin.is) same c.least-in-BoundedMin.ensures c.lower_bound.ensures
