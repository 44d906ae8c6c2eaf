-- An aggregate as contracts see it.
use Rattle.std.specs.Int.NonZero.{non_zero_u32_get}
use Rattle.vx_aggregate_spec.specs.Aggregate.{Aggregate, maximum, minimum, bounded_maximum, bounded_minimum, null_count, sum, bloom}
use Rattle.vx_aggregate.specs.declared.aggregate.AggregateFn.{AggregateFn}
use Rattle.vx_aggregate.specs.declared.aggregate.AggregateFn.TheVariants.{Max, Min, BoundedMax, BoundedMin, NullCount, Sum, Bloom}

abbrev pub aggregate : AggregateFn → Aggregate
aggregate Max = maximum
aggregate Min = minimum
aggregate (BoundedMax n) = bounded_maximum (non_zero_u32_get n)
aggregate (BoundedMin n) = bounded_minimum (non_zero_u32_get n)
aggregate NullCount = null_count
aggregate Sum = sum
aggregate (Bloom n) = bloom (non_zero_u32_get n)
