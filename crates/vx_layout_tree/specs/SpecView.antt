-- The specs of a zoned layout's aggregates.
use Rattle.std.specs.Prelude.{List, map}
use Rattle.std.specs.Global.{Vec}
use Rattle.vx_layout_spec.specs.LayoutTree.{Spec}
use Rattle.vx_aggregate_spec.specs.Aggregate.{spec}
use Rattle.vx_aggregate.specs.AggregateView.{aggregate}
use Rattle.vx_aggregate.specs.declared.aggregate.AggregateFn.{AggregateFn}

abbrev pub specs_of : Vec AggregateFn → List Spec
specs_of v = map spec (map aggregate v.items)
