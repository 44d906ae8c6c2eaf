-- Each child of a strategy is less deep, so a walk down it ends.
use Rattle.std.specs.Prelude.{◌≡◌, ◌≤◌, max, true, List, [], ◌∷◌}
use Rattle.std.proofs.Common.{arith}
use denote.Param.Weighed.{most}
use Rattle.vx_strategy.specs.declared.strategy.Strategy.{Strategy}
use Rattle.vx_strategy.specs.declared.strategy.Strategy.TheVariants.{Flat, Chunked, Struct, List as ListStrategy, Dict, Zoned, Repartition, Buffered, Collect, Compressing, Table}
use Rattle.vx_strategy.specs.declared.child.ChildStrategy.TheDeep.{deep-Strategy, deep-FieldWriter, deep-Wrapper}
use Rattle.vx_strategy.specs.declared.field_writer.FieldWriter.{FieldWriter}
use Rattle.vx_strategy.specs.declared.wrapper.Wrapper.{Wrapper}
use Rattle.vx_strategy.specs.declared.wrapper.Wrapper.TheVariants as tested
use Rattle.vx_strategy.specs.FieldWays.{field_ways}
use Rattle.vx_strategy.specs.WrapViews.{wraps}
use Rattle.vx_strategy.specs.StrategyView.{strategy_data}
use Rattle.vx_strategy.specs.WayDepth.{depth, depths, wraps_depth}
use Rattle.vx_strategy.specs.AdmittedStrategy.{as_admitted, item_admitted}
use Rattle.vx_strategy_spec.specs.Admitted.{is_admitted}

most_writers : (ws : List FieldWriter) → most deep-FieldWriter ws ≤ depths (field_ways ws)
most_writers [] = omega arith
most_writers (w ∷ ws) = omega (arith, most_writers ws)

most_wrappers : (ws : List Wrapper) → most deep-Wrapper ws ≤ wraps_depth (wraps ws)
most_wrappers [] = omega arith
most_wrappers (tested.Repartition r ∷ ws) = omega (arith, most_wrappers ws)
most_wrappers (tested.Buffered size ∷ ws) = omega (arith, most_wrappers ws)
most_wrappers (tested.Zoned stats r ∷ ws) = omega (arith, most_wrappers ws)

depth_falls : (s : Strategy) → max (deep-Strategy s) 0 ≤ depth (strategy_data s)
depth_falls (Flat s) = omega arith
depth_falls (Chunked s) = omega arith
depth_falls (Struct s) = omega (arith, most_writers s.writers.items)
depth_falls (ListStrategy s) = omega arith
depth_falls (Dict s) = omega arith
depth_falls (Zoned s) = omega arith
depth_falls (Repartition s) = omega arith
depth_falls (Buffered s) = omega arith
depth_falls (Collect s) = omega arith
depth_falls (Compressing s) = omega arith
depth_falls (Table s) = omega (arith, most_wrappers s.wrappers.value.items)

pub child_falls : (s : Strategy) → is_admitted (strategy_data s) ≡ true → max (deep-Strategy s) 0 ≤ depth (as_admitted (strategy_data s)).item
child_falls s h = rw (item_admitted (strategy_data s) h) (depth_falls s)
