-- Tested wrappers, as contracts see them.
use Rattle.std.specs.Prelude.{List, [], ◌∷◌}
use Rattle.vx_strategy_spec.specs.StrategyData.{Wraps, no_wraps, wrap_grouped, wrap_zoned, by_blocks, by_bytes}
use Rattle.vx_strategy_options.specs.RuleViews.{block_rule, zone_rule}
use Rattle.vx_strategy.specs.declared.wrapper.Wrapper.{Wrapper}
use Rattle.vx_strategy.specs.declared.wrapper.Wrapper.TheVariants as tested

abbrev pub wrap : Wrapper → Wraps → Wraps
wrap (tested.Repartition r) ws = wrap_grouped (by_blocks (block_rule r)) ws
wrap (tested.Buffered size) ws = wrap_grouped (by_bytes size) ws
wrap (tested.Zoned stats r) ws = wrap_zoned (zone_rule r) stats.item ws

abbrev pub wraps : List Wrapper → Wraps
wraps [] = no_wraps
wraps (w ∷ ws) = wrap w (wraps ws)
