-- What wraps a list layout.
use Rattle.std.specs.Prelude.{List, [], ◌∷◌}
use Rattle.vx_strategy_spec.specs.StrategyData.{Wraps, no_wraps, wrap_grouped, wrap_zoned, by_blocks, by_bytes}
use Rattle.vx_strategy_options.specs.OptionViews.{block_options, zoned_options}
use Rattle.vx_strategy.specs.StrategyView.{strategy_data}
use Rattle.vx_strategy.specs.declared.wrapper.ListWrapper.{ListWrapper}
use Rattle.vx_strategy.specs.declared.wrapper.ListWrapper.TheVariants as asked

-- one that is asked for, around those within
abbrev pub wrap_asked : ListWrapper → Wraps → Wraps
wrap_asked (asked.Repartition o) ws = wrap_grouped (by_blocks (block_options o)) ws
wrap_asked (asked.Buffered size) ws = wrap_grouped (by_bytes size) ws
wrap_asked (asked.Zoned stats o) ws = wrap_zoned (zoned_options o) (strategy_data stats) ws

abbrev pub wraps_asked : List ListWrapper → Wraps
wraps_asked [] = no_wraps
wraps_asked (w ∷ ws) = wrap_asked w (wraps_asked ws)
