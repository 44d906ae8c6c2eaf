-- What the readers return, as contracts see it.
use Rattle.std.specs.Prelude.{◌≡◌, List, Result, Ok, Err, Option, Some, None, map}
use Rattle.std.proofs.Common.{Vec}
use Rattle.std.specs.Global.{Global}
use Rattle.vx_strategy_spec.specs.StrategyData.{by_blocks, by_bytes}
use Rattle.vx_strategy_options.specs.OptionViews.{block_options, zoned_options}
use Rattle.vx_strategy.specs.StrategyView.{strategy_data}
use Rattle.vx_strategy.specs.declared.wrapper.ListWrapper.{ListWrapper}
use Rattle.vx_strategy.specs.declared.wrapper.ListWrapper.TheVariants as asked
use Rattle.vx_strategy_json.specs.Forms.{Wrap, around_grouped, around_zoned}
use Rattle.vx_strategy_json.specs.declared.error.StrategyError.{StrategyError}
use Rattle.vx_strategy_json.specs.declared.error.StrategyError.TheVariants as errors

-- What a reader returned, seen by `view`, is what the value stands for, and it refuses where there is nothing; want of
-- memory is free.
abbrev pub Gives : {X Y : Type 0} → (X → Y) → Result X StrategyError → Option Y → Type 0
Gives view (Ok x) read = read ≡ Some (view x)
Gives view (Err errors.Wrong) read = read ≡ None
Gives view (Err errors.OutOfMemory) read = Unit {0}

abbrev pub wrap : ListWrapper → Wrap
wrap (asked.Repartition o) = around_grouped (by_blocks (block_options o))
wrap (asked.Buffered size) = around_grouped (by_bytes size)
wrap (asked.Zoned stats o) = around_zoned (zoned_options o) (strategy_data stats)

abbrev pub list_wraps : Option (Vec ListWrapper Global) → Option (List Wrap)
list_wraps None = None
list_wraps (Some v) = Some (map wrap v.items)
