-- Flat strategies as contracts see them.
use Rattle.std.specs.Prelude.{true, false}
use Rattle.vx_strategy_spec.specs.StrategyData.{StrategyData, FlatOptions, flat}
use Rattle.vx_strategy.specs.declared.flat.FlatLayoutStrategy.{FlatLayoutStrategy}

abbrev pub flat_options : FlatLayoutStrategy → FlatOptions
flat_options f = record { padding = f.include_padding; inline = f.inline_array_node }

-- padded, and without an array tree
abbrev pub default_flat : StrategyData
default_flat = flat (record { padding = true; inline = false })
