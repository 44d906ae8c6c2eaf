-- Options that were tested, as contracts see them.
use Rattle.std.specs.Int.NonZero.{non_zero_u32_get, non_zero_u64_get}
use Rattle.vx_rules.specs.Blocks.{BlockOptions}
use Rattle.vx_strategy_spec.specs.StrategyData.{ZonedOptions}
use Rattle.vx_strategy_options.specs.OptionViews.{asked}
use Rattle.vx_strategy_options.specs.declared.block_rule.BlockRule.{BlockRule}
use Rattle.vx_strategy_options.specs.declared.zone_rule.ZoneRule.{ZoneRule}

abbrev pub block_rule : BlockRule → BlockOptions
block_rule r = record { minimum = r.minimum; multiple = non_zero_u64_get r.multiple; target = r.target; canonicalize = r.canonicalize }

abbrev pub zone_rule : ZoneRule → ZonedOptions
zone_rule r = record { zone_len = non_zero_u32_get r.zone_len; aggregates = asked r.aggregates.value; concurrency = non_zero_u64_get r.concurrency }
