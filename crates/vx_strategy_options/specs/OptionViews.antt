-- Options as contracts see them.
use Rattle.std.specs.Prelude.{ℕ, ◌^◌, nat_lt, Bool, true, List, map, length, Option, Some, None}
use Rattle.vx_rules.specs.Blocks.{BlockOptions}
use Rattle.vx_rules.specs.Runs.{DictOptions}
use Rattle.vx_aggregate_spec.specs.Aggregate.{Aggregate}
use Rattle.vx_strategy_spec.specs.StrategyData.{ZonedOptions}
use Rattle.vx_aggregate.specs.AggregateView.{aggregate}
use Rattle.vx_aggregate.specs.declared.aggregate.AggregateFn.{AggregateFn}
use Rattle.std.proofs.Common.{Vec}
use Rattle.std.specs.Global.{Global}
use Rattle.vx_strategy_options.specs.declared.options.RepartitionWriterOptions.{RepartitionWriterOptions}
use Rattle.vx_strategy_options.specs.declared.options.DictLayoutConstraints.{DictLayoutConstraints}
use Rattle.vx_strategy_options.specs.declared.options.ZonedLayoutOptions.{ZonedLayoutOptions}

abbrev pub block_options : RepartitionWriterOptions → BlockOptions
block_options o = record { minimum = o.block_size_minimum; multiple = o.block_len_multiple; target = o.block_size_target; canonicalize = o.canonicalize }

abbrev pub dict_options : DictLayoutConstraints → ℕ → DictOptions
dict_options c probe = record { max_bytes = c.max_bytes; max_len = c.max_len; probe = probe }

-- the aggregates that are asked for; None: those recorded where nothing else is asked for
abbrev pub asked : Option (Vec AggregateFn Global) → Option (List Aggregate)
asked None = None
asked (Some v) = Some (map aggregate v.items)

-- fewer than 2^32, so the columns of their table are counted in 32 bits
abbrev pub are_few : Option (List Aggregate) → Bool
are_few None = true
are_few (Some aggregates) = nat_lt (length aggregates) (2 ^ 32)

abbrev pub zoned_options : ZonedLayoutOptions → ZonedOptions
zoned_options o = record { zone_len = o.block_size; aggregates = asked o.aggregate_fns; concurrency = o.concurrency }
