-- Strategies of one kind, as contracts see them.
use Rattle.std.specs.Int.NonZero.{non_zero_u64_get}
use Rattle.vx_strategy_spec.specs.StrategyData.{StrategyData, chunked, grouped, by_blocks, by_bytes, into_one, compressed, coded, zoned, structured, listed, tabled}
use Rattle.vx_strategy_options.specs.OptionViews.{dict_options}
use Rattle.vx_strategy_options.specs.RuleViews.{block_rule, zone_rule}
use Rattle.vx_strategy.specs.FieldWays.{field_ways}
use Rattle.vx_strategy.specs.WrapViews.{wraps}
use Rattle.vx_strategy.specs.declared.chunked.ChunkedLayoutStrategy.{ChunkedLayoutStrategy}
use Rattle.vx_strategy.specs.declared.compressing.CompressingStrategy.{CompressingStrategy}
use Rattle.vx_strategy.specs.declared.dict.DictStrategy.{DictStrategy}
use Rattle.vx_strategy.specs.declared.grouping.RepartitionStrategy.{RepartitionStrategy}
use Rattle.vx_strategy.specs.declared.grouping.BufferedStrategy.{BufferedStrategy}
use Rattle.vx_strategy.specs.declared.grouping.CollectStrategy.{CollectStrategy}
use Rattle.vx_strategy.specs.declared.list.ListLayoutStrategy.{ListLayoutStrategy}
use Rattle.vx_strategy.specs.declared.structs.StructStrategy.{StructStrategy}
use Rattle.vx_strategy.specs.declared.table.TableStrategy.{TableStrategy}
use Rattle.vx_strategy.specs.declared.zoned.ZonedStrategy.{ZonedStrategy}

abbrev pub chunked_way : ChunkedLayoutStrategy → StrategyData
chunked_way s = chunked s.child.item

abbrev pub compressed_way : CompressingStrategy → StrategyData
compressed_way s = compressed s.which (non_zero_u64_get s.concurrency) s.child.item

abbrev pub dict_way : DictStrategy → StrategyData
dict_way s = coded (dict_options s.constraints s.probe) s.codes.item s.values.item s.fallback.item

abbrev pub repartition_way : RepartitionStrategy → StrategyData
repartition_way s = grouped (by_blocks (block_rule s.rule)) s.child.item

abbrev pub buffered_way : BufferedStrategy → StrategyData
buffered_way s = grouped (by_bytes s.buffer_size) s.child.item

abbrev pub collect_way : CollectStrategy → StrategyData
collect_way s = grouped into_one s.child.item

abbrev pub list_way : ListLayoutStrategy → StrategyData
list_way s = listed s.elements.item s.offsets.item s.validity.item s.fallback.item

abbrev pub struct_way : StructStrategy → StrategyData
struct_way s = structured s.validity.item s.default.item (field_ways s.writers.items)

abbrev pub zoned_way : ZonedStrategy → StrategyData
zoned_way s = zoned (zone_rule s.rule) s.child.item s.stats.item

abbrev pub table_way : TableStrategy → StrategyData
table_way s = tabled s.validity.item s.leaf.item s.overrides.item s.list_layout (wraps s.wrappers.value.items)
