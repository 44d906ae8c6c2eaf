-- A strategy as contracts see it.
use Rattle.vx_strategy_spec.specs.StrategyData.{StrategyData, flat}
use Rattle.vx_strategy.specs.FlatViews.{flat_options}
use Rattle.vx_strategy.specs.NodeViews.{chunked_way, compressed_way, dict_way, repartition_way, buffered_way, collect_way, list_way, struct_way, zoned_way, table_way}
use Rattle.vx_strategy.specs.declared.strategy.Strategy.{Strategy}
use Rattle.vx_strategy.specs.declared.strategy.Strategy.TheVariants.{Flat, Chunked, Struct, List as ListStrategy, Dict, Zoned, Repartition, Buffered, Collect, Compressing, Table}

abbrev pub strategy_data : Strategy → StrategyData
strategy_data (Flat s) = flat (flat_options s)
strategy_data (Chunked s) = chunked_way s
strategy_data (Struct s) = struct_way s
strategy_data (ListStrategy s) = list_way s
strategy_data (Dict s) = dict_way s
strategy_data (Zoned s) = zoned_way s
strategy_data (Repartition s) = repartition_way s
strategy_data (Buffered s) = buffered_way s
strategy_data (Collect s) = collect_way s
strategy_data (Compressing s) = compressed_way s
strategy_data (Table s) = table_way s
