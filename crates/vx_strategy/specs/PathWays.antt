-- Writers of fields by path, as contracts see them.
use Rattle.std.specs.Prelude.{List, [], ◌∷◌}
use Rattle.vx_strategy_spec.specs.StrategyData.{StrategyList, no_ways, way_at}
use Rattle.vx_strategy.specs.declared.overrides.PathWriter.{PathWriter}

abbrev pub path_ways : List PathWriter → StrategyList
path_ways [] = no_ways
path_ways (w ∷ ws) = way_at w.path w.writer.item (path_ways ws)
