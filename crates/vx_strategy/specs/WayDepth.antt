-- How deep a strategy is.
use Rattle.std.specs.Prelude.{ℕ, ◌+◌, max}
use Rattle.vx_strategy_spec.specs.StrategyData.{StrategyData, StrategyList, Wraps, flat, chunked, grouped, compressed, coded, zoned, structured, listed, tabled, no_ways, way_at, no_wraps, wrap_grouped, wrap_zoned}

abbrev mutual
  pub depth : StrategyData → ℕ
  depth (flat o) = 0
  depth (chunked w) = depth w + 1
  depth (grouped g w) = depth w + 1
  depth (compressed which room w) = depth w + 1
  depth (coded o c v f) = max (depth c + 1) (max (depth v + 1) (depth f + 1))
  depth (zoned o w stats) = max (depth w + 1) (depth stats + 1)
  depth (structured v d ws) = max (depth v + 1) (max (depth d + 1) (depths ws))
  depth (listed e o v f) = max (max (depth e + 1) (depth o + 1)) (max (depth v + 1) (depth f + 1))
  depth (tabled v l ws lists wraps) = max (max (depth v + 1) (depth l + 1)) (max (depths ws + 1) (wraps_depth wraps))

  pub depths : StrategyList → ℕ
  depths no_ways = 0
  depths (way_at path w ws) = max (depth w + 1) (depths ws)

  pub wraps_depth : Wraps → ℕ
  wraps_depth no_wraps = 0
  wraps_depth (wrap_grouped g ws) = wraps_depth ws
  wraps_depth (wrap_zoned o stats ws) = max (depth stats + 1) (wraps_depth ws)
