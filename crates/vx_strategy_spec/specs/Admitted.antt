-- The strategies that constructors make.
use Rattle.std.specs.Prelude.{ℕ, ◌^◌, ◌&&◌, nat_lt, not, Bool, true, List, length, Option, Some, None}
use Rattle.vx_model.specs.Words.{all_by}
pub use Rattle.vx_field_path.specs.Paths.{is_root, overlaps}
use Rattle.vx_aggregate_spec.specs.Aggregate.{Aggregate, has_options}
use Rattle.vx_strategy_spec.specs.StrategyData.{StrategyData, StrategyList, Wraps, ZonedOptions, Grouping, by_blocks, by_bytes, into_one, flat, chunked, grouped, compressed, coded, zoned, structured, listed, tabled, no_ways, way_at, no_wraps, wrap_grouped, wrap_zoned}

abbrev pub overlaps_none : List (List ℕ) → StrategyList → Bool
overlaps_none p no_ways = true
overlaps_none p (way_at q w ws) = not (overlaps p q) && overlaps_none p ws

-- no path of an override is the root, and none overlaps another
abbrev pub are_apart : StrategyList → Bool
are_apart no_ways = true
are_apart (way_at p w ws) = not (is_root p) && (overlaps_none p ws && are_apart ws)

-- a block length of at least 1
abbrev pub is_admitted_grouping : Grouping → Bool
is_admitted_grouping (by_blocks o) = nat_lt 0 o.multiple
is_admitted_grouping (by_bytes size) = true
is_admitted_grouping into_one = true

-- fewer than 2^32, with bounds and numbers of blocks from 1 to 2^32 - 1
abbrev pub are_admitted_aggregates : Option (List Aggregate) → Bool
are_admitted_aggregates None = true
are_admitted_aggregates (Some aggregates) = all_by has_options aggregates && nat_lt (length aggregates) (2 ^ 32)

-- zones of 1 to 2^32 - 1 rows, and a concurrency of at least 1
abbrev pub is_admitted_zoned : ZonedOptions → Bool
is_admitted_zoned o = nat_lt 0 o.zone_len && (nat_lt o.zone_len (2 ^ 32) && (nat_lt 0 o.concurrency && are_admitted_aggregates o.aggregates))

abbrev mutual
  pub is_admitted : StrategyData → Bool
  is_admitted (flat o) = true
  is_admitted (chunked w) = is_admitted w
  is_admitted (grouped g w) = is_admitted_grouping g && is_admitted w
  is_admitted (compressed which room w) = nat_lt 0 room && is_admitted w
  is_admitted (coded o c v f) = is_admitted c && (is_admitted v && is_admitted f)
  is_admitted (zoned o w stats) = is_admitted_zoned o && (is_admitted w && is_admitted stats)
  is_admitted (structured v d ws) = is_admitted v && (is_admitted d && are_admitted ws)
  is_admitted (listed e o v f) = is_admitted e && (is_admitted o && (is_admitted v && is_admitted f))
  is_admitted (tabled v l ws lists wraps) = is_admitted v && (is_admitted l && (are_apart ws && (are_admitted ws && wraps_admitted wraps)))

  pub are_admitted : StrategyList → Bool
  are_admitted no_ways = true
  are_admitted (way_at p w ws) = is_admitted w && are_admitted ws

  pub wraps_admitted : Wraps → Bool
  wraps_admitted no_wraps = true
  wraps_admitted (wrap_grouped g ws) = is_admitted_grouping g && wraps_admitted ws
  wraps_admitted (wrap_zoned o stats ws) = is_admitted_zoned o && (is_admitted stats && wraps_admitted ws)
