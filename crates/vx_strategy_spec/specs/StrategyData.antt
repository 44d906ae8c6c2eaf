-- Strategies, as contracts see them.
use Rattle.std.specs.Prelude.{ℕ, Bool, List, Option, Some, None}
use Rattle.vx_aggregate_spec.specs.Aggregate.{Aggregate}
use Rattle.vx_rules.specs.Blocks.{BlockOptions}
use Rattle.vx_rules.specs.Runs.{DictOptions}

pub record FlatOptions : Type 0 where
  pub padding : Bool
  pub inline : Bool

-- how a stream is regrouped
pub data Grouping : Type 0 where
  -- into blocks of rows
  by_blocks : BlockOptions → Grouping
  -- held up to so many bytes
  by_bytes : ℕ → Grouping
  -- into one chunk
  into_one : Grouping

pub record ZonedOptions : Type 0 where
  -- rows of a zone
  pub zone_len : ℕ
  -- None: those that are recorded where nothing else is asked for
  pub aggregates : Option (List Aggregate)
  pub concurrency : ℕ

mutual
  pub data StrategyData : Type 0 where
    flat : FlatOptions → StrategyData
    chunked : StrategyData → StrategyData
    grouped : Grouping → StrategyData → StrategyData
    -- the compressor's number, and how many chunks may wait behind it
    compressed : ℕ → ℕ → StrategyData → StrategyData
    -- codes, values, what is no dictionary goes to
    coded : DictOptions → StrategyData → StrategyData → StrategyData → StrategyData
    -- child, table
    zoned : ZonedOptions → StrategyData → StrategyData → StrategyData
    -- validity, default, fields by a path of one name
    structured : StrategyData → StrategyData → StrategyList → StrategyData
    -- elements, offsets, validity, what another type goes to
    listed : StrategyData → StrategyData → StrategyData → StrategyData → StrategyData
    -- validity, leaf, overrides by path, whether lists are laid out as lists, and in what wrappers
    tabled : StrategyData → StrategyData → StrategyList → Bool → Wraps → StrategyData

  -- strategies by paths of names
  pub data StrategyList : Type 0 where
    no_ways : StrategyList
    way_at : List (List ℕ) → StrategyData → StrategyList → StrategyList

  -- the first stands outermost
  pub data Wraps : Type 0 where
    no_wraps : Wraps
    wrap_grouped : Grouping → Wraps → Wraps
    -- with the strategy of its table
    wrap_zoned : ZonedOptions → StrategyData → Wraps → Wraps

-- the flat strategy that a chunk alone ends at, where only chunking stands above it
abbrev pub leaf : StrategyData → Option FlatOptions
leaf (flat o) = Some o
leaf (chunked w) = leaf w
leaf w = None
