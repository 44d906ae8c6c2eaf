-- The forms of strategies in JSON; s reads the strategies within.
use Rattle.std.specs.Prelude.{ℕ, ◌^◌, ◌&&◌, nat_lt, bytes_eq, Bool, true, false, if◌then◌else◌, List, [], ◌∷◌, codes, Option, Some, None, option_map, option_and_then}
use Rattle.serde_json.specs.Data.{Data, null, boolean, number, string, array, object}
use Rattle.serde_json.specs.Find.{as_str}
use Rattle.vx_rules.specs.Blocks.{BlockOptions}
use Rattle.vx_rules.specs.Runs.{DictOptions}
use Rattle.vx_strategy_spec.specs.StrategyData.{StrategyData, StrategyList, Wraps, ZonedOptions, Grouping, by_blocks, by_bytes, into_one, flat, chunked, grouped, compressed, coded, zoned, structured, listed, tabled, no_ways, way_at, no_wraps, wrap_grouped, wrap_zoned}
use Rattle.vx_strategy_spec.specs.Admitted.{are_apart, is_admitted_grouping}
use Rattle.vx_strategy.specs.FlatViews.{default_flat}
use Rattle.vx_strategy.specs.Overridden.{PathWay}
use Rattle.vx_strategy.specs.PairWays.{NamedWay, with_writers}
use Rattle.vx_json.specs.Steps.{given, when}
use Rattle.vx_json.specs.Values.{all, at, both_at, whole, whole_below, or_null, pair, has_members, only_member}
use Rattle.vx_strategy_json.specs.Options.{flat_of, blocks_of, zones_of, dict_of, are_zones}

abbrev pub Reads : Type 0
Reads = Data → Option StrategyData

-- ---- strategies with one child

abbrev pub in_blocks : BlockOptions → StrategyData → Option StrategyData
in_blocks o w = when (is_admitted_grouping (by_blocks o)) (Some (grouped (by_blocks o) w))

abbrev pub joined : {A : Type 0} → Option (Option A) → Option A
joined None = None
joined (Some x) = x

unfoldable pub repartition_of : Reads → Data → Option StrategyData
repartition_of s d = when (has_members 5 d) (joined (given (option_map in_blocks (blocks_of d)) (at s (codes "child") d)))

abbrev pub in_bytes : StrategyData → ℕ → StrategyData
in_bytes w size = grouped (by_bytes size) w

unfoldable pub buffered_of : Reads → Data → Option StrategyData
buffered_of s d = when (has_members 2 d) (given (option_map in_bytes (at s (codes "child") d)) (at whole (codes "size") d))

abbrev pub in_images : StrategyData → ℕ → ℕ → Option StrategyData
in_images w which concurrency = when (nat_lt 0 concurrency) (Some (compressed which concurrency w))

unfoldable pub compress_of : Reads → Data → Option StrategyData
compress_of s d = when (has_members 3 d) (joined (given (given (option_map in_images (at s (codes "child") d)) (at (whole_below (2 ^ 32)) (codes "which") d)) (at whole (codes "concurrency") d)))

-- ---- strategies with more

abbrev pub in_zones : ZonedOptions → StrategyData → StrategyData → Option StrategyData
in_zones o child stats = when (are_zones o) (Some (zoned o child stats))

abbrev pub zoned_pair : ZonedOptions → StrategyData × StrategyData → Option StrategyData
zoned_pair o ways = in_zones o ways.0 ways.1

unfoldable pub zoned_of : Reads → Data → Option StrategyData
zoned_of s d = when (has_members 5 d) (joined (given (option_map zoned_pair (zones_of d)) (both_at s (codes "child") (codes "stats") d)))

-- codes and values, and what is no dictionary goes to
abbrev pub with_codes : DictOptions → StrategyData × StrategyData → StrategyData → StrategyData
with_codes o ways fallback = coded o ways.0 ways.1 fallback

unfoldable pub dict_form : Reads → Data → Option StrategyData
dict_form s d = when (has_members 6 d) (given (given (option_map with_codes (dict_of d)) (both_at s (codes "codes") (codes "values") d)) (at s (codes "fallback") d))

-- elements and offsets, and validity and what is no list goes to
abbrev pub with_elements : StrategyData × StrategyData → StrategyData × StrategyData → StrategyData
with_elements ways others = listed ways.0 ways.1 others.0 others.1

unfoldable pub list_of : Reads → Data → Option StrategyData
list_of s d = when (has_members 4 d) (given (option_map with_elements (both_at s (codes "elements") (codes "offsets") d)) (both_at s (codes "validity") (codes "fallback") d))

-- a later writer of a name replaces the earlier one
abbrev pub with_fields : StrategyData → StrategyData → List NamedWay → StrategyData
with_fields validity default fields = structured validity default (with_writers no_ways fields)

abbrev pub fields_pair : StrategyData × StrategyData → List NamedWay → StrategyData
fields_pair ways fields = with_fields ways.0 ways.1 fields

unfoldable pub struct_of : Reads → Data → Option StrategyData
struct_of s d = when (has_members 3 d) (given (option_map fields_pair (both_at s (codes "validity") (codes "default") d)) (at (all (pair as_str s)) (codes "fields") d))

-- ---- tables

-- one wrapper of a list layout
pub data Wrap : Type 0 where
  around_grouped : Grouping → Wrap
  -- with the strategy of its table
  around_zoned : ZonedOptions → StrategyData → Wrap

abbrev pub grouped_around : BlockOptions → Wrap
grouped_around o = around_grouped (by_blocks o)

abbrev pub buffered_around : ℕ → Wrap
buffered_around size = around_grouped (by_bytes size)

abbrev pub zones_around : ZonedOptions → StrategyData → Wrap
zones_around o stats = around_zoned o stats

unfoldable pub blocks_around : Data → Option Wrap
blocks_around d = when (has_members 4 d) (option_map grouped_around (blocks_of d))

unfoldable pub bytes_around : Data → Option Wrap
bytes_around d = when (has_members 1 d) (option_map buffered_around (at whole (codes "size") d))

unfoldable pub zoned_around : Reads → Data → Option Wrap
zoned_around s d = when (has_members 4 d) (given (option_map zones_around (zones_of d)) (at s (codes "stats") d))

unfoldable pub kind_of_wrap : Reads → List ℕ × Data → Option Wrap
kind_of_wrap s m =
    if bytes_eq m.0 (codes "repartition") then blocks_around m.1 else
    (if bytes_eq m.0 (codes "buffered") then bytes_around m.1 else
    when (bytes_eq m.0 (codes "zoned")) (zoned_around s m.1))

unfoldable pub wrap_of : Reads → Data → Option Wrap
wrap_of s d = option_and_then (kind_of_wrap s) (only_member d)

-- the first stands outermost
abbrev pub wraps_of : List Wrap → Wraps
wraps_of [] = no_wraps
wraps_of (around_grouped g ∷ ws) = wrap_grouped g (wraps_of ws)
wraps_of (around_zoned o stats ∷ ws) = wrap_zoned o stats (wraps_of ws)

abbrev pub can_wrap : Wrap → Bool
can_wrap (around_grouped g) = is_admitted_grouping g
can_wrap (around_zoned o stats) = are_zones o

abbrev pub all_can_wrap : List Wrap → Bool
all_can_wrap [] = true
all_can_wrap (w ∷ ws) = can_wrap w && all_can_wrap ws

abbrev pub overrides_of : List PathWay → StrategyList
overrides_of [] = no_ways
overrides_of (p ∷ ps) = way_at p.0 p.1 (overrides_of ps)

-- with lists laid out as lists in wrappers, or not
abbrev pub with_lists : StrategyData → StrategyData → StrategyList → Option (List Wrap) → Option StrategyData
with_lists validity leaf ws None = Some (tabled validity leaf ws false no_wraps)
with_lists validity leaf ws (Some wraps) = when (all_can_wrap wraps) (Some (tabled validity leaf ws true (wraps_of wraps)))

abbrev pub without_lists : StrategyData → StrategyData → List PathWay → Option StrategyData
without_lists validity leaf paths = when (are_apart (overrides_of paths)) (Some (tabled validity leaf (overrides_of paths) false no_wraps))

-- no override is the root's, and none overlaps another
abbrev pub with_overrides : StrategyData → StrategyData → List PathWay → Option (List Wrap) → Option StrategyData
with_overrides validity leaf paths lists = when (are_apart (overrides_of paths)) (with_lists validity leaf (overrides_of paths) lists)

abbrev pub table_pair : StrategyData × StrategyData → List PathWay → Option (List Wrap) → Option StrategyData
table_pair ways paths lists = with_overrides ways.0 ways.1 paths lists

unfoldable pub table_of : Reads → Data → Option StrategyData
table_of s d = when (has_members 4 d) (joined (given (given (option_map table_pair (both_at s (codes "validity") (codes "leaf") d)) (at (all (pair (all as_str) s)) (codes "overrides") d)) (at (or_null (all (wrap_of s))) (codes "lists") d)))

-- ---- all

-- the strategy of the kind that is named
unfoldable pub kind_of : Reads → List ℕ × Data → Option StrategyData
kind_of s m =
    if bytes_eq m.0 (codes "flat") then option_map flat (flat_of m.1) else
    (if bytes_eq m.0 (codes "chunked") then option_map chunked (s m.1) else
    (if bytes_eq m.0 (codes "collect") then option_map (grouped into_one) (s m.1) else
    (if bytes_eq m.0 (codes "struct") then struct_of s m.1 else
    (if bytes_eq m.0 (codes "list") then list_of s m.1 else
    (if bytes_eq m.0 (codes "dict") then dict_form s m.1 else
    (if bytes_eq m.0 (codes "zoned") then zoned_of s m.1 else
    (if bytes_eq m.0 (codes "repartition") then repartition_of s m.1 else
    (if bytes_eq m.0 (codes "buffered") then buffered_of s m.1 else
    (if bytes_eq m.0 (codes "compress") then compress_of s m.1 else
    when (bytes_eq m.0 (codes "table")) (table_of s m.1))))))))))

-- an object of one member, or "flat" alone: the flat strategy with its default options
unfoldable pub form : Reads → Data → Option StrategyData
form s null = None
form s (boolean b) = None
form s (number x) = None
form s (string t) = when (bytes_eq t (codes "flat")) (Some default_flat)
form s (array ds) = None
form s (object ms) = option_and_then (kind_of s) (only_member (object ms))
