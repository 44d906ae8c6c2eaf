-- Options of strategies in JSON. Each key is asked for; whether there are others is asked elsewhere.
use Rattle.std.specs.Prelude.{ℕ, ◌^◌, ◌&&◌, nat_lt, bytes_eq, Bool, if◌then◌else◌, List, codes, Option, Some, None, option_map, option_and_then}
use Rattle.serde_json.specs.Data.{Data, null, boolean, number, string, array, object}
use Rattle.serde_json.specs.Find.{as_bool, as_str}
use Rattle.vx_aggregate_spec.specs.Aggregate.{Aggregate, maximum, minimum, bounded_maximum, bounded_minimum, null_count, sum, bloom}
use Rattle.vx_rules.specs.Blocks.{BlockOptions}
use Rattle.vx_rules.specs.Runs.{DictOptions}
use Rattle.vx_strategy_spec.specs.StrategyData.{FlatOptions, ZonedOptions}
use Rattle.vx_json.specs.Steps.{given, when}
use Rattle.vx_json.specs.Values.{all, at, whole, whole_below, or_null, pair, has_members}

-- ---- aggregates

unfoldable pub named_aggregate : List ℕ → Option Aggregate
named_aggregate name = if bytes_eq name (codes "max") then Some maximum else (if bytes_eq name (codes "min") then Some minimum else (if bytes_eq name (codes "null_count") then Some null_count else when (bytes_eq name (codes "sum")) (Some sum)))

-- of a number of bytes or blocks
unfoldable pub numbered_aggregate : List ℕ → ℕ → Option Aggregate
numbered_aggregate name n = if bytes_eq name (codes "bounded_max") then Some (bounded_maximum n) else (if bytes_eq name (codes "bounded_min") then Some (bounded_minimum n) else when (bytes_eq name (codes "bloom_filter")) (Some (bloom n)))

abbrev pub some_number : ℕ → Option ℕ
some_number n = when (nat_lt 0 n) (Some n)

-- a number from 1 to 2^32 - 1
unfoldable pub bound : Data → Option ℕ
bound d = option_and_then some_number (whole_below (2 ^ 32) d)

abbrev pub of_pair : List ℕ × ℕ → Option Aggregate
of_pair p = numbered_aggregate p.0 p.1

unfoldable pub bounded : Data → Option Aggregate
bounded d = option_and_then of_pair (pair as_str bound d)

unfoldable pub aggregate_of : Data → Option Aggregate
aggregate_of null = None
aggregate_of (boolean b) = None
aggregate_of (number x) = None
aggregate_of (string s) = named_aggregate s
aggregate_of (array ds) = bounded (array ds)
aggregate_of (object ms) = None

-- ---- options

abbrev pub flat_made : Bool → Bool → FlatOptions
flat_made padding inline = record { padding = padding; inline = inline }

unfoldable pub flat_of : Data → Option FlatOptions
flat_of d = when (has_members 2 d) (given (option_map flat_made (at as_bool (codes "padding") d)) (at as_bool (codes "inline") d))

abbrev pub blocks_made : ℕ → ℕ → Option ℕ → Bool → BlockOptions
blocks_made least rows target canonicalize = record { minimum = least; multiple = rows; target = target; canonicalize = canonicalize }

unfoldable pub blocks_of : Data → Option BlockOptions
blocks_of d = given (given (given (option_map blocks_made (at whole (codes "minimum") d)) (at whole (codes "rows") d)) (at (or_null whole) (codes "target") d)) (at as_bool (codes "canonicalize") d)

abbrev pub zones_made : ℕ → Option (List Aggregate) → ℕ → ZonedOptions
zones_made zone aggregates concurrency = record { zone_len = zone; aggregates = aggregates; concurrency = concurrency }

unfoldable pub zones_of : Data → Option ZonedOptions
zones_of d = given (given (option_map zones_made (at whole (codes "zone") d)) (at (or_null (all aggregate_of)) (codes "aggregates") d)) (at whole (codes "concurrency") d)

abbrev pub dict_made : ℕ → ℕ → ℕ → DictOptions
dict_made max_bytes max_len probe = record { max_bytes = max_bytes; max_len = max_len; probe = probe }

unfoldable pub dict_of : Data → Option DictOptions
dict_of d = given (given (option_map dict_made (at whole (codes "max_bytes") d)) (at (whole_below (2 ^ 16)) (codes "max_len") d)) (at (whole_below (2 ^ 32)) (codes "probe") d)

-- ---- what constructors refuse

-- zones of 1 to 2^32 - 1 rows, and a concurrency of at least 1
abbrev pub are_zones : ZonedOptions → Bool
are_zones o = nat_lt 0 o.zone_len && (nat_lt o.zone_len (2 ^ 32) && nat_lt 0 o.concurrency)
