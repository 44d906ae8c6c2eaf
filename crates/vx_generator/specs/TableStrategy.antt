-- How the generated table is written: each column in blocks of a zone's rows, which are recorded, as runs of a dictionary.
use Rattle.std.specs.Prelude.{true, false, None}
use Rattle.vx_strategy_spec.specs.StrategyData.{StrategyData, flat, chunked, grouped, by_blocks, by_bytes, compressed, coded, zoned, tabled, no_ways, no_wraps}

-- one chunk, one segment
abbrev pub one_segment : StrategyData
one_segment = flat (record { padding = true; inline = false })

-- a segment each chunk, held back up to a mebibyte
abbrev pub segments : StrategyData
segments = grouped (by_bytes 1048576) (chunked one_segment)

-- codes and values, where the first block's image is a dictionary; else the images of the blocks
abbrev pub coded_blocks : StrategyData
coded_blocks = coded (record { max_bytes = 1048576; max_len = 65535; probe = 1 }) segments one_segment (compressed 1 1 segments)

-- a record of each block, of the aggregates that are recorded where nothing else is asked for
abbrev pub zoned_blocks : StrategyData
zoned_blocks = zoned (record { zone_len = 8192; aggregates = None; concurrency = 1 }) coded_blocks one_segment

abbrev pub column_blocks : StrategyData
column_blocks = grouped (by_blocks (record { minimum = 0; multiple = 8192; target = None; canonicalize = false })) zoned_blocks

-- the struct field by field
abbrev pub table_strategy : StrategyData
table_strategy = tabled one_segment column_blocks no_ways false no_wraps
