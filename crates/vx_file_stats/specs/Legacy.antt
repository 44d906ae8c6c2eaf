-- Tables of statistics of the old form, read as tables of zones.
use Rattle.std.specs.Prelude.{List, [], ◌∷◌, ◌++◌, length, take, drop, Option, Some}
use Rattle.vx_model.specs.Words.{joined_by}
use Rattle.vx_model.specs.Ty.{Ty}
use Rattle.vx_model.specs.ChunkData.{ChunkData, struct_piece, pieces_of, piece_type, cells}
use Rattle.vx_layout_spec.specs.Parts.{field_pieces}
use Rattle.vx_chunk_cells.specs.Parts.{struct_fields}
use Rattle.vx_aggregate_spec.specs.Aggregate.{Aggregate}
use Rattle.vx_aggregate_spec.specs.Tables.{stats_table}
use Rattle.vx_aggregate.specs.declared.stat.Stat.{Stat}
use Rattle.vx_aggregate.specs.Stats.{stat_aggregate, stat_state}
use Rattle.vx_aggregate.specs.Tables.{stat_fields}

-- where a statistic has an aggregate and its values have a type
abbrev pub held_by : Option Aggregate → Option Ty → List Aggregate
held_by (Some a) (Some t) = a ∷ []
held_by a t = []

abbrev pub held_stat : Ty → Stat → List Aggregate
held_stat t s = held_by (stat_aggregate s) (stat_state s t)

abbrev pub legacy_aggregates : Ty → List Stat → List Aggregate
legacy_aggregates t ss = joined_by (held_stat t) ss

-- the first of the columns, where there is an aggregate for it
abbrev pub taken : List Aggregate → List ChunkData → List ChunkData
taken [] ps = []
taken (a ∷ aggregates) ps = take 1 ps

-- the columns of the values; flags, and statistics without an aggregate, are left out
abbrev pub legacy_columns : Ty → List Stat → List ChunkData → List ChunkData
legacy_columns t [] ps = []
legacy_columns t (s ∷ ss) ps = taken (held_stat t s) ps ++ legacy_columns t ss (drop (length (stat_fields t s)) ps)

-- a table of zones of these columns
abbrev pub legacy_piece : Ty → List Stat → ChunkData → ChunkData
legacy_piece t ss p =
    struct_piece (stats_table t (legacy_aggregates t ss)) (pieces_of (legacy_columns t ss (field_pieces (struct_fields (piece_type p)) p))) [] (length (cells p))
