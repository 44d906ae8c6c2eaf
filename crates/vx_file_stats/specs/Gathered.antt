-- What an accumulator has gathered, and why there is none.
use Rattle.std.specs.Prelude.{◌≡◌, ℕ, true, false, List, [], ◌∷◌, map, Option, Some, None, IfSome, Result, Ok, Err}
use Rattle.vx_model.specs.Ty.{Ty}
use Rattle.vx_model.specs.TyView.{ty}
use Rattle.vx_model.specs.ChunkData.{ChunkData, piece_type}
use Rattle.vx_chunk.specs.declared.node.Chunk.{Chunk}
use Rattle.vx_chunk.specs.ChunkView.{piece}
use Rattle.vx_sink.specs.declared.source.SourceError.{SourceError}
use Rattle.vx_aggregate.specs.declared.stat.Stat.{Stat}
use Rattle.vx_file_stats.specs.FileStats.{is_nullable_struct, column_types, column_pieces, of_type}
use Rattle.vx_file_stats.specs.Gathering.{column_data, columns_gathered}
use Rattle.vx_file_stats.specs.declared.accumulator.FileStatsAccumulator.{FileStatsAccumulator}
use Rattle.vx_file_stats.specs.declared.error.StatsError.{StatsError}
use Rattle.vx_file_stats.specs.declared.error.StatsError.TheVariants.{NullableStruct, OutOfMemory}

-- the statistics that it was asked for, the bytes of its bounds, and the type of the batches
abbrev pub asked_of : FileStatsAccumulator → List Stat
asked_of a = a.stats.items

abbrev pub limit_of : FileStatsAccumulator → ℕ
limit_of a = a.limit

abbrev pub type_of : FileStatsAccumulator → Ty
type_of a = ty a.dtype

-- each batch's columns have these types
abbrev pub AllTyped : List Ty → List (List ChunkData) → Type 0
AllTyped ts [] = Unit {0}
AllTyped ts (ps ∷ rows) = (map piece_type ps ≡ ts) × AllTyped ts rows

-- It has gathered what these batches tell, the last one first. Once memory ran out for a batch it has nothing, and will say so.
pub record Gathered (a : FileStatsAccumulator) (ps : List ChunkData) : Type 0 where
  pub typed : AllTyped (column_types (type_of a)) (map column_pieces (of_type (type_of a) ps))
  pub columns : IfSome a.columns (λ cs. map column_data cs.items ≡ columns_gathered (asked_of a) (limit_of a) (column_types (type_of a)) (map column_pieces (of_type (type_of a) ps)))

-- the batches given, with one more where an answer has one
abbrev pub given_then : Result (Option Chunk) SourceError → List ChunkData → List ChunkData
given_then (Ok (Some b)) ps = piece b ∷ ps
given_then (Ok None) ps = ps
given_then (Err e) ps = ps

-- the type is a nullable struct; for want of memory it isn't refused as one
abbrev pub IsRefused : Ty → StatsError → Type 0
IsRefused t NullableStruct = is_nullable_struct t ≡ true
IsRefused t OutOfMemory = is_nullable_struct t ≡ false
