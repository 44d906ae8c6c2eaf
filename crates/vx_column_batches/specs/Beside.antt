-- The chunks of batches, column by column.
use Rattle.std.specs.Prelude.{ℕ, zero, suc, List, [], ◌∷◌, ◌++◌, map}
use Rattle.vx_model.specs.Words.{tail}
use Rattle.vx_model.specs.Ty.{Ty, nullable}
use Rattle.vx_model.specs.ChunkData.{ChunkData}
use Rattle.vx_chunk_cells.specs.Parts.{struct_fields}
use Rattle.vx_rules.specs.Columns.{struct_columns, head_piece}
use Rattle.vx_react.specs.Splitter.{struct_width}

-- the columns of a chunk of a struct type, and how many there are
abbrev pub columns_of : Ty → ChunkData → List ChunkData
columns_of t p = struct_columns (struct_fields t) (nullable t) p

abbrev pub width_of : Ty → ℕ
width_of t = struct_width (struct_fields t) (nullable t)

-- of each of the first so many columns, where these are the columns of each batch
abbrev pub chunks_beside : ℕ → List (List ChunkData) → List (List ChunkData)
chunks_beside zero rows = []
chunks_beside (suc k) rows = map head_piece rows ∷ chunks_beside k (map tail rows)

-- a chunk behind each list, as far as there are chunks
abbrev pub dealt : List (List ChunkData) → List ChunkData → List (List ChunkData)
dealt [] ps = []
dealt (c ∷ cs) [] = c ∷ cs
dealt (c ∷ cs) (p ∷ ps) = (c ++ (p ∷ [])) ∷ dealt cs ps
