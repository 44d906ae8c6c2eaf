-- Streams of chunks under paths.
use Rattle.std.specs.Prelude.{ℕ, List, [], ◌∷◌, ◌++◌}
use Rattle.vx_model.specs.Ty.{Ty}
use Rattle.vx_model.specs.CellData.{CellData}
use Rattle.vx_model.specs.ChunkData.{ChunkData, cells}
use Rattle.vx_layout_spec.specs.Real.{Of}

-- a path and its chunk
abbrev pub Chunk : Type 0
Chunk = List ℕ × ChunkData

abbrev pub chunk_paths : List Chunk → List (List ℕ)
chunk_paths [] = []
chunk_paths (c ∷ cs) = c.0 ∷ chunk_paths cs

-- the cells of a stream
abbrev pub stream_cells : List Chunk → List CellData
stream_cells [] = []
stream_cells (c ∷ cs) = cells c.1 ++ stream_cells cs

-- the cells of several chunks
abbrev pub piece_cells : List ChunkData → List CellData
piece_cells [] = []
piece_cells (p ∷ ps) = cells p ++ piece_cells ps

-- each chunk is a whole one of the type
abbrev pub Chunks : Ty → List Chunk → Type 0
Chunks t [] = Unit {0}
Chunks t (c ∷ cs) = Of t c.1 × Chunks t cs

abbrev pub PiecesOf : Ty → List ChunkData → Type 0
PiecesOf t [] = Unit {0}
PiecesOf t (p ∷ ps) = Of t p × PiecesOf t ps
