-- What is told of the batches that a source gives.
use Rattle.std.specs.Prelude.{◌≡◌, ℕ, ◌+◌, ◌-◌, ◌^◌, min, List, [], ◌∷◌, length, Option, Some, None, Result, Ok, Err}
use Rattle.vx_model.specs.ChunkData.{cells}
use Rattle.vx_chunk.specs.declared.node.Chunk.{Chunk}
use Rattle.vx_chunk.specs.ChunkView.{piece}
use Rattle.vx_sink.specs.declared.source.SourceError.{SourceError}
use Rattle.vx_fault.specs.Told.{then_told}
use Rattle.vx_progress.specs.Taken.{Taken}

-- the count of so many and so many more
abbrev pub count_more : ℕ → ℕ → ℕ
count_more n more = min (n + more) (2 ^ 64 - 1)

-- a batch that is given is one more, with its rows; anything else counts nothing
abbrev pub CountsOn : ℕ → ℕ → ℕ → ℕ → Result (Option Chunk) SourceError → Type 0
CountsOn batches rows batches_then rows_then (Ok (Some b)) = (batches_then ≡ count_more batches 1) × (rows_then ≡ count_more rows (length (cells (piece b))))
CountsOn batches rows batches_then rows_then (Ok None) = (batches_then ≡ batches) × (rows_then ≡ rows)
CountsOn batches rows batches_then rows_then (Err e) = (batches_then ≡ batches) × (rows_then ≡ rows)

-- Of a batch that is given these numbers of batches and of rows are told, and some number of segments; of anything else nothing.
abbrev pub Tells : ℕ → ℕ → Option (List Taken) → Option (List Taken) → Result (Option Chunk) SourceError → Type 0
Tells batches rows before now (Ok (Some b)) = (segments : ℕ) × (now ≡ then_told before (record { batches = batches; rows = rows; segments = segments } ∷ []))
Tells batches rows before now (Ok None) = now ≡ before
Tells batches rows before now (Err e) = now ≡ before
