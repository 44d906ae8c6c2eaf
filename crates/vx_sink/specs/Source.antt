-- What a source answers.
use Rattle.std.specs.Prelude.{◌≡◌, ℕ, ◌<◌, ◌≤◌, Bool, true, false, List, [], ◌∷◌, Option, Some, None, Result, Ok, Err}
use Rattle.vx_model.specs.ChunkData.{ChunkData}
use Rattle.vx_chunk.specs.declared.node.Chunk.{Chunk}
use Rattle.vx_chunk.specs.ChunkView.{piece}
use Rattle.vx_sink.specs.declared.source.SourceError.{SourceError}
use Rattle.vx_sink.specs.declared.source.SourceError.TheVariants.{Failed, OutOfMemory}
use Rattle.vx_fault.specs.Told.{before_told, NoneTold}

abbrev pub source_failed : Result (Option Chunk) SourceError → Bool
source_failed (Ok x) = false
source_failed (Err Failed) = true
source_failed (Err OutOfMemory) = false

-- a batch lowers the number of batches left, the end doesn't raise it, and an error leaves it
abbrev pub Falls : ℕ → ℕ → Result (Option Chunk) SourceError → Type 0
Falls before now (Ok (Some b)) = now < before
Falls before now (Ok None) = now ≤ before
Falls before now (Err e) = now ≡ before

-- a batch is the first of those told; at the end none is left; an error changes nothing
abbrev pub GivesNext : Option (List ChunkData) → Option (List ChunkData) → Result (Option Chunk) SourceError → Type 0
GivesNext before now (Ok (Some b)) = before ≡ before_told (piece b ∷ []) now
GivesNext before now (Ok None) = (now ≡ before) × NoneTold now
GivesNext before now (Err e) = now ≡ before
