-- A chunk that was made, or its refusal, to its reader.
use Rattle.std.specs.Prelude.{Result, Ok, Err}
use Rattle.vx_model.specs.ChunkData.{ChunkData}
use Rattle.vx_chunk.specs.declared.error.ChunkError.{ChunkError}
use Rattle.vx_chunk.specs.declared.error.ChunkError.TheVariants as chunks
use Rattle.vx_json.specs.declared.error.JsonError.{JsonError}
use Rattle.vx_json.specs.declared.error.JsonError.TheVariants as errors

abbrev pub of_made : Result ChunkData ChunkError → Result ChunkData JsonError
of_made (Ok c) = Ok c
of_made (Err (chunks.TooLarge n)) = Err errors.Wrong
of_made (Err chunks.OutOfMemory) = Err errors.OutOfMemory
