-- What a compressor answers.
use Rattle.std.specs.Prelude.{Bool, true, false, Result, Ok, Err}
use Rattle.vx_chunk.specs.declared.node.Chunk.{Chunk}
use Rattle.vx_sink.specs.declared.compressor.CompressError.{CompressError}
use Rattle.vx_sink.specs.declared.compressor.CompressError.TheVariants.{Failed, OutOfMemory}

abbrev pub compress_failed : Result Chunk CompressError → Bool
compress_failed (Ok x) = false
compress_failed (Err Failed) = true
compress_failed (Err OutOfMemory) = false
