-- A source's refusals, as errors of a write.
use Rattle.std.proofs.Common.{◌≡◌, Option, List}
use Rattle.vx_model.specs.Ty.{Ty}
use Rattle.vx_model.specs.ChunkData.{ChunkData}
use Rattle.vx_sink.specs.declared.source.SourceError.{SourceError}
use Rattle.vx_sink.specs.declared.source.SourceError.TheVariants as source
use Rattle.vx_write_answer.specs.Causes.{of_source}
use Rattle.vx_machine.specs.Source.{SourceMay, ReadsNone}

pub source_may : (t : Ty) (e : SourceError) → SourceMay t (of_source e)
source_may t source.Failed = tt
source_may t source.OutOfMemory = tt

pub source_reads : (before now : Option (List ChunkData)) (e : SourceError) → now ≡ before → ReadsNone before now (of_source e)
source_reads before now source.Failed h = h
source_reads before now source.OutOfMemory h = h
