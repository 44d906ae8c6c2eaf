use Rattle.std.proofs.Common.{◌≡◌, drop}
use Rattle.vx_model.specs.TyView.{ty}
use Rattle.vx_chunk.specs.Conditions.{are_of_type}
use Rattle.vx_chunk_conditions.proofs.are_of_type.Given as goal

abbrev pub invariant-loop-chunk : goal.invariant-loop-chunk
invariant-loop-chunk l = are_of_type (ty l.dtype) (drop l.chunk-index l.chunks) ≡ are_of_type (ty l.dtype) l.chunks
