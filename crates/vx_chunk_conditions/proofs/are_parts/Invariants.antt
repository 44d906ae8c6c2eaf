use Rattle.std.proofs.Common.{◌≡◌, drop}
use Rattle.vx_model.specs.TyView.{ty}
use Rattle.vx_model.specs.ChunkData.{are_parts}
use Rattle.vx_chunk_conditions.proofs.are_parts.Given as goal

abbrev pub invariant-loop-part : goal.invariant-loop-part
invariant-loop-part l = are_parts (ty l.dtype) (drop l.part-index l.parts) ≡ are_parts (ty l.dtype) l.parts
