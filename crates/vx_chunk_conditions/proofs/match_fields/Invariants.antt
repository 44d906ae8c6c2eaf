use Rattle.std.proofs.Common.{◌≡◌, map, drop}
use Rattle.vx_model.specs.Ty.{tys_of}
use Rattle.vx_model.specs.TyView.{field_ty}
use Rattle.vx_model.specs.ChunkData.{match_fields}
use Rattle.vx_chunk_conditions.proofs.match_fields.Given as goal

abbrev pub invariant-loop-i : goal.invariant-loop-i
invariant-loop-i l = match_fields (tys_of (map field_ty (drop l.i l.types))) (drop l.i l.fields) l.rows ≡ match_fields (tys_of (map field_ty l.types)) l.fields l.rows
