use Rattle.std.proofs.Common.{◌≡◌, map, drop}
use Rattle.vx_model.specs.Ty.{tys_eq, tys_of}
use Rattle.vx_model.specs.TyView.{field_ty}
use Rattle.vx_model.proofs.dtype.+same.Given as goal

abbrev pub invariant-same_fields-loop-i : goal.invariant-same_fields-loop-i
invariant-same_fields-loop-i l = tys_eq (tys_of (map field_ty (drop l.i l.a))) (tys_of (map field_ty (drop l.i l.b))) ≡ tys_eq (tys_of (map field_ty l.a)) (tys_of (map field_ty l.b))
