use Rattle.std.proofs.Common.{◌≡◌, drop, map}
use Rattle.vx_model.specs.Words.{all_by}
use Rattle.vx_model.specs.Ty.{tys_of}
use Rattle.vx_model.specs.ValueData.{value_fits, values_fit}
use Rattle.vx_model.specs.TyView.{ty, field_ty}
use Rattle.vx_model.specs.TreeView.{val}
use Rattle.vx_model.proofs.value_fit.+value_fits.Given as goal

abbrev pub invariant-all_fit-loop-value : goal.invariant-all_fit-loop-value
invariant-all_fit-loop-value l = all_by (value_fits (ty l.dtype)) (map val (drop l.value-index l.values)) ≡ all_by (value_fits (ty l.dtype)) (map val l.values)

abbrev pub invariant-fields_fit-loop-i : goal.invariant-fields_fit-loop-i
invariant-fields_fit-loop-i l = values_fit (tys_of (map field_ty (drop l.i l.fields))) (map val (drop l.i l.values)) ≡ values_fit (tys_of (map field_ty l.fields)) (map val l.values)
