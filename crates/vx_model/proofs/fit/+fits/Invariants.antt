use Rattle.std.proofs.Common.{◌≡◌, drop, map}
use Rattle.vx_model.specs.Words.{all_by}
use Rattle.vx_model.specs.Ty.{tys_of}
use Rattle.vx_model.specs.CellData.{fits, fields_fit}
use Rattle.vx_model.specs.TyView.{ty, field_ty}
use Rattle.vx_model.specs.TreeView.{tree}
use Rattle.vx_model.proofs.fit.+fits.Given as goal

abbrev pub invariant-fits-loop-cell : goal.invariant-fits-loop-cell
invariant-fits-loop-cell l = all_by (fits (ty l.dtype)) (map tree (drop l.cell-index l.cells)) ≡ all_by (fits (ty l.dtype)) (map tree l.cells)

abbrev pub invariant-fit_fields-loop-i : goal.invariant-fit_fields-loop-i
invariant-fit_fields-loop-i l = fields_fit (tys_of (map field_ty (drop l.i l.fields))) (map tree (drop l.i l.cells)) ≡ fields_fit (tys_of (map field_ty l.fields)) (map tree l.cells)
