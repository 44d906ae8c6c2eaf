use Rattle.std.proofs.Common.{◌≡◌, ◌++◌, drop, map}
use Rattle.std.specs.Prelude.{IsTrue}
use Rattle.vx_model.specs.Words.{all_by, joined_by}
use Rattle.vx_model.specs.Ty.{tys_of}
use Rattle.vx_model.specs.TyView.{ty, field_ty}
use Rattle.vx_model.specs.CellData.{fits, fields_fit, spelling, fields_spelling}
use Rattle.vx_model.specs.TreeView.{tree}
use Rattle.vx_cell_codec.proofs.writing.+writing.Given as goal

abbrev pub invariant-push_cells-loop-cell : goal.invariant-push_cells-loop-cell
invariant-push_cells-loop-cell l = record {
  bytes : l.out.items ++ joined_by (spelling (ty l.dtype)) (map tree (drop l.cell-index l.cells)) ≡ l.fn.out.items ++ joined_by (spelling (ty l.dtype)) (map tree l.cells);
  fit : IsTrue (all_by (fits (ty l.dtype)) (map tree (drop l.cell-index l.cells)));
}

abbrev pub invariant-push_fields-loop-i : goal.invariant-push_fields-loop-i
invariant-push_fields-loop-i l = record {
  bytes : l.out.items ++ fields_spelling (tys_of (map field_ty (drop l.i l.fields))) (map tree (drop l.i l.cells)) ≡ l.fn.out.items ++ fields_spelling (tys_of (map field_ty l.fields)) (map tree l.cells);
  fit : IsTrue (fields_fit (tys_of (map field_ty (drop l.i l.fields))) (map tree (drop l.i l.cells)));
}
