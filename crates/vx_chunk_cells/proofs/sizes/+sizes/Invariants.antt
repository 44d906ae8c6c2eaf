use Rattle.std.proofs.Common.{◌≡◌, ◌+◌, ◌-◌, ◌^◌, ◌<◌, min, drop, map}
use Rattle.vx_model.specs.Words.{total_by}
use Rattle.vx_model.specs.Ty.{tys_of}
use Rattle.vx_model.specs.CellData.{cell_size, fields_size}
use Rattle.vx_model.specs.TyView.{ty, field_ty}
use Rattle.vx_model.specs.TreeView.{tree}
use Rattle.vx_chunk_cells.proofs.sizes.+sizes.Given as goal

abbrev pub invariant-cells_size-loop-cell : goal.invariant-cells_size-loop-cell
invariant-cells_size-loop-cell l = record {
  short : l.total < 2 ^ 128;
  sum : min (l.total + total_by (cell_size (ty l.dtype)) (map tree (drop l.cell-index l.cells))) (2 ^ 128 - 1) ≡ min (total_by (cell_size (ty l.dtype)) (map tree l.cells)) (2 ^ 128 - 1);
}

abbrev pub invariant-fields_size-loop-i : goal.invariant-fields_size-loop-i
invariant-fields_size-loop-i l = record {
  short : l.total < 2 ^ 128;
  sum : min (l.total + fields_size (tys_of (map field_ty (drop l.i l.fields))) (map tree (drop l.i l.cells))) (2 ^ 128 - 1) ≡ min (fields_size (tys_of (map field_ty l.fields)) (map tree l.cells)) (2 ^ 128 - 1);
}
