use Rattle.std.proofs.Common.{◌≡◌, ◌++◌, map, drop}
use Rattle.std.specs.Prelude.{IsTrue}
use Rattle.std.specs.Vec.Iter.{into_iter_items}
use Rattle.vx_model.specs.Ty.{tys_of}
use Rattle.vx_model.specs.TyView.{field_ty}
use Rattle.vx_chunk_cells.specs.Columns.{trees_in}
use Rattle.vx_chunk.specs.Parts.{typed_columns, columns_fit}
use Rattle.vx_chunk.proofs.fields.typed.Given as goal

abbrev pub invariant-loop-column : goal.invariant-loop-column
invariant-loop-column l = record {
  fit : IsTrue (columns_fit (tys_of (map field_ty (drop l.i l.types))) (map trees_in (into_iter_items l.column-iterator)));
  chunks : l.chunks.items ++ typed_columns (tys_of (map field_ty (drop l.i l.types))) (map trees_in (into_iter_items l.column-iterator))
      ≡ typed_columns (tys_of (map field_ty l.types)) (map trees_in l.fn.columns.items);
}
