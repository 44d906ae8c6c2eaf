use Rattle.std.proofs.Common.{◌≡◌, ◌++◌, map}
use Rattle.std.specs.Prelude.{IsTrue}
use Rattle.std.specs.Vec.Iter.{into_iter_items}
use Rattle.vx_model.specs.Words.{all_by}
use Rattle.vx_model.specs.TreeView.{tree}
use Rattle.vx_chunk_cells.specs.Columns.{trees_in, rows_across}
use Rattle.vx_chunk_cells.specs.Parts.{fields_of, has_width}
use Rattle.vx_chunk_cells.proofs.parts.columns_of.Given as goal

abbrev pub invariant-loop-cell : goal.invariant-loop-cell
invariant-loop-cell l = record {
  cells : l.yielded ++ into_iter_items l.cell-iterator ≡ l.fn.cells.items;
  rest : IsTrue (all_by (has_width l.count) (map tree (into_iter_items l.cell-iterator)));
  columns : map trees_in l.columns.items ≡ rows_across l.count (map fields_of (map tree l.yielded));
}
