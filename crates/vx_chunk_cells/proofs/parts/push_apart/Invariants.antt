use Rattle.std.proofs.Common.{◌≡◌, ◌++◌, length, map, drop}
use Rattle.vx_model.specs.TreeView.{tree}
use Rattle.vx_layout_spec.specs.Parts.{all_elements, ends}
use Rattle.vx_chunk_cells.proofs.parts.push_apart.Given as goal

abbrev pub invariant-loop-cell : goal.invariant-loop-cell
invariant-loop-cell l = record {
  elements : map tree l.elements.items ++ all_elements (map tree (drop l.cell-index l.cells)) ≡ map tree l.fn.elements.items ++ all_elements (map tree l.cells);
  offsets : l.offsets.items ++ ends (length l.elements.items) (map tree (drop l.cell-index l.cells)) ≡ l.fn.offsets.items ++ ends (length l.fn.elements.items) (map tree l.cells);
}
