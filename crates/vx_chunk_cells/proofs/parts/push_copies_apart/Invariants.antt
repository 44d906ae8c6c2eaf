use Rattle.std.proofs.Common.{◌≡◌, ◌-◌, ◌++◌, length, map, replicate}
use Rattle.vx_model.specs.TreeView.{tree}
use Rattle.vx_layout_spec.specs.Parts.{all_elements, ends}
use Rattle.vx_chunk_cells.proofs.parts.push_copies_apart.Given as goal

abbrev pub invariant-loop-i : goal.invariant-loop-i
invariant-loop-i l = record {
  elements : map tree l.elements.items ++ all_elements (replicate (l.count - l._i) (tree l.cell)) ≡ map tree l.fn.elements.items ++ all_elements (replicate l.count (tree l.cell));
  offsets : l.offsets.items ++ ends (length l.elements.items) (replicate (l.count - l._i) (tree l.cell)) ≡ l.fn.offsets.items ++ ends (length l.fn.elements.items) (replicate l.count (tree l.cell));
}
