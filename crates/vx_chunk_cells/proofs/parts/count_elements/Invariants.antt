use Rattle.std.proofs.Common.{◌≡◌, ◌-◌, ◌*◌, ◌^◌, ◌≤◌, length, map, take}
use Rattle.vx_model.specs.TreeView.{tree}
use Rattle.vx_layout_spec.specs.Parts.{all_elements}
use Rattle.vx_chunk_cells.proofs.parts.count_elements.Given as goal

abbrev pub invariant-loop-cell : goal.invariant-loop-cell
invariant-loop-cell l = record {
  count : l.total ≡ length (all_elements (map tree (take l.cell-index l.cells)));
  bound : l.total ≤ l.cell-index * (2 ^ 64 - 1);
}
