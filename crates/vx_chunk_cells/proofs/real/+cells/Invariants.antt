use Rattle.std.proofs.Common.{◌≡◌, drop, map}
use Rattle.vx_model.specs.Words.{all_by}
use Rattle.vx_model.specs.TreeView.{tree}
use Rattle.vx_layout_spec.specs.Real.{is_real_cell}
use Rattle.vx_chunk_cells.proofs.real.+cells.Given as goal

abbrev pub invariant-real_cells-loop-cell : goal.invariant-real_cells-loop-cell
invariant-real_cells-loop-cell l = all_by is_real_cell (map tree (drop l.cell-index l.cells)) ≡ all_by is_real_cell (map tree l.cells)
