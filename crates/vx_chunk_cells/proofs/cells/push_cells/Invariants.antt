use Rattle.std.proofs.Common.{◌≡◌, ◌++◌, map, take}
use Rattle.vx_model.specs.TreeView.{tree}
use Rattle.vx_chunk_cells.proofs.cells.push_cells.Given as goal

abbrev pub invariant-loop-cell : goal.invariant-loop-cell
invariant-loop-cell l = map tree l.out.items ≡ map tree l.fn.out.items ++ map tree (take l.cell-index l.cells)
