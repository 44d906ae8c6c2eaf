use Rattle.std.proofs.Common.{◌≡◌, map, take}
use Rattle.vx_model.specs.TreeView.{tree}
use Rattle.vx_model.proofs.cell.+copy.Given as goal

abbrev pub invariant-copy_all-loop-cell : goal.invariant-copy_all-loop-cell
invariant-copy_all-loop-cell l = map tree l.copies.items ≡ map tree (take l.cell-index l.cells.items)
