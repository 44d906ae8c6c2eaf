use Rattle.std.proofs.Common.{◌≡◌, map, take}
use Rattle.vx_model.specs.CellData.{bool_cell}
use Rattle.vx_model.specs.TreeView.{tree}
use Rattle.vx_chunk_cells.proofs.parts.bool_cells.Given as goal

abbrev pub invariant-loop-flag : goal.invariant-loop-flag
invariant-loop-flag l = map tree l.cells.items ≡ map bool_cell (take l.flag-index l.flags)
