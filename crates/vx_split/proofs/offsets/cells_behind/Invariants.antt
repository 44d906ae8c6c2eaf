use Rattle.std.proofs.Common.{◌≡◌, map, take}
use Rattle.vx_model.specs.TreeView.{tree}
use Rattle.vx_split.specs.Offsets.{cell_behind}
use Rattle.vx_split.proofs.offsets.cells_behind.Given as goal

abbrev pub invariant-loop-offset : goal.invariant-loop-offset
invariant-loop-offset l = map tree l.cells.items ≡ map (cell_behind l.base) (take l.offset-index l.offsets)
