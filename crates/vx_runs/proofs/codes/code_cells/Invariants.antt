use Rattle.std.proofs.Common.{◌≡◌, map, take}
use Rattle.vx_model.specs.TreeView.{tree}
use Rattle.vx_rules.specs.Columns.{offset_cell}
use Rattle.vx_runs.proofs.codes.code_cells.Given as goal

abbrev pub invariant-loop-code : goal.invariant-loop-code
invariant-loop-code l = map tree l.cells.items ≡ map offset_cell (take l.code-index l.codes)
