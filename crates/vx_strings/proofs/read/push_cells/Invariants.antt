use Rattle.std.proofs.Common.{◌≡◌, ◌++◌, drop, map}
use Rattle.vx_model.specs.TreeView.{tree}
use Rattle.vx_typed.specs.Typed.{typed_cells}
use Rattle.vx_strings.specs.StringCells.{strings_between, string_cell}
use Rattle.vx_strings.proofs.read.push_cells.Given as goal

abbrev pub invariant-loop-row : goal.invariant-loop-row
invariant-loop-row l =
    map tree l.out.items ++ typed_cells (string_cell l.kind) (drop l.row (strings_between l.bytes l.offsets)) (drop l.row l.valid)
    ≡ map tree l.fn.out.items ++ typed_cells (string_cell l.kind) (strings_between l.bytes l.offsets) l.valid
