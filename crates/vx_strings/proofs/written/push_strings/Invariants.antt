use Rattle.std.proofs.Common.{◌≡◌, ◌++◌, drop}
use Rattle.vx_model.specs.Words.{joined_by}
use Rattle.vx_model.specs.CellData.{text_spelling}
use Rattle.vx_typed.specs.Typed.{typed_cells}
use Rattle.vx_strings.specs.StringCells.{strings_between, string_cell}
use Rattle.vx_strings.proofs.written.push_strings.Given as goal

abbrev pub invariant-loop-row : goal.invariant-loop-row
invariant-loop-row l =
    l.out.items ++ joined_by (text_spelling l.nullable) (typed_cells (string_cell l.kind) (drop l.row (strings_between l.bytes l.offsets)) (drop l.row l.valid))
    ≡ l.fn.out.items ++ joined_by (text_spelling l.nullable) (typed_cells (string_cell l.kind) (strings_between l.bytes l.offsets) l.valid)
