use Rattle.std.proofs.Common.{◌≡◌, ◌+◌, ◌-◌, ◌*◌, ◌^◌, ◌≤◌, drop}
use Rattle.vx_model.specs.Words.{total_by}
use Rattle.vx_typed.specs.Typed.{typed_cells}
use Rattle.vx_strings.specs.StringCells.{strings_between, string_cell, string_length}
use Rattle.vx_strings.proofs.read.total_len.Given as goal

abbrev pub invariant-loop-row : goal.invariant-loop-row
invariant-loop-row l =
    record {
      told : l.total + total_by string_length (typed_cells (string_cell l.kind) (drop l.row (strings_between l.bytes l.offsets)) (drop l.row l.valid)) ≡ total_by string_length (typed_cells (string_cell l.kind) (strings_between l.bytes l.offsets) l.valid);
      bound : l.total ≤ l.row * (2 ^ 64 - 1);
    }
