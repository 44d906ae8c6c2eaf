use Rattle.std.proofs.Common.{◌≡◌, length, map, take}
use Rattle.vx_model.specs.TreeView.{tree}
use Rattle.vx_typed.specs.Typed.{typed_cells}
use Rattle.vx_strings.specs.StringCells.{strings_between, string_cell, Grown}
use Rattle.vx_strings.proofs.read.strings_in.Given as goal

abbrev pub invariant-loop-cell : goal.invariant-loop-cell
invariant-loop-cell l =
    record {
      cells : typed_cells (string_cell l.kind) (strings_between l.bytes.items l.offsets.items) l.valid.items ≡ map tree (take l.cell-index l.cells);
      grown : Grown l.kind l.bytes.items l.offsets.items;
      flags : length l.valid.items ≡ length (strings_between l.bytes.items l.offsets.items);
    }
