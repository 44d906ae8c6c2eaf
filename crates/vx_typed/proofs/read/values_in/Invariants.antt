use Rattle.std.proofs.Common.{◌≡◌, length, map, take}
use Rattle.vx_model.specs.TreeView.{tree}
use Rattle.vx_typed.specs.Typed.{typed_cells}
use Rattle.vx_typed.proofs.read.values_in.Given as goal

abbrev pub invariant-loop-cell : goal.invariant-loop-cell
invariant-loop-cell g l =
    record {
      cells : typed_cells g.T.Leaf.as_cell l.items.items l.valid.items ≡ map tree (take l.cell-index l.cells);
      flags : length l.valid.items ≡ length l.items.items;
    }
