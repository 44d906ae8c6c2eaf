use Rattle.std.proofs.Common.{◌≡◌, ◌++◌, drop, map}
use Rattle.vx_model.specs.TreeView.{tree}
use Rattle.vx_typed.specs.Typed.{typed_cells}
use Rattle.vx_typed.proofs.read.push_cells.Given as goal

abbrev pub invariant-loop-i : goal.invariant-loop-i
invariant-loop-i g l =
    map tree l.out.items ++ typed_cells g.T.Leaf.as_cell (drop l.i l.items) (drop l.i l.valid)
    ≡ map tree l.fn.out.items ++ typed_cells g.T.Leaf.as_cell l.items l.valid
