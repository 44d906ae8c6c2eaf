use Rattle.std.proofs.Common.{◌≡◌, ◌++◌, drop}
use Rattle.vx_model.specs.Words.{joined_by}
use Rattle.vx_model.specs.CellData.{spelling}
use Rattle.vx_typed.specs.Typed.{typed_cells}
use Rattle.vx_typed.proofs.written.push_masked.Given as goal

abbrev pub invariant-loop-i : goal.invariant-loop-i
invariant-loop-i g l =
    l.out.items ++ joined_by (spelling (g.T.Leaf.kind l.nullable)) (typed_cells g.T.Leaf.as_cell (drop l.i l.items) (drop l.i l.valid))
    ≡ l.fn.out.items ++ joined_by (spelling (g.T.Leaf.kind l.nullable)) (typed_cells g.T.Leaf.as_cell l.items l.valid)
