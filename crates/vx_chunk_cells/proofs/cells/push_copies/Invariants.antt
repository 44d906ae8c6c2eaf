use Rattle.std.proofs.Common.{◌≡◌, ◌++◌, map, replicate}
use Rattle.vx_model.specs.TreeView.{tree}
use Rattle.vx_chunk_cells.proofs.cells.push_copies.Given as goal

abbrev pub invariant-loop-i : goal.invariant-loop-i
invariant-loop-i l = map tree l.out.items ≡ map tree l.fn.out.items ++ replicate l._i (tree l.cell)
