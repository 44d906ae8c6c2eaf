use Rattle.std.proofs.Common.{◌≡◌, ◌++◌, map}
use Rattle.std.specs.Vec.Iter.{into_iter_items}
use Rattle.vx_model.specs.ValueData.{value}
use Rattle.vx_model.specs.TreeView.{tree, val}
use Rattle.vx_chunk_cells.proofs.values.+values.Given as goal

abbrev pub invariant-into_values-loop-cell : goal.invariant-into_values-loop-cell
invariant-into_values-loop-cell l = map val l.values.items ++ map value (map tree (into_iter_items l.cell-iterator)) ≡ map value (map tree l.fn.cells.items)
