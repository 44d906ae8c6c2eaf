use Rattle.std.proofs.Common.{◌≡◌, ◌++◌, map}
use Rattle.std.specs.Vec.Iter.{into_iter_items}
use Rattle.vx_model.specs.TreeView.{tree, val}
use Rattle.vx_zone_spec.specs.ZoneTable.{state_cell}
use Rattle.vx_zone_table.proofs.cells.into_cells.Given as goal

abbrev pub invariant-loop-value : goal.invariant-loop-value
invariant-loop-value l = map tree l.cells.items ++ map state_cell (map val (into_iter_items l.value-iterator)) ≡ map state_cell (map val l.fn.values.items)
