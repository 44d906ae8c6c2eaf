use Rattle.std.proofs.Common.{◌≡◌, ◌++◌, map, take, drop}
use Rattle.std.specs.Vec.Iter.{into_iter_items}
use Rattle.vx_model.specs.TreeView.{val}
use Rattle.vx_zone_table.specs.Columns.{zone_values, filled_column}
use Rattle.vx_zone_table.specs.Filling.{pushed}
use Rattle.vx_zone_table.proofs.fill.push_zone.Given as goal

abbrev pub invariant-loop-column : goal.invariant-loop-column
invariant-loop-column l =
    map filled_column (take l.column-index l.column-items) ++ pushed (map filled_column (drop l.column-index l.column-items)) (map val (into_iter_items l.values)) ≡ pushed (map filled_column l.fn.table.items) (zone_values l.fn.zone)
