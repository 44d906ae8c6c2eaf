use Rattle.std.proofs.Common.{◌≡◌, [], ◌++◌, map}
use Rattle.std.specs.Vec.Iter.{into_iter_items}
use Rattle.vx_zone_spec.specs.ZoneTable.{filled}
use Rattle.vx_zone_table.specs.Columns.{held_column, filled_column}
use Rattle.vx_zone_table.proofs.fill.empty_columns.Given as goal

abbrev pub invariant-loop-column : goal.invariant-loop-column
invariant-loop-column l = map filled_column l.table.items ++ filled (map held_column (into_iter_items l.column-iterator)) [] ≡ filled (map held_column l.fn.columns.items) []
