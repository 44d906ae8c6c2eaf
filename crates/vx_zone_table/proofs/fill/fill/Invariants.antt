use Rattle.std.proofs.Common.{◌≡◌, map}
use Rattle.std.specs.Vec.Iter.{into_iter_items}
use Rattle.vx_zone_spec.specs.ZoneTable.{filled}
use Rattle.vx_zone_table.specs.Columns.{held_column, zone_values, filled_column}
use Rattle.vx_zone_table.specs.Filling.{all_pushed}
use Rattle.vx_zone_table.proofs.fill.fill.Given as goal

abbrev pub invariant-loop-zone : goal.invariant-loop-zone
invariant-loop-zone l = all_pushed (map filled_column l.table.items) (map zone_values (into_iter_items l.zone-iterator)) ≡ filled (map held_column l.fn.columns.items) (map zone_values l.fn.records.items)
