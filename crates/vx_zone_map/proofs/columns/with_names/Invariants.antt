use Rattle.std.proofs.Common.{◌≡◌, ◌+◌, ◌++◌, length, map, drop}
use Rattle.std.specs.Vec.Iter.{into_iter_items}
use Rattle.vx_model.specs.ChunkData.{cells}
use Rattle.vx_aggregate.specs.AggregateView.{aggregate}
use Rattle.vx_zone_map.specs.Columns.{name_in, column_cells}
use Rattle.vx_zone_map.proofs.columns.with_names.Given as goal

abbrev pub invariant-loop-field : goal.invariant-loop-field
invariant-loop-field l = record {
  count : l.place + length (into_iter_items l.field-iterator) ≡ length l.aggregates;
  names : map name_in l.columns.items ++ map aggregate (drop l.place l.aggregates) ≡ map aggregate l.aggregates;
  cells : map column_cells l.columns.items ++ map cells (into_iter_items l.field-iterator) ≡ map cells l.fn.fields.items;
}
