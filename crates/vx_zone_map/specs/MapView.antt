-- A zone map as contracts see it.
use Rattle.std.specs.Prelude.{map}
use Rattle.vx_model.specs.TyView.{ty}
use Rattle.vx_layout_spec.specs.Rows.{zipped}
use Rattle.vx_aggregate.specs.AggregateView.{aggregate}
use Rattle.vx_zone_spec.specs.ZoneMap as zone_maps
use Rattle.vx_zone_map.specs.Columns.{seen_values}
use Rattle.vx_zone_map.specs.declared.map.ZoneMap.{ZoneMap}

abbrev pub zone_map : ZoneMap → zone_maps.ZoneMap
zone_map m = record {
  column = ty m.dtype;
  aggregates = map aggregate m.aggregates.items;
  zone_len = m.zone_len;
  row_count = m.row_count;
  zones = zipped m.zones (map seen_values m.columns.items);
}
