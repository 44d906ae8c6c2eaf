-- A builder of zone tables as contracts see it.
use Rattle.std.specs.Prelude.{List, map}
use Rattle.std.specs.Global.{Vec}
use Rattle.vx_model.specs.ChunkData.{ChunkData}
use Rattle.vx_aggregate_spec.specs.Aggregate.{Aggregate}
use Rattle.vx_aggregate.specs.declared.aggregate.AggregateFn.{AggregateFn}
use Rattle.vx_aggregate.specs.AggregateView.{aggregate}
use Rattle.vx_zone_table.specs.declared.builder.ZoneTableBuilder.{ZoneTableBuilder}
use Rattle.vx_zone_table.specs.Columns.{held_column, zone_values}
use Rattle.vx_zone_table.specs.Gathered.{Gathered}

abbrev pub gathered : ZoneTableBuilder → Gathered
gathered b = record { columns = map held_column b.columns.items; records = map zone_values b.records.items }

-- a table with the aggregates of its columns
abbrev pub shown_table : ChunkData × Vec AggregateFn → ChunkData × List Aggregate
shown_table t = (t.0, map aggregate t.1.items)
