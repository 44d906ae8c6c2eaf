use Rattle.std.proofs.Common.{◌≡◌, ◌<◌, ◌∙◌, sym, ap, length, map, arith}
use Rattle.std.proofs.lemmas.List.{length-map}
use Rattle.vx_aggregate.specs.AggregateView.{aggregate}
use Rattle.vx_zone_spec.specs.ZoneTable.{some_values}
use Rattle.vx_zone_table.specs.Columns.{zone_values}
use Rattle.vx_zone_table.specs.BuilderView.{gathered}
use Rattle.vx_zone_table.proofs.BuilderSteps.{table_whole, table_some, some_left}
use Rattle.vx_zone_table.proofs.builder.ZoneTableBuilder.finish.Goals as goal

pub table_of-requires : goal.table_of-requires
table_of-requires c =
    let zones : c.len-zones.result ≡ length (map zone_values c.args.self.records.items) = c.len-zones.ensures ∙ c.args.self.records.ok.0 ∙ sym (length-map c.args.self.records.items zone_values) in
    table_whole (gathered c.args.self) c.drop_null_columns.new.table.items (c.drop_null_columns.ensures ∙ ap some_values c.in_ok-table.ensures)
    c.sort_columns.new.table.items c.len-zones.result c.in_ok-sort_columns.ensures zones c.args.self.fit

pub returns-clause-table : goal.returns-clause-table
returns-clause-table c =
    let zones : c.len-zones.result ≡ length (map zone_values c.args.self.records.items) = c.len-zones.ensures ∙ c.args.self.records.ok.0 ∙ sym (length-map c.args.self.records.items zone_values) in
    let some : 0 < c.drop_null_columns.new.table.len = some_left c.drop_null_columns.new.table.len c.is_empty.result c.is_empty.ensures c.if-is_empty.false in
    table_some (gathered c.args.self) c.drop_null_columns.new.table.items (c.drop_null_columns.ensures ∙ ap some_values c.in_ok-table.ensures)
    c.sort_columns.new.table.items c.len-zones.result c.in_ok-sort_columns.ensures zones
    c.in_ok-table_of.field-0.0 (map aggregate c.in_ok-table_of.field-0.1.items) (omega (arith, some, c.drop_null_columns.new.table.ok.0)) c.in_ok-table_of.ensures.table c.in_ok-table_of.ensures.aggregates
