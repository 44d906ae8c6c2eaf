use Rattle.std.proofs.Common.{ap, ◌∙◌, map, rules}
use Rattle.vx_zone_spec.specs.ZoneTable.{name_of}
use Rattle.vx_zone_table.specs.declared.column.TableColumn.{TableColumn}
use Rattle.vx_zone_table.specs.Columns.{filled_column}
use Rattle.vx_zone_table.proofs.Orders.{sorted_is, map_sort}
use Rattle.vx_zone_table.proofs.order.sort_columns.Goals as goal

pub returns : goal.returns
returns c =
    ap (map filled_column) (sorted_is (λ (x : TableColumn). x.name) c.args.table.now.items _ c.in_ok-sort_by.ensures.sorted c.sort_by.ensures.stable (λ a r q k. search rules))
    ∙ map_sort filled_column (λ (x : TableColumn). x.name) name_of (λ x. x.named) c.args.table.now.items
