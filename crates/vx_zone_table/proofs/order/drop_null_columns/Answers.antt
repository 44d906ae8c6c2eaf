use Rattle.std.proofs.Common.{not, map, ap, ◌∙◌, rules, tests}
use Rattle.std.proofs.lemmas.Fn.{filter_same}
use Rattle.vx_model.specs.Words.{all_by}
use Rattle.vx_model.specs.TreeView.{val}
use Rattle.vx_model.specs.ValueData.{is_null_value}
use Rattle.vx_zone_table.specs.declared.column.TableColumn.{TableColumn}
use Rattle.vx_zone_table.specs.Columns.{filled_column}
use Rattle.vx_zone_table.proofs.Good.{kept_are}
use Rattle.vx_zone_table.proofs.order.drop_null_columns.Goals as goal

pub returns : goal.returns
returns c =
    ap (map filled_column) (filter_same _ (λ (x : TableColumn). not (all_by is_null_value (map val x.values.items))) _ (λ x b q k. search (rules, tests)) _ _ c.retain.ensures.filtered)
    ∙ kept_are c.args.table.now.items
