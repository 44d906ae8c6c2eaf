use Rattle.std.proofs.Common.{◌≡◌, ◌+◌, ◌*◌, false, drop, map}
use Rattle.std.specs.Arc.{arc_value}
use Rattle.vx_model.specs.Ty.{boolean}
use Rattle.vx_model.specs.TyView.{ty, field_ty}
use Rattle.vx_sink.specs.ContextView.{allowed_in}
use Rattle.vx_machine_ids.specs.Stock.{both, end_stock}
use Rattle.vx_machine_ids.specs.Balance.{Owned, Moved}
use Rattle.vx_machine_start.specs.Weight.{weight}
use Rattle.vx_machine_start.specs.Starting.{field_form, field_forms, columns_form, lists_form}
use Rattle.vx_machine_task.specs.Ledger.{tasks_reserved}
use Rattle.vx_machine_task.specs.Stocks.{tasks_stock}
use Rattle.vx_machine_node.specs.View.{form_at, form_of}
use Rattle.vx_machine_start.proofs.StartShows.{Left}
use Rattle.vx_machine_start.proofs.+start.Given as goal

-- each calls what is lighter, or as heavy and later here

abbrev pub decreases-start::start_task : goal.decreases-start::start_task
decreases-start::start_task g l = 8 * weight (form_of l.strategy.now (arc_value l.dtype)) + 5

abbrev pub decreases-start::start_settled : goal.decreases-start::start_settled
decreases-start::start_settled g l = 8 * weight (form_of l.strategy.now (arc_value l.dtype)) + 4

abbrev pub decreases-columns_start::start_columns : goal.decreases-columns_start::start_columns
decreases-columns_start::start_columns g l = 8 * weight (columns_form l.fields.now (ty (arc_value l.node.dtype))) + 3

abbrev pub decreases-columns_start::start_each : goal.decreases-columns_start::start_each
decreases-columns_start::start_each g l = 8 * weight (columns_form l.fields.now (ty l.dtype.now)) + 2

abbrev pub decreases-columns_start::start_lists : goal.decreases-columns_start::start_lists
decreases-columns_start::start_lists g l = 8 * weight (lists_form l.lists.now (ty (arc_value l.node.dtype))) + 3

abbrev pub decreases-columns_start::start_parts : goal.decreases-columns_start::start_parts
decreases-columns_start::start_parts g l = 8 * weight (lists_form l.lists.now (ty l.dtype.now)) + 2

abbrev pub decreases-start::start_grouped : goal.decreases-start::start_grouped
decreases-start::start_grouped g l = 8 * (2 + weight (form_at l.child.now.item (ty (arc_value l.node.dtype)))) + 3

abbrev pub decreases-start::start_only : goal.decreases-start::start_only
decreases-start::start_only g l = 8 * (2 + weight (form_at l.child.now.item (ty (arc_value l.dtype.now)))) + 2

abbrev pub decreases-columns_start::start_validity : goal.decreases-columns_start::start_validity
decreases-columns_start::start_validity g l = 8 * weight (form_at l.validity.now.item (boolean false)) + 8

abbrev pub decreases-columns_start::start_field : goal.decreases-columns_start::start_field
decreases-columns_start::start_field g l = 8 * weight (field_form l.fields.now (field_ty l.field.now)) + 8

abbrev pub decreases-columns_start::start_column : goal.decreases-columns_start::start_column
decreases-columns_start::start_column g l = 8 * weight (form_at l.writer.now.item (ty (arc_value l.dtype))) + 7

abbrev pub decreases-start::start_under : goal.decreases-start::start_under
decreases-start::start_under g l = 8 * weight (form_at l.writer.now.item (ty (arc_value l.dtype))) + 6

abbrev pub invariant-columns_start::start_each-fields : goal.invariant-columns_start::start_each-fields
invariant-columns_start::start_each-fields g l = record {
  owned : Owned (g.O.Order.active l.order) (both (end_stock l.eof) (tasks_stock l.kids.items));
  moved : Moved (g.O.Order.active l.fn.order) (g.O.Order.active l.order) (both (end_stock l.fn.eof) (tasks_stock l.fn.kids.items)) (both (end_stock l.eof) (tasks_stock l.kids.items));
  reserved : tasks_reserved l.kids.items ≡ tasks_reserved l.fn.kids.items;
  outlet : g.O.Order.outlet l.order ≡ g.O.Order.outlet l.fn.order;
  sink : g.O.Order.sink l.order ≡ g.O.Order.sink l.fn.order;
  left : Left (allowed_in l.ctx) (columns_form l.fields (ty l.dtype)) l.fn.marked l.name l.fn.eof l.fn.kids.items (field_forms l.fields (map field_ty (drop l.field-index l.columns))) l.below l.kids.items l.eof;
}

-- of a compressing node

abbrev pub decreases-pressing_start::start_pressing : goal.decreases-pressing_start::start_pressing
decreases-pressing_start::start_pressing g l = 8 * (4 + weight (form_at l.by.now.child.item (ty (arc_value l.dtype)))) + 3

abbrev pub decreases-pressing_start::start_outlet : goal.decreases-pressing_start::start_outlet
decreases-pressing_start::start_outlet g l = 8 * (4 + weight (form_at l.by.now.child.item (ty (arc_value l.dtype)))) + 2

-- of a zoned node

abbrev pub decreases-zoned_start::start_zoned : goal.decreases-zoned_start::start_zoned
decreases-zoned_start::start_zoned g l = 8 * (2 + weight (form_at l.zoned.now.child.item (ty (arc_value l.dtype)))) + 3

abbrev pub decreases-zoned_start::start_data : goal.decreases-zoned_start::start_data
decreases-zoned_start::start_data g l = 8 * (2 + weight (form_at l.zoned.now.child.item (ty (arc_value l.node.dtype)))) + 2

abbrev pub decreases-zoned_start::data_kid : goal.decreases-zoned_start::data_kid
decreases-zoned_start::data_kid g l = 8 * (2 + weight (form_at l.zoned.now.child.item (ty (arc_value l.node.now.dtype)))) + 1
