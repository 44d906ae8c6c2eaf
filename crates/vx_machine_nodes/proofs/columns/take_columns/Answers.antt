use Rattle.std.proofs.Common.{◌++◌, ap, sym, subst, ◌∙◌}
use Rattle.std.specs.Arc.{arc_value}
use Rattle.vx_model.specs.TyView.{ty}
use Rattle.vx_order.specs.Ids.{children}
use Rattle.vx_machine_state.specs.State.{by_column}
use Rattle.vx_machine_state.specs.Acts.{puts}
use Rattle.vx_machine_nodes.specs.Acting.{taken, TakeRefused}
use Rattle.vx_machine_node.specs.Ledger.{dues_reserved}
use Rattle.vx_machine_node.specs.View.{item_of, todo_of}
use Rattle.vx_machine_nodes.proofs.ActCauses.{order_memory}
use Rattle.vx_machine_nodes.proofs.TakeShows.{columns_took, columns_why}
use Rattle.vx_machine_nodes.proofs.columns.take_columns.Goals as goal

pub returns-in-Ok-take_children-clause-done : goal.returns-in-Ok-take_children-clause-done
returns-in-Ok-take_children-clause-done g c = λ s name ks.
    columns_took s name ks c.args.item (ty (arc_value c.args.node.now.dtype)) c.args.rows.now c.in-Ok.total (todo_of c.add_puts.new.todo.items) (todo_of c.args.todo.now.items) c.in-Ok.columns.items
    c.in-Ok.ensures.typed c.in-Ok.ensures.rows c.in-Ok.ensures.fits c.in-Ok.ensures.count c.in-Ok.ensures.columns
    (c.add_puts.ensures.all c.args.item.id (c.in-Ok-take_children.ensures.ids ∙ ap (children c.args.item.id) (sym c.in-Ok-take_children.ensures.count))
    ∙ ap (λ zs. puts 0 c.args.item.id c.in-Ok.columns.items ++ todo_of zs) c.split_chunk.ensures.todo)

pub returns-in-Err-take_children-clause-refused : goal.returns-in-Err-take_children-clause-refused
returns-in-Err-take_children-clause-refused g c = λ s name ks.
    subst (λ e. TakeRefused (taken s name ks (item_of c.args.item) (by_column (ty (arc_value c.args.node.now.dtype)) c.args.rows.now)) e) (sym c.into.ensures)
    (order_memory (TakeRefused (taken s name ks (item_of c.args.item) (by_column (ty (arc_value c.args.node.now.dtype)) c.args.rows.now))) c.in-Err-take_children.error tt c.in-Err-take_children.ensures.memory)

pub returns-in-Err-clause-refused : goal.returns-in-Err-clause-refused
returns-in-Err-clause-refused g c = λ s name ks. columns_why s name ks c.args.item (ty (arc_value c.args.node.now.dtype)) c.args.rows.now c.in-Err.error c.in-Err.ensures.refused

pub returns-in-Ok-take_children-clause-reserved : goal.returns-in-Ok-take_children-clause-reserved
returns-in-Ok-take_children-clause-reserved g c = c.add_puts.ensures.reserved ∙ ap dues_reserved c.split_chunk.ensures.todo

pub returns-in-Err-take_children-clause-reserved : goal.returns-in-Err-take_children-clause-reserved
returns-in-Err-take_children-clause-reserved g c = ap dues_reserved c.split_chunk.ensures.todo

pub returns-in-Err-clause-reserved : goal.returns-in-Err-clause-reserved
returns-in-Err-clause-reserved g c = ap dues_reserved c.split_chunk.ensures.todo
