use Rattle.std.proofs.Common.{[], refl, ap}
use Rattle.std.specs.Arc.{arc_value}
use Rattle.std.proofs.lemmas.Result.{err_from_is_err_and}
use Rattle.vx_path.specs.Path.{under}
use Rattle.vx_model.specs.TyView.{ty}
use Rattle.vx_machine_ids.specs.Stock.{id_stock}
use Rattle.vx_machine_state.specs.State.{no_tasks}
use Rattle.vx_sink.specs.ContextView.{allowed_in}
use Rattle.vx_machine_node.specs.View.{form_at}
use Rattle.vx_machine_task.specs.Ledger.{tasks_reserved}
use Rattle.vx_machine_children.proofs.DictStarts.{value_moved, lost_moved, value_reserved, kid_started, kid_refused, at_start}
use Rattle.vx_machine_start.proofs.StartRows.{started_none}
use Rattle.vx_machine_children.proofs.dict_start.start_values.Goals as goal

pub returns-in_ok-kid-in-Ok-clause-moved : goal.returns-in_ok-kid-in-Ok-clause-moved
returns-in_ok-kid-in-Ok-clause-moved g c =
    value_moved (g.O.Order.active c.args.order.now) (g.O.Order.active c.start_inside.new.order) (id_stock c.args.id) c.args.kids.now.items c.values_parts.new.kids.items c.push_reserved.new.self.items c.in_ok-kid-in-Ok.kid
    c.values_parts.ensures.kids c.push_reserved.ensures.items c.requires c.in_ok-kid-in-Ok.ensures.moved

pub returns-in_ok-kid-in-Ok-clause-reserved : goal.returns-in_ok-kid-in-Ok-clause-reserved
returns-in_ok-kid-in-Ok-clause-reserved g c =
    value_reserved c.args.kids.now.items c.values_parts.new.kids.items c.push_reserved.new.self.items c.in_ok-kid-in-Ok.kid c.values_parts.ensures.kids c.push_reserved.ensures.items
    (started_none (allowed_in c.args.ctx.now) (form_at c.args.node.now.values.item (ty (arc_value c.in-Ok.dtype))) c.args.node.now.marked c.in-Ok.name (record { stem = c.args.id; last = 0 }) c.in_ok-kid-in-Ok.kid
    (c.in_ok-kid-in-Ok.ensures.shows (record { stem = c.args.id; last = 0 }) refl refl))

pub returns-in_ok-kid-in-Ok-clause-started : goal.returns-in_ok-kid-in-Ok-clause-started
returns-in_ok-kid-in-Ok-clause-started g c = λ e x y.
    kid_started (allowed_in c.args.ctx.now) c.args.node.now.values.item (ty (arc_value c.in-Ok.dtype)) (ty (arc_value c.args.node.now.dtype)) c.args.node.now.marked c.in-Ok.name (under c.args.name.now c.args.child) e
    c.in_ok-kid-in-Ok.kid c.in_ok-kid-in-Ok.kid [] c.args.kids.now.items c.values_parts.new.kids.items c.push_reserved.new.self.items c.in-Ok.ensures.dtype c.in-Ok.ensures.name (at_start e y)
    (c.in_ok-kid-in-Ok.ensures.shows e x y) ((c.in_ok-kid-in-Ok.ensures.shows e x y).tasks no_tasks) c.values_parts.ensures.kids c.push_reserved.ensures.items

pub returns-in_err-kid-in-Ok-clause-moved : goal.returns-in_err-kid-in-Ok-clause-moved
returns-in_err-kid-in-Ok-clause-moved g c =
    lost_moved (g.O.Order.active c.args.order.now) (g.O.Order.active c.start_inside.new.order) (id_stock c.args.id) c.args.kids.now.items c.values_parts.new.kids.items c.values_parts.ensures.kids c.requires c.in_err-kid-in-Ok.ensures.moved

pub returns-in_err-kid-in-Ok-clause-reserved : goal.returns-in_err-kid-in-Ok-clause-reserved
returns-in_err-kid-in-Ok-clause-reserved g c = ap tasks_reserved c.values_parts.ensures.kids

pub returns-in_err-kid-in-Ok-clause-refused : goal.returns-in_err-kid-in-Ok-clause-refused
returns-in_err-kid-in-Ok-clause-refused g c =
    let p = err_from_is_err_and c.from_residual.result c.from_residual.ensures.1 in
    rw (p.1, p.2) (λ e x y.
    kid_refused (allowed_in c.args.ctx.now) c.args.node.now.values.item (ty (arc_value c.in-Ok.dtype)) (ty (arc_value c.args.node.now.dtype)) c.args.node.now.marked e c.in_err-kid-in-Ok.field-0.0 c.in-Ok.ensures.dtype
    (c.in_err-kid-in-Ok.ensures.refused e x y))

pub returns-in-Err-clause-moved : goal.returns-in-Err-clause-moved
returns-in-Err-clause-moved g c =
    lost_moved (g.O.Order.active c.args.order.now) (g.O.Order.active c.give_up_id.new.order) (id_stock c.args.id) c.args.kids.now.items c.values_parts.new.kids.items c.values_parts.ensures.kids c.requires c.give_up_id.ensures.moved

pub returns-in-Err-clause-reserved : goal.returns-in-Err-clause-reserved
returns-in-Err-clause-reserved g c = ap tasks_reserved c.values_parts.ensures.kids
