use Rattle.std.proofs.Common.{[], ◌∷◌, refl, ap, arith}
use Rattle.std.specs.Arc.{arc_value}
use Rattle.std.proofs.lemmas.Result.{err_from_is_err_and}
use Rattle.vx_path.specs.Path.{under}
use Rattle.vx_model.specs.TyView.{ty}
use Rattle.vx_rules.specs.Runs.{code_type}
use Rattle.vx_machine_ids.specs.Stock.{none, both, id_stock}
use Rattle.vx_sink.specs.ContextView.{allowed_in}
use Rattle.vx_machine_ids.proofs.MoveLaws.{owned_right}
use Rattle.vx_machine_node.specs.Stocks.{item_stock}
use Rattle.vx_machine_node.specs.View.{form_at, options_in, item_of}
use Rattle.vx_machine_turns.specs.Starts.{start_fault}
use Rattle.vx_machine_state.specs.Start.{first_indices}
use Rattle.vx_machine_task.specs.Ledger.{task_reserved, tasks_reserved}
use Rattle.vx_machine_task.specs.Stocks.{task_stock, tasks_stock}
use Rattle.vx_machine_children.proofs.DictStarts.{value_moved, lost_moved, two_owned, two_moved, two_lost, codes_paid, lost_paid, kid_started, kid_refused, at_start}
use Rattle.vx_machine_start.proofs.StartRows.{started_none, given_task}
use Rattle.vx_machine_start.proofs.StartShows.{memory_refused}
use Rattle.vx_machine_children.proofs.dict_start.start_codes.Goals as goal

pub given-requires-clause-owned : goal.given-requires-clause-owned
given-requires-clause-owned g c =
    let u = g.O.Order.active c.args.order.now in
    let v = g.O.Order.active c.start_inside.new.order in
    let i = id_stock c.args.id in
    let j = item_stock c.args.item in
    two_owned u v v i j (task_stock c.in-Ok-start_inside.kid) (owned_right u (tasks_stock c.args.kids.now.items) (both i j) c.requires.owned) c.in-Ok-start_inside.ensures.moved

pub given-requires-clause-reserved : goal.given-requires-clause-reserved
given-requires-clause-reserved g c =
    omega (
      arith,
      started_none (allowed_in c.args.ctx.now) (form_at c.args.node.now.codes.item (ty (arc_value c.in-Ok.dtype))) c.args.node.now.marked c.in-Ok.name (record { stem = c.args.id; last = 0 }) c.in-Ok-start_inside.kid
          (c.in-Ok-start_inside.ensures.shows (record { stem = c.args.id; last = 0 }) refl refl),
    )

pub returns-in_ok-kid-in-Ok-start_inside-clause-moved : goal.returns-in_ok-kid-in-Ok-start_inside-clause-moved
returns-in_ok-kid-in-Ok-start_inside-clause-moved g c =
    let u = g.O.Order.active c.args.order.now in
    let v = g.O.Order.active c.start_inside.new.order in
    let w = g.O.Order.active c.given.new.order in
    let i = id_stock c.args.id in
    let j = item_stock c.args.item in
    let t = task_stock c.in-Ok-start_inside.kid in
    let s = c.in_ok-kid-in-Ok-start_inside.kid in
    value_moved u w (both i j) c.args.kids.now.items c.codes_parts.new.kids.items c.push_reserved.new.self.items s c.codes_parts.ensures.kids c.push_reserved.ensures.items c.requires.owned
    (two_moved u v w i j t (owned_right u (tasks_stock c.args.kids.now.items) (both i j) c.requires.owned) c.in-Ok-start_inside.ensures.moved (task_stock s) c.in_ok-kid-in-Ok-start_inside.ensures.moved)

pub returns-in_ok-kid-in-Ok-start_inside-clause-tracked : goal.returns-in_ok-kid-in-Ok-start_inside-clause-tracked
returns-in_ok-kid-in-Ok-start_inside-clause-tracked g c =
    codes_paid c.args.ctx.now c.given.new.ctx c.args.kids.now.items c.codes_parts.new.kids.items c.push_reserved.new.self.items c.in-Ok-start_inside.kid c.in_ok-kid-in-Ok-start_inside.kid c.codes_parts.ensures.kids c.push_reserved.ensures.items
    (started_none (allowed_in c.args.ctx.now) (form_at c.args.node.now.codes.item (ty (arc_value c.in-Ok.dtype))) c.args.node.now.marked c.in-Ok.name (record { stem = c.args.id; last = 0 }) c.in-Ok-start_inside.kid
    (c.in-Ok-start_inside.ensures.shows (record { stem = c.args.id; last = 0 }) refl refl)) c.in_ok-kid-in-Ok-start_inside.ensures.tracked

pub returns-in_ok-kid-in-Ok-start_inside-clause-started : goal.returns-in_ok-kid-in-Ok-start_inside-clause-started
returns-in_ok-kid-in-Ok-start_inside-clause-started g c = λ e x y.
    let shows = c.in-Ok-start_inside.ensures.shows e x y in
    kid_started (allowed_in c.args.ctx.now) c.args.node.now.codes.item (ty (arc_value c.in-Ok.dtype)) (code_type (options_in c.args.node.now)) c.args.node.now.marked c.in-Ok.name (under c.args.name.now c.args.child) e
    c.in-Ok-start_inside.kid c.in_ok-kid-in-Ok-start_inside.kid (item_of c.args.item ∷ []) c.args.kids.now.items c.codes_parts.new.kids.items c.push_reserved.new.self.items c.in-Ok.ensures.dtype c.in-Ok.ensures.name (at_start e y) shows
    (given_task (allowed_in c.args.ctx.now) (form_at c.args.node.now.codes.item (ty (arc_value c.in-Ok.dtype))) c.args.node.now.marked c.in-Ok.name e c.in-Ok-start_inside.kid c.in_ok-kid-in-Ok-start_inside.kid (item_of c.args.item) shows
    c.in_ok-kid-in-Ok-start_inside.ensures.given) c.codes_parts.ensures.kids c.push_reserved.ensures.items

pub returns-in_err-kid-in-Ok-start_inside-clause-moved : goal.returns-in_err-kid-in-Ok-start_inside-clause-moved
returns-in_err-kid-in-Ok-start_inside-clause-moved g c =
    let u = g.O.Order.active c.args.order.now in
    let v = g.O.Order.active c.start_inside.new.order in
    let w = g.O.Order.active c.given.new.order in
    let i = id_stock c.args.id in
    let j = item_stock c.args.item in
    let t = task_stock c.in-Ok-start_inside.kid in
    lost_moved u w (both i j) c.args.kids.now.items c.codes_parts.new.kids.items c.codes_parts.ensures.kids c.requires.owned
    (two_moved u v w i j t (owned_right u (tasks_stock c.args.kids.now.items) (both i j) c.requires.owned) c.in-Ok-start_inside.ensures.moved none c.in_err-kid-in-Ok-start_inside.ensures.moved)

pub returns-in_err-kid-in-Ok-start_inside-clause-tracked : goal.returns-in_err-kid-in-Ok-start_inside-clause-tracked
returns-in_err-kid-in-Ok-start_inside-clause-tracked g c =
    lost_paid c.args.ctx.now c.given.new.ctx c.args.kids.now.items c.codes_parts.new.kids.items (task_reserved c.in-Ok-start_inside.kid) c.codes_parts.ensures.kids
    (started_none (allowed_in c.args.ctx.now) (form_at c.args.node.now.codes.item (ty (arc_value c.in-Ok.dtype))) c.args.node.now.marked c.in-Ok.name (record { stem = c.args.id; last = 0 }) c.in-Ok-start_inside.kid
    (c.in-Ok-start_inside.ensures.shows (record { stem = c.args.id; last = 0 }) refl refl)) c.in_err-kid-in-Ok-start_inside.ensures.tracked

pub returns-in_err-kid-in-Ok-start_inside-clause-refused : goal.returns-in_err-kid-in-Ok-start_inside-clause-refused
returns-in_err-kid-in-Ok-start_inside-clause-refused g c =
    let p = err_from_is_err_and c.from_residual.result c.from_residual.ensures.1 in
    rw (p.1, p.2) (λ e x y.
    let f = form_at c.args.node.now.codes.item (code_type (options_in c.args.node.now)) in
    memory_refused (allowed_in c.args.ctx.now) (λ s. start_fault s f c.args.node.now.marked) (first_indices f c.args.node.now.marked e) c.in_err-kid-in-Ok-start_inside.field-0.0 c.in_err-kid-in-Ok-start_inside.ensures.memory)

pub returns-in-Err-start_inside-clause-tracked : goal.returns-in-Err-start_inside-clause-tracked
returns-in-Err-start_inside-clause-tracked g c = omega (arith, ap tasks_reserved c.codes_parts.ensures.kids)

pub returns-in-Err-clause-tracked : goal.returns-in-Err-clause-tracked
returns-in-Err-clause-tracked g c = omega (arith, ap tasks_reserved c.codes_parts.ensures.kids)

pub returns-in-Err-start_inside-clause-refused : goal.returns-in-Err-start_inside-clause-refused
returns-in-Err-start_inside-clause-refused g c = λ e x y.
    kid_refused (allowed_in c.args.ctx.now) c.args.node.now.codes.item (ty (arc_value c.in-Ok.dtype)) (code_type (options_in c.args.node.now)) c.args.node.now.marked e c.in-Err-start_inside.error c.in-Ok.ensures.dtype
    (c.in-Err-start_inside.ensures.refused e x y)

pub returns-in-Err-start_inside-clause-moved : goal.returns-in-Err-start_inside-clause-moved
returns-in-Err-start_inside-clause-moved g c =
    let u = g.O.Order.active c.args.order.now in
    let w = g.O.Order.active c.give_up_item.new.order in
    let i = id_stock c.args.id in
    let j = item_stock c.args.item in
    lost_moved u w (both i j) c.args.kids.now.items c.codes_parts.new.kids.items c.codes_parts.ensures.kids c.requires.owned
    (two_lost u (g.O.Order.active c.start_inside.new.order) w i j (owned_right u (tasks_stock c.args.kids.now.items) (both i j) c.requires.owned) c.in-Err-start_inside.ensures.moved c.give_up_item.ensures.moved)

pub returns-in-Err-clause-moved : goal.returns-in-Err-clause-moved
returns-in-Err-clause-moved g c =
    let u = g.O.Order.active c.args.order.now in
    let w = g.O.Order.active c.give_up_item-in-Err.new.order in
    let i = id_stock c.args.id in
    let j = item_stock c.args.item in
    lost_moved u w (both i j) c.args.kids.now.items c.codes_parts.new.kids.items c.codes_parts.ensures.kids c.requires.owned
    (two_lost u (g.O.Order.active c.give_up_id.new.order) w i j (owned_right u (tasks_stock c.args.kids.now.items) (both i j) c.requires.owned) c.give_up_id.ensures.moved c.give_up_item-in-Err.ensures.moved)
