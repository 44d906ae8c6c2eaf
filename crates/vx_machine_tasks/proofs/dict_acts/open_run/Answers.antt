use Rattle.std.proofs.Common.{refl, sym, ◌∙◌, arith}
use Rattle.std.specs.Arc.{arc_value}
use Rattle.std.proofs.lemmas.Result.{err_from_is_err_and}
use Rattle.vx_path.specs.Path.{inside, next}
use Rattle.vx_machine_ids.specs.Stock.{id_stock}
use Rattle.vx_sink.specs.ContextView.{allowed_in}
use Rattle.vx_machine_node.specs.RunPaths.{eof_at}
use Rattle.vx_machine_node.specs.Stocks.{item_stock}
use Rattle.vx_machine_node.specs.View.{item_of}
use Rattle.vx_machine_children.proofs.StartCauses.{start_may}
use Rattle.vx_machine_node.proofs.LedgerSteps.{told_allowed}
use Rattle.vx_machine_task.specs.Stocks.{tasks_stock}
use Rattle.vx_machine_tasks.proofs.DictActs.{codes_owned, values_owned, run_moved, run_lost, opened, codes_why, values_why}
use Rattle.vx_machine_tasks.proofs.dict_acts.open_run.Goals as goal

pub start_codes-requires-clause-owned : goal.start_codes-requires-clause-owned
start_codes-requires-clause-owned g c =
    let u = g.O.Order.active c.args.order.now in
    codes_owned u u u (tasks_stock c.args.kids.now.items) (id_stock c.args.run.codes) (id_stock c.args.run.values) (item_stock c.args.item) c.requires.owned

pub start_values-started-requires : goal.start_values-started-requires
start_values-started-requires g c =
    let u = g.O.Order.active c.args.order.now in
    let v = g.O.Order.active c.start_codes.new.order in
    values_owned u v v (tasks_stock c.args.kids.now.items) (id_stock c.args.run.codes) (id_stock c.args.run.values) (item_stock c.args.item) c.requires.owned (tasks_stock c.start_codes.new.kids.items) c.start_codes.ensures.moved

pub returns-in_ok-started-in-Ok-clause-moved : goal.returns-in_ok-started-in-Ok-clause-moved
returns-in_ok-started-in-Ok-clause-moved g c =
    run_moved (g.O.Order.active c.args.order.now) (g.O.Order.active c.start_codes.new.order) (g.O.Order.active c.start_values-started.new.order) (tasks_stock c.args.kids.now.items) (id_stock c.args.run.codes) (id_stock c.args.run.values)
    (item_stock c.args.item) c.requires.owned (tasks_stock c.start_codes.new.kids.items) c.start_codes.ensures.moved (tasks_stock c.start_values-started.new.kids.items) c.start_values-started.ensures.moved

pub returns-in_ok-started-in-Ok-clause-tracked : goal.returns-in_ok-started-in-Ok-clause-tracked
returns-in_ok-started-in-Ok-clause-tracked g c = omega (arith, c.start_codes.ensures.tracked, c.start_values-started.ensures.reserved)

pub returns-in_ok-started-in-Ok-clause-done : goal.returns-in_ok-started-in-Ok-clause-done
returns-in_ok-started-in-Ok-clause-done g c = λ s n mind left q.
    let e = eof_at c.args.run.codes in
    opened s c.args.name.now n mind (arc_value c.args.run.node) c.args.run.child e (item_of c.args.item) (allowed_in c.args.ctx.now) q c.args.kids.now.items c.start_codes.new.kids.items (g.O.Order.outlet c.args.order.now)
    c.start_values-started.new.kids.items (g.O.Order.outlet c.start_values-started.new.order) left c.deref.result.now c.deref.ensures (c.in-Ok.ensures.started (inside e) (sym c.args.run.first) refl)
    c.deref-in-Ok.result.now c.deref-in-Ok.ensures (allowed_in c.start_codes.new.ctx) (told_allowed c.args.ctx.now c.start_codes.new.ctx c.start_codes.ensures.context)
    (c.in_ok-started-in-Ok.ensures.started (inside (next e)) (sym c.args.run.second) refl) (c.start_values-started.ensures.outlet ∙ c.start_codes.ensures.outlet)

pub returns-in_err-started-in-Ok-clause-moved : goal.returns-in_err-started-in-Ok-clause-moved
returns-in_err-started-in-Ok-clause-moved g c =
    run_moved (g.O.Order.active c.args.order.now) (g.O.Order.active c.start_codes.new.order) (g.O.Order.active c.start_values-started.new.order) (tasks_stock c.args.kids.now.items) (id_stock c.args.run.codes) (id_stock c.args.run.values)
    (item_stock c.args.item) c.requires.owned (tasks_stock c.start_codes.new.kids.items) c.start_codes.ensures.moved (tasks_stock c.start_values-started.new.kids.items) c.start_values-started.ensures.moved

pub returns-in_err-started-in-Ok-clause-tracked : goal.returns-in_err-started-in-Ok-clause-tracked
returns-in_err-started-in-Ok-clause-tracked g c = omega (arith, c.start_codes.ensures.tracked, c.start_values-started.ensures.reserved)

pub returns-in_err-started-in-Ok-clause-refused : goal.returns-in_err-started-in-Ok-clause-refused
returns-in_err-started-in-Ok-clause-refused g c =
    let p = err_from_is_err_and c.from_residual.result c.from_residual.ensures.1 in
    let e = eof_at c.args.run.codes in
    rw (p.1, p.2) (λ s n mind q.
    values_why s c.args.name.now n mind (arc_value c.args.run.node) c.args.run.child e (item_of c.args.item) (allowed_in c.args.ctx.now) q c.args.kids.now.items c.start_codes.new.kids.items (g.O.Order.outlet c.args.order.now)
    c.in_err-started-in-Ok.field-0.0 c.deref.result.now c.deref.ensures (c.in-Ok.ensures.started (inside e) (sym c.args.run.first) refl)
    c.deref-in-Ok.result.now c.deref-in-Ok.ensures (allowed_in c.start_codes.new.ctx) (told_allowed c.args.ctx.now c.start_codes.new.ctx c.start_codes.ensures.context)
    (c.in_err-started-in-Ok.ensures.refused (inside (next e)) (sym c.args.run.second) refl))

pub returns-in_err-started-in-Ok-clause-cause : goal.returns-in_err-started-in-Ok-clause-cause
returns-in_err-started-in-Ok-clause-cause g c =
    let p = err_from_is_err_and c.from_residual.result c.from_residual.ensures.1 in
    rw (p.1, p.2) (start_may c.in_err-started-in-Ok.field-0.0 c.in_err-started-in-Ok.ensures.cause)

pub returns-in-Err-clause-moved : goal.returns-in-Err-clause-moved
returns-in-Err-clause-moved g c =
    run_lost (g.O.Order.active c.args.order.now) (g.O.Order.active c.start_codes.new.order) (g.O.Order.active c.give_up_id.new.order) (tasks_stock c.args.kids.now.items) (id_stock c.args.run.codes) (id_stock c.args.run.values)
    (item_stock c.args.item) c.requires.owned (tasks_stock c.start_codes.new.kids.items) c.start_codes.ensures.moved c.give_up_id.ensures.moved

pub returns-in-Err-clause-refused : goal.returns-in-Err-clause-refused
returns-in-Err-clause-refused g c = λ s n mind q.
    let e = eof_at c.args.run.codes in
    codes_why s c.args.name.now n mind (arc_value c.args.run.node) c.args.run.child e (item_of c.args.item) (allowed_in c.args.ctx.now) q c.args.kids.now.items c.args.kids.now.items (g.O.Order.outlet c.args.order.now) c.in-Err.error
    c.deref.result.now c.deref.ensures (c.in-Err.ensures.refused (inside e) (sym c.args.run.first) refl)

pub returns-in-Err-clause-cause : goal.returns-in-Err-clause-cause
returns-in-Err-clause-cause g c = start_may c.in-Err.error c.in-Err.ensures.cause
