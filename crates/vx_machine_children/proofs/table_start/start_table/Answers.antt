use Rattle.std.proofs.Common.{◌≡◌, ℕ, [], ◌∷◌, false, true, sym, ap, subst, ◌∙◌}
use Rattle.std.proofs.lemmas.Result.{err_from_is_err_and}
use Rattle.vx_path.specs.Path.{under, eof_path, next}
use Rattle.vx_model.specs.ChunkData.{piece_type}
use Rattle.vx_sequence.specs.Universe.{Active}
use Rattle.vx_machine_ids.specs.Stock.{Stock, id_stock, end_stock, ok_stock}
use Rattle.vx_machine_ids.proofs.MoveLaws.{owned_right}
use Rattle.vx_machine_state.specs.Acts.{add}
use Rattle.vx_machine_state.specs.Start.{first_indices, started_task}
use Rattle.vx_sink.specs.ContextView.{allowed_in}
use Rattle.vx_machine_node.specs.View.{form_at}
use Rattle.vx_machine_start.specs.Starting.{Counted, FormRefused}
use Rattle.vx_machine_task.specs.Stocks.{tasks_stock}
use Rattle.vx_machine_task.specs.View.{row}
use Rattle.vx_machine_children.proofs.TableStarts.{parts_owned, table_moved, table_left, table_unmoved, table_done, table_fails, pointer_fails}
use Rattle.vx_machine_children.proofs.table_start.start_table.Goals as goal

-- the first path below the pointer's is the table's

pub take_first-requires : goal.take_first-requires
take_first-requires g c = owned_right (g.O.Order.active c.args.order.now) (tasks_stock c.args.kids.now.items) (end_stock c.args.table.eof) c.requires.owned

pub start_fed-requires-clause-owned : goal.start_fed-requires-clause-owned
start_fed-requires-clause-owned g c =
    let v : Active = g.O.Order.active c.take_first.new.order in
    parts_owned (g.O.Order.active c.args.order.now) v v (end_stock c.args.table.eof) (end_stock c.take_first.new.eof) (id_stock c.in-Ok.id) (tasks_stock c.args.kids.now.items) c.requires.owned c.in-Ok.ensures.moved

-- its child has it

pub returns-in_ok-start_fed-in-Ok-clause-moved : goal.returns-in_ok-start_fed-in-Ok-clause-moved
returns-in_ok-start_fed-in-Ok-clause-moved g c =
    table_moved (g.O.Order.active c.args.order.now) (g.O.Order.active c.take_first.new.order) (g.O.Order.active c.start_fed.new.order) (end_stock c.args.table.eof) (end_stock c.take_first.new.eof) (id_stock c.in-Ok.id) (tasks_stock c.args.kids.now.items)
    c.requires.owned c.in-Ok.ensures.moved (tasks_stock c.start_fed.new.kids.items) c.start_fed.ensures.moved

pub returns-in_ok-start_fed-in-Ok-clause-done : goal.returns-in_ok-start_fed-in-Ok-clause-done
returns-in_ok-start_fed-in-Ok-clause-done g c = λ s n mind left q.
    let a = allowed_in c.args.ctx.now in
    let p = c.args.table.chunk in
    let f = form_at c.args.table.stats.item (piece_type p) in
    let e = c.args.table.eof in
    let ks = row c.args.kids.now.items in
    table_done s c.args.name.now n mind ks f e p (g.O.Order.outlet c.args.order.now) a left (g.O.Order.outlet c.start_fed.new.order) (row c.start_fed.new.kids.items) q c.in_ok-start_fed-in-Ok.ensures.allowed c.in-Ok.ensures.fits
    (subst (λ z. Counted z (first_indices f false z)) c.in-Ok.ensures.next c.in_ok-start_fed-in-Ok.ensures.fit)
    (c.in_ok-start_fed-in-Ok.ensures.kids ∙ (λ j. add ks (started_task f false (under c.args.name.now 1) (c.in-Ok.ensures.next j) ((c.in-Ok.ensures.id j, p) ∷ []) true)))
    (c.start_fed.ensures.outlet ∙ c.take_first.ensures.outlet)

pub returns-in_err-start_fed-in-Ok-clause-moved : goal.returns-in_err-start_fed-in-Ok-clause-moved
returns-in_err-start_fed-in-Ok-clause-moved g c =
    table_moved (g.O.Order.active c.args.order.now) (g.O.Order.active c.take_first.new.order) (g.O.Order.active c.start_fed.new.order) (end_stock c.args.table.eof) (end_stock c.take_first.new.eof) (id_stock c.in-Ok.id) (tasks_stock c.args.kids.now.items)
    c.requires.owned c.in-Ok.ensures.moved (tasks_stock c.start_fed.new.kids.items) c.start_fed.ensures.moved

pub returns-in_err-start_fed-in-Ok-clause-refused : goal.returns-in_err-start_fed-in-Ok-clause-refused
returns-in_err-start_fed-in-Ok-clause-refused g c =
    let p = err_from_is_err_and c.from_residual.result c.from_residual.ensures.1 in
    let f = form_at c.args.table.stats.item (piece_type c.args.table.chunk) in
    rw (p.1, p.2) (λ s n mind q.
    table_fails s c.args.name.now n mind (row c.args.kids.now.items) f c.args.table.eof c.args.table.chunk (g.O.Order.outlet c.args.order.now) (allowed_in c.args.ctx.now) c.in_err-start_fed-in-Ok.field-0.0 q
    (subst (λ z. FormRefused (allowed_in c.args.ctx.now) f false z c.in_err-start_fed-in-Ok.field-0.0) c.in-Ok.ensures.next c.in_err-start_fed-in-Ok.ensures.refused))

-- its pointer can't go on

pub give_up_pointer-requires : goal.give_up_pointer-requires
give_up_pointer-requires g c =
    table_left (g.O.Order.active c.args.order.now) (g.O.Order.active c.take_first.new.order) (end_stock c.args.table.eof) (end_stock c.take_first.new.eof) (tasks_stock c.args.kids.now.items) c.requires.owned c.in-Err.ensures.moved

pub returns-in-Err-clause-moved : goal.returns-in-Err-clause-moved
returns-in-Err-clause-moved g c =
    table_unmoved (g.O.Order.active c.args.order.now) (g.O.Order.active c.take_first.new.order) (g.O.Order.active c.give_up_pointer.new.order) (end_stock c.args.table.eof) (end_stock c.take_first.new.eof) (tasks_stock c.args.kids.now.items)
    c.requires.owned c.in-Err.ensures.moved c.give_up_pointer.ensures.moved

pub returns-in-Err-clause-refused : goal.returns-in-Err-clause-refused
returns-in-Err-clause-refused g c = λ s n mind q.
    pointer_fails s c.args.name.now n mind (row c.args.kids.now.items) (form_at c.args.table.stats.item (piece_type c.args.table.chunk)) c.args.table.eof c.args.table.chunk (g.O.Order.outlet c.args.order.now) c.in-Err.error c.in-Err.ensures.refused
