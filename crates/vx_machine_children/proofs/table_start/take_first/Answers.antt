use Rattle.std.proofs.Common.{sym, ap, subst, ◌∙◌}
use Rattle.std.proofs.lemmas.Result.{err_from_is_err_and}
use Rattle.vx_path.specs.Path.{Eof, eof_path}
use Rattle.vx_sequence.specs.Universe.{Active}
use Rattle.vx_machine_ids.specs.Stock.{Stock, none, both, id_stock, end_stock, ok_stock}
use Rattle.vx_machine_ids.specs.Balance.{Moved}
use Rattle.vx_machine_start.proofs.StartCauses.{full_starts, start_may}
use Rattle.vx_machine_start.proofs.CauseSteps.{full_refused}
use Rattle.vx_machine_start.proofs.StartMoves.{off_owned}
use Rattle.vx_machine_children.proofs.TableStarts.{first_moved, below_left, first_refused}
use Rattle.vx_machine_children.proofs.table_start.take_first.Goals as goal

-- no path is split off

pub returns-in_err-below-clause-moved : goal.returns-in_err-below-clause-moved
returns-in_err-below-clause-moved g c =
    let p = err_from_is_err_and c.from_residual.result c.from_residual.ensures.1 in
    subst (λ r. Moved (g.O.Order.active c.args.order.now) (g.O.Order.active c.take_below.new.order) (end_stock c.args.eof.now) (both (end_stock c.take_below.new.pointer) (ok_stock id_stock r))) (sym p.1) c.in_err-below.ensures.moved

pub returns-in_err-below-clause-refused : goal.returns-in_err-below-clause-refused
returns-in_err-below-clause-refused g c =
    let p = err_from_is_err_and c.from_residual.result c.from_residual.ensures.1 in
    rw (p.1, p.2) (full_refused c.args.eof.now.last c.in_err-below.field-0.0 c.in_err-below.ensures.full)

pub returns-in_err-below-clause-cause : goal.returns-in_err-below-clause-cause
returns-in_err-below-clause-cause g c =
    let p = err_from_is_err_and c.from_residual.result c.from_residual.ensures.1 in
    rw (p.1, p.2) (start_may _ (full_starts c.args.eof.now.last c.in_err-below.field-0.0 c.in_err-below.ensures.full))

-- an id of it

pub take_id-id-requires : goal.take_id-id-requires
take_id-id-requires g c =
    off_owned (g.O.Order.active c.args.order.now) (g.O.Order.active c.take_below.new.order) (end_stock c.args.eof.now) (end_stock c.take_below.new.pointer) (end_stock c.in_ok-below.below) c.requires c.in_ok-below.ensures.moved

pub give_up_pointer-requires : goal.give_up_pointer-requires
give_up_pointer-requires g c =
    below_left (g.O.Order.active c.args.order.now) (g.O.Order.active c.take_below.new.order) (g.O.Order.active c.take_id-id.new.order) (end_stock c.args.eof.now) (end_stock c.take_below.new.pointer) (end_stock c.in_ok-below.below)
    (end_stock c.take_id-id.new.pointer) (ok_stock id_stock c.take_id-id.result) c.requires c.in_ok-below.ensures.moved c.take_id-id.ensures.moved

pub returns-in_err-id-clause-moved : goal.returns-in_err-id-clause-moved
returns-in_err-id-clause-moved g c =
    let p = err_from_is_err_and c.from_residual-in_err-id.result c.from_residual-in_err-id.ensures.1 in
    let e : Stock = end_stock c.args.eof.now in
    let f : Stock = end_stock c.take_below.new.pointer in
    let u : Active = g.O.Order.active c.args.order.now in
    let x : Active = g.O.Order.active c.give_up_pointer.new.order in
    subst (λ r. Moved u x e (both f (ok_stock id_stock r))) (sym p.1)
    (first_moved u (g.O.Order.active c.take_below.new.order) (g.O.Order.active c.take_id-id.new.order) x e f (end_stock c.in_ok-below.below) (end_stock c.take_id-id.new.pointer) none c.requires c.in_ok-below.ensures.moved c.in_err-id.ensures.moved
    c.give_up_pointer.ensures.moved)

pub returns-in_err-id-clause-refused : goal.returns-in_err-id-clause-refused
returns-in_err-id-clause-refused g c =
    let p = err_from_is_err_and c.from_residual-in_err-id.result c.from_residual-in_err-id.ensures.1 in
    rw (p.1, p.2) (first_refused c.args.eof.now.last c.in_ok-below.below.last c.in_err-id.field-0.0 (ap (λ (z : Eof). z.last) c.in_ok-below.ensures.below) c.in_err-id.ensures.full)

pub returns-in_err-id-clause-cause : goal.returns-in_err-id-clause-cause
returns-in_err-id-clause-cause g c =
    let p = err_from_is_err_and c.from_residual-in_err-id.result c.from_residual-in_err-id.ensures.1 in
    rw (p.1, p.2) (start_may _ (full_starts c.in_ok-below.below.last c.in_err-id.field-0.0 c.in_err-id.ensures.full))

pub returns-clause-moved : goal.returns-clause-moved
returns-clause-moved g c =
    first_moved (g.O.Order.active c.args.order.now) (g.O.Order.active c.take_below.new.order) (g.O.Order.active c.take_id-id.new.order) (g.O.Order.active c.give_up_pointer.new.order) (end_stock c.args.eof.now) (end_stock c.take_below.new.pointer)
    (end_stock c.in_ok-below.below) (end_stock c.take_id-id.new.pointer) (id_stock c.in_ok-id.id) c.requires c.in_ok-below.ensures.moved c.in_ok-id.ensures.moved c.give_up_pointer.ensures.moved

pub returns-clause-id : goal.returns-clause-id
returns-clause-id g c = c.in_ok-id.ensures.id ∙ ap eof_path c.in_ok-below.ensures.below
