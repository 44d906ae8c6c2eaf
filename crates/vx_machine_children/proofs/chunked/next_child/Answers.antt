use Rattle.std.proofs.Common.{sym, subst, length, ap, ◌∙◌}
use Rattle.std.proofs.lemmas.Result.{err_from_is_err_and}
use Rattle.vx_sequence.specs.Universe.{Active}
use Rattle.vx_machine_ids.specs.Stock.{Stock, both, end_stock, ok_stock}
use Rattle.vx_machine_ids.specs.Balance.{Moved}
use Rattle.vx_machine_ids.proofs.Stocks.{both_none}
use Rattle.vx_machine_ids.proofs.MoveLaws.{moved_none}
use Rattle.vx_machine_task.specs.Stocks.{task_stock}
use Rattle.vx_machine_start.proofs.StartCauses.{start_may}
use Rattle.std.specs.Arc.{arc_value}
use Rattle.vx_path.specs.Path.{under, inside}
use Rattle.vx_model.specs.TyView.{ty}
use Rattle.vx_sink.specs.ContextView.{allowed_in}
use Rattle.vx_machine_start.proofs.StartRows.{started_as, one_refused_as}
use Rattle.vx_machine_children.proofs.chunked.next_child.Goals as goal

pub returns-in_err-name-clause-moved : goal.returns-in_err-name-clause-moved
returns-in_err-name-clause-moved g c =
    let u : Active = g.O.Order.active c.args.order.now in
    let e : Stock = end_stock c.args.eof.now in
    let p = err_from_is_err_and c.from_residual.result c.from_residual.ensures.1 in
    subst (λ r. Moved u u e (both e (ok_stock task_stock r))) (sym p.1) (subst (λ s. Moved u u e s) (sym (both_none e)) (moved_none u e c.requires))

pub returns-in_err-dtype-clause-moved : goal.returns-in_err-dtype-clause-moved
returns-in_err-dtype-clause-moved g c =
    let u : Active = g.O.Order.active c.args.order.now in
    let e : Stock = end_stock c.args.eof.now in
    let p = err_from_is_err_and c.from_residual-in_err-dtype.result c.from_residual-in_err-dtype.ensures.1 in
    subst (λ r. Moved u u e (both e (ok_stock task_stock r))) (sym p.1) (subst (λ s. Moved u u e s) (sym (both_none e)) (moved_none u e c.requires))

pub returns-in_err-kid-clause-moved : goal.returns-in_err-kid-clause-moved
returns-in_err-kid-clause-moved g c =
    let p = err_from_is_err_and c.from_residual-in_err-kid.result c.from_residual-in_err-kid.ensures.1 in
    subst (λ r. Moved (g.O.Order.active c.args.order.now) (g.O.Order.active c.start_under.new.order) (end_stock c.args.eof.now) (both (end_stock c.start_under.new.eof) (ok_stock task_stock r))) (sym p.1) c.in_err-kid.ensures.moved

pub returns-in_err-kid-clause-cause : goal.returns-in_err-kid-clause-cause
returns-in_err-kid-clause-cause g c =
    let p = err_from_is_err_and c.from_residual-in_err-kid.result c.from_residual-in_err-kid.ensures.1 in
    rw (p.1, p.2) (start_may c.in_err-kid.field-0.0 c.in_err-kid.ensures.cause)

pub returns-clause-started : goal.returns-clause-started
returns-clause-started g c =
    started_as (allowed_in c.args.ctx.now) c.args.node.now.child.item (ty (arc_value c.in_ok-dtype.dtype)) (ty (arc_value c.args.node.now.dtype)) c.args.node.now.marked c.in_ok-name.name (under c.args.name.now (length c.args.kids.now.items)) (inside c.args.eof.now) c.in_ok-kid.kid
    (ap ty c.in_ok-dtype.ensures) (c.in_ok-name.ensures.name ∙ ap (under c.args.name.now) c.args.kids.now.ok.0) c.in_ok-kid.ensures.shows

pub returns-in_err-kid-clause-refused : goal.returns-in_err-kid-clause-refused
returns-in_err-kid-clause-refused g c =
    let p = err_from_is_err_and c.from_residual-in_err-kid.result c.from_residual-in_err-kid.ensures.1 in
    rw (p.1, p.2) (one_refused_as (allowed_in c.args.ctx.now) c.args.node.now.child.item (ty (arc_value c.in_ok-dtype.dtype)) (ty (arc_value c.args.node.now.dtype)) c.args.node.now.marked c.args.eof.now c.in_err-kid.field-0.0
    (ap ty c.in_ok-dtype.ensures) c.in_err-kid.ensures.refused)
