use Rattle.std.proofs.Common.{◌≡◌, length, sym, ap, subst, ◌∙◌}
use Rattle.std.specs.Arc.{arc_value}
use Rattle.std.proofs.lemmas.Result.{err_from_is_err_and}
use Rattle.vx_path.specs.Path.{under}
use Rattle.vx_machine_ids.specs.Stock.{end_stock}
use Rattle.vx_machine_turns.specs.Forms.{Form}
use Rattle.vx_machine_state.specs.Start.{first_indices}
use Rattle.vx_sink.specs.ContextView.{allowed_in}
use Rattle.vx_machine_node.specs.Outcome.{AllFit}
use Rattle.vx_machine_node.specs.View.{form_at, form_of, coder_in}
use Rattle.vx_machine_task.specs.Ledger.{tasks_reserved}
use Rattle.vx_machine_start.specs.Starting.{IsAllowed, FormRefused}
use Rattle.vx_machine_children.proofs.DictStarts.{value_moved, lost_moved, value_reserved, fallback_kids}
use Rattle.vx_machine_start.proofs.StartRows.{started_none}
use Rattle.vx_machine_children.proofs.dict_start.start_fallback.Goals as goal

pub returns-in_ok-kid-in-Ok-clause-moved : goal.returns-in_ok-kid-in-Ok-clause-moved
returns-in_ok-kid-in-Ok-clause-moved g c =
    value_moved (g.O.Order.active c.args.order.now) (g.O.Order.active c.start_task.new.order) (end_stock c.args.pointer) c.args.kids.now.items c.child_parts.new.kids.items c.push_reserved.new.self.items c.in_ok-kid-in-Ok.kid
    c.child_parts.ensures.kids c.push_reserved.ensures.items c.requires c.in_ok-kid-in-Ok.ensures.moved

pub returns-in_ok-kid-in-Ok-clause-reserved : goal.returns-in_ok-kid-in-Ok-clause-reserved
returns-in_ok-kid-in-Ok-clause-reserved g c =
    value_reserved c.args.kids.now.items c.child_parts.new.kids.items c.push_reserved.new.self.items c.in_ok-kid-in-Ok.kid c.child_parts.ensures.kids c.push_reserved.ensures.items
    (started_none (allowed_in c.args.ctx.now) (form_of c.strategy-child.result.now (arc_value c.in-Ok.dtype)) c.args.node.now.marked c.in-Ok.name c.args.pointer c.in_ok-kid-in-Ok.kid c.in_ok-kid-in-Ok.ensures.shows)

pub returns-in_ok-kid-in-Ok-clause-allowed : goal.returns-in_ok-kid-in-Ok-clause-allowed
returns-in_ok-kid-in-Ok-clause-allowed g c =
    let f : form_of c.strategy-child.result.now (arc_value c.in-Ok.dtype) ≡ (coder_in c.args.node.now).fallback = λ j. form_at (c.strategy-child.ensures.same j) (c.in-Ok.ensures.dtype j) in
    subst (λ z. IsAllowed (allowed_in c.args.ctx.now) z c.args.node.now.marked) f c.in_ok-kid-in-Ok.ensures.shows.allowed

pub returns-in_ok-kid-in-Ok-clause-counted : goal.returns-in_ok-kid-in-Ok-clause-counted
returns-in_ok-kid-in-Ok-clause-counted g c =
    let f : form_of c.strategy-child.result.now (arc_value c.in-Ok.dtype) ≡ (coder_in c.args.node.now).fallback = λ j. form_at (c.strategy-child.ensures.same j) (c.in-Ok.ensures.dtype j) in
    subst (λ z. AllFit (first_indices z c.args.node.now.marked c.args.pointer)) f (c.in_ok-kid-in-Ok.ensures.shows.counted c.index_fits.ensures)

pub returns-in_ok-kid-in-Ok-clause-kids : goal.returns-in_ok-kid-in-Ok-clause-kids
returns-in_ok-kid-in-Ok-clause-kids g c =
    fallback_kids (allowed_in c.args.ctx.now) (form_of c.strategy-child.result.now (arc_value c.in-Ok.dtype)) (coder_in c.args.node.now).fallback c.args.node.now.marked c.in-Ok.name (under c.args.name.now (length c.args.kids.now.items)) c.args.pointer c.in_ok-kid-in-Ok.kid
    c.args.kids.now.items c.child_parts.new.kids.items c.push_reserved.new.self.items (λ j. form_at (c.strategy-child.ensures.same j) (c.in-Ok.ensures.dtype j)) (c.in-Ok.ensures.name ∙ ap (under c.args.name.now) c.args.kids.now.ok.0)
    c.in_ok-kid-in-Ok.ensures.shows c.child_parts.ensures.kids c.push_reserved.ensures.items

pub returns-in_err-kid-in-Ok-clause-moved : goal.returns-in_err-kid-in-Ok-clause-moved
returns-in_err-kid-in-Ok-clause-moved g c =
    lost_moved (g.O.Order.active c.args.order.now) (g.O.Order.active c.start_task.new.order) (end_stock c.args.pointer) c.args.kids.now.items c.child_parts.new.kids.items c.child_parts.ensures.kids c.requires c.in_err-kid-in-Ok.ensures.moved

pub returns-in_err-kid-in-Ok-clause-reserved : goal.returns-in_err-kid-in-Ok-clause-reserved
returns-in_err-kid-in-Ok-clause-reserved g c = ap tasks_reserved c.child_parts.ensures.kids

pub returns-in_err-kid-in-Ok-clause-refused : goal.returns-in_err-kid-in-Ok-clause-refused
returns-in_err-kid-in-Ok-clause-refused g c =
    let p = err_from_is_err_and c.from_residual.result c.from_residual.ensures.1 in
    let f : form_of c.strategy-child.result.now (arc_value c.in-Ok.dtype) ≡ (coder_in c.args.node.now).fallback = λ j. form_at (c.strategy-child.ensures.same j) (c.in-Ok.ensures.dtype j) in
    rw (p.1, p.2) (subst (λ z. FormRefused (allowed_in c.args.ctx.now) z c.args.node.now.marked c.args.pointer c.in_err-kid-in-Ok.field-0.0) f c.in_err-kid-in-Ok.ensures.refused)

pub returns-in-Err-clause-moved : goal.returns-in-Err-clause-moved
returns-in-Err-clause-moved g c =
    lost_moved (g.O.Order.active c.args.order.now) (g.O.Order.active c.give_up_pointer.new.order) (end_stock c.args.pointer) c.args.kids.now.items c.child_parts.new.kids.items c.child_parts.ensures.kids c.requires c.give_up_pointer.ensures.moved

pub returns-in-Err-clause-reserved : goal.returns-in-Err-clause-reserved
returns-in-Err-clause-reserved g c = ap tasks_reserved c.child_parts.ensures.kids
