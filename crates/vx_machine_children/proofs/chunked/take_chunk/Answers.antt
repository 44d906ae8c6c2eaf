use Rattle.std.proofs.Common.{◌≡◌, ◌+◌, [], ◌∷◌, ◌++◌, length, ap, ◌∙◌, arith}
use Rattle.vx_machine_ids.specs.Stock.{end_stock}
use Rattle.vx_machine_node.specs.Stocks.{item_stock}
use Rattle.vx_machine_start.proofs.StartMoves.{fed_moved}
use Rattle.vx_path.specs.Path.{under, inside}
use Rattle.vx_machine_task.specs.Ledger.{task_reserved, tasks_reserved}
use Rattle.vx_machine_task.proofs.ReservedSteps.{tasks_push}
use Rattle.vx_machine_start.proofs.StartRows.{started_none, chunk_row}
use Rattle.vx_machine_state.specs.Start.{first_indices}
use Rattle.vx_machine_node.specs.View.{item_of, child_form}
use Rattle.vx_machine_node.proofs.Fitting.{then_fit}
use Rattle.vx_sink.specs.ContextView.{allowed_in}
use Rattle.vx_machine_children.proofs.chunked.take_chunk.Goals as goal

pub returns-in_ok-kid-in-Ok-clause-moved : goal.returns-in_ok-kid-in-Ok-clause-moved
returns-in_ok-kid-in-Ok-clause-moved g c =
    fed_moved (g.O.Order.active c.args.order.now) (g.O.Order.active c.next_child.new.order) (g.O.Order.active c.fed.new.order)
    (end_stock c.args.eof.now) (end_stock c.next_child.new.eof) (item_stock c.args.item) c.args.kids.now.items c.push_reserved.new.self.items c.in-Ok.kid c.in_ok-kid-in-Ok.kid
    c.requires c.in-Ok.ensures.moved c.in_ok-kid-in-Ok.ensures.moved
    (c.push_reserved.ensures.items ∙ ap (λ z. z ++ (c.in_ok-kid-in-Ok.kid ∷ [])) c.next_child.ensures.kids)

pub returns-in_ok-kid-in-Ok-clause-allowed : goal.returns-in_ok-kid-in-Ok-clause-allowed
returns-in_ok-kid-in-Ok-clause-allowed g c = c.in-Ok.ensures.started.allowed

pub returns-in_ok-kid-in-Ok-clause-counted : goal.returns-in_ok-kid-in-Ok-clause-counted
returns-in_ok-kid-in-Ok-clause-counted g c =
    then_fit (c.args.eof.now.last + 1) (first_indices (child_form c.args.node.now) c.args.node.now.marked (inside c.args.eof.now)) c.in-Ok.ensures.fits (c.in-Ok.ensures.started.counted (omega arith))

pub returns-in_ok-kid-in-Ok-clause-kids : goal.returns-in_ok-kid-in-Ok-clause-kids
returns-in_ok-kid-in-Ok-clause-kids g c =
    chunk_row (allowed_in c.args.ctx.now) (child_form c.args.node.now) c.args.node.now.marked c.args.name.now (inside c.args.eof.now) c.in-Ok.kid c.in_ok-kid-in-Ok.kid (item_of c.args.item) c.args.kids.now.items c.push_reserved.new.self.items
    c.in-Ok.ensures.started c.in_ok-kid-in-Ok.ensures.fed (c.push_reserved.ensures.items ∙ ap (λ z. z ++ (c.in_ok-kid-in-Ok.kid ∷ [])) c.next_child.ensures.kids)

-- the child that was started has reserved nothing

pub fed-requires-clause-reserved : goal.fed-requires-clause-reserved
fed-requires-clause-reserved g c =
    omega (arith, started_none (allowed_in c.args.ctx.now) (child_form c.args.node.now) c.args.node.now.marked (under c.args.name.now (length c.args.kids.now.items)) (inside c.args.eof.now) c.in-Ok.kid c.in-Ok.ensures.started)

pub returns-in_ok-kid-in-Ok-clause-tracked : goal.returns-in_ok-kid-in-Ok-clause-tracked
returns-in_ok-kid-in-Ok-clause-tracked g c =
    let n : task_reserved c.in-Ok.kid ≡ 0 = started_none (allowed_in c.args.ctx.now) (child_form c.args.node.now) c.args.node.now.marked (under c.args.name.now (length c.args.kids.now.items)) (inside c.args.eof.now) c.in-Ok.kid c.in-Ok.ensures.started in
    let p : tasks_reserved c.push_reserved.new.self.items ≡ tasks_reserved c.args.kids.now.items + task_reserved c.in_ok-kid-in-Ok.kid =
    tasks_push c.push_reserved.new.self.items c.args.kids.now.items c.in_ok-kid-in-Ok.kid (c.push_reserved.ensures.items ∙ ap (λ z. z ++ (c.in_ok-kid-in-Ok.kid ∷ [])) c.next_child.ensures.kids) in
    omega (arith, n, p, c.in_ok-kid-in-Ok.ensures.tracked)

pub returns-in_err-kid-in-Ok-clause-tracked : goal.returns-in_err-kid-in-Ok-clause-tracked
returns-in_err-kid-in-Ok-clause-tracked g c =
    let n : task_reserved c.in-Ok.kid ≡ 0 = started_none (allowed_in c.args.ctx.now) (child_form c.args.node.now) c.args.node.now.marked (under c.args.name.now (length c.args.kids.now.items)) (inside c.args.eof.now) c.in-Ok.kid c.in-Ok.ensures.started in
    let k : tasks_reserved c.next_child.new.kids.items ≡ tasks_reserved c.args.kids.now.items = ap tasks_reserved c.next_child.ensures.kids in
    omega (arith, n, k, c.in_err-kid-in-Ok.ensures.tracked)

pub returns-in-Err-clause-tracked : goal.returns-in-Err-clause-tracked
returns-in-Err-clause-tracked g c =
    let k : tasks_reserved c.next_child.new.kids.items ≡ tasks_reserved c.args.kids.now.items = ap tasks_reserved c.next_child.ensures.kids in
    omega (arith, k)
