use Rattle.std.proofs.Common.{◌≡◌, refl, sym, ap, subst, ◌∙◌, arith}
use Rattle.vx_sink.specs.ContextView.{counted}
use Rattle.vx_machine_ids.specs.Stock.{both}
use Rattle.vx_machine_ids.specs.Balance.{Moved}
use Rattle.vx_machine_ids.proofs.MoveLaws.{owned_as}
use Rattle.vx_machine_nodes.specs.Acting.{is_grouped}
use Rattle.vx_machine_node.specs.Ledger.{local_reserved, node_reserved}
use Rattle.vx_machine_node.specs.Stocks.{item_stock, dues_stock, local_stock, node_stock}
use Rattle.vx_machine_node.specs.View.{todo_of}
use Rattle.vx_machine_node.specs.declared.node.Local.TheVariants.{Grouped}
use Rattle.vx_machine_acts.proofs.ActMoves.{end_local, end_moved, end_then}
use Rattle.vx_machine_acts.proofs.StopSteps.{took_by, stopped_by, grouped_only}
use Rattle.vx_machine_acts.proofs.takes.regroup.Goals as goal

pub unreachable-requires : goal.unreachable-requires
unreachable-requires g c = grouped_only c.replace.result (ap is_grouped c.replace.ensures.value ∙ c.requires.grouped) c.in_default.not-Grouped

pub take_grouped-requires-clause-owned : goal.take_grouped-requires-clause-owned
take_grouped-requires-clause-owned g c =
    owned_as (g.O.Order.active c.args.order.now) (both (both (local_stock c.args.local.now) (dues_stock c.args.todo.now.items)) (item_stock c.args.item))
    (both (both (node_stock c.in-Grouped.node) (dues_stock c.args.todo.now.items)) (item_stock c.args.item))
    (ap (λ l. both (both (local_stock l) (dues_stock c.args.todo.now.items)) (item_stock c.args.item)) (sym c.replace.ensures.value ∙ c.in-Grouped.is)) c.requires.owned

pub take_grouped-requires-clause-reserved : goal.take_grouped-requires-clause-reserved
take_grouped-requires-clause-reserved g c =
    let l : local_reserved c.args.local.now ≡ node_reserved c.in-Grouped.node = ap local_reserved (sym c.replace.ensures.value ∙ c.in-Grouped.is) in
    omega (arith, l, c.requires.reserved)

pub set_local-requires-clause-owned : goal.set_local-requires-clause-owned
set_local-requires-clause-owned g c =
    end_local (g.O.Order.active c.args.order.now) (g.O.Order.active c.take_grouped.new.order) (both (local_stock c.args.local.now) (dues_stock c.args.todo.now.items)) (item_stock c.args.item)
    (both (node_stock c.in-Grouped.node) (dues_stock c.args.todo.now.items)) (item_stock c.args.item) (node_stock c.in-Ok.node) (dues_stock c.take_grouped.new.todo.items)
    (sym (ap (λ l. both (local_stock l) (dues_stock c.args.todo.now.items)) (sym c.replace.ensures.value ∙ c.in-Grouped.is))) refl c.requires.owned
    (local_stock c.replace.new.dest) (ap local_stock c.replace.ensures.after) c.in-Ok.ensures.moved

pub set_local-requires-clause-reserved : goal.set_local-requires-clause-reserved
set_local-requires-clause-reserved g c =
    let n : local_reserved c.replace.new.dest ≡ 0 = ap local_reserved c.replace.ensures.after in
    omega (arith, n)

pub returns-in-Ok-clause-moved : goal.returns-in-Ok-clause-moved
returns-in-Ok-clause-moved g c =
    end_then (g.O.Order.active c.args.order.now) (g.O.Order.active c.take_grouped.new.order) (both (local_stock c.args.local.now) (dues_stock c.args.todo.now.items)) (item_stock c.args.item)
    (both (node_stock c.in-Grouped.node) (dues_stock c.args.todo.now.items)) (item_stock c.args.item) (node_stock c.in-Ok.node) (dues_stock c.take_grouped.new.todo.items)
    (sym (ap (λ l. both (local_stock l) (dues_stock c.args.todo.now.items)) (sym c.replace.ensures.value ∙ c.in-Grouped.is))) refl c.requires.owned
    (g.O.Order.active c.set_local.new.order) (local_stock c.replace.new.dest) (local_stock c.set_local.new.local) (ap local_stock c.replace.ensures.after) c.in-Ok.ensures.moved c.set_local.ensures.moved

pub returns-in-Err-clause-moved : goal.returns-in-Err-clause-moved
returns-in-Err-clause-moved g c =
    let s = both (both (node_stock c.in-Grouped.node) (dues_stock c.args.todo.now.items)) (item_stock c.args.item) in
    end_moved (g.O.Order.active c.args.order.now) (g.O.Order.active c.take_grouped.new.order) (both (local_stock c.args.local.now) (dues_stock c.args.todo.now.items)) (item_stock c.args.item)
    (both (node_stock c.in-Grouped.node) (dues_stock c.args.todo.now.items)) (item_stock c.args.item) (local_stock c.replace.new.dest) (dues_stock c.take_grouped.new.todo.items)
    (sym (ap (λ l. both (local_stock l) (dues_stock c.args.todo.now.items)) (sym c.replace.ensures.value ∙ c.in-Grouped.is))) refl c.requires.owned
    (subst (λ z. Moved (g.O.Order.active c.args.order.now) (g.O.Order.active c.take_grouped.new.order) s (both z (dues_stock c.take_grouped.new.todo.items))) (sym (ap local_stock c.replace.ensures.after)) c.in-Err.ensures.moved)

pub returns-in-Ok-clause-tracked : goal.returns-in-Ok-clause-tracked
returns-in-Ok-clause-tracked g c =
    let l : local_reserved c.args.local.now ≡ node_reserved c.in-Grouped.node = ap local_reserved (sym c.replace.ensures.value ∙ c.in-Grouped.is) in
    let n : local_reserved c.replace.new.dest ≡ 0 = ap local_reserved c.replace.ensures.after in
    let s : local_reserved c.set_local.new.local ≡ node_reserved c.in-Ok.node = ap local_reserved c.set_local.ensures.local in
    omega (arith, l, n, s, c.in-Ok.ensures.tracked, c.set_local.ensures.tracked)

pub returns-in-Err-clause-tracked : goal.returns-in-Err-clause-tracked
returns-in-Err-clause-tracked g c =
    let l : local_reserved c.args.local.now ≡ node_reserved c.in-Grouped.node = ap local_reserved (sym c.replace.ensures.value ∙ c.in-Grouped.is) in
    let n : local_reserved c.replace.new.dest ≡ 0 = ap local_reserved c.replace.ensures.after in
    omega (arith, l, n, c.in-Err.ensures.tracked)

pub returns-in-Ok-clause-context : goal.returns-in-Ok-clause-context
returns-in-Ok-clause-context g c = c.set_local.ensures.context ∙ c.take_grouped.ensures.context

pub returns-in-Ok-clause-done : goal.returns-in-Ok-clause-done
returns-in-Ok-clause-done g c = λ s name ks.
    took_by s name ks c.args.item c.args.local.now (Grouped c.in-Grouped.node) (sym c.replace.ensures.value ∙ c.in-Grouped.is) (Grouped c.in-Ok.node) c.set_local.new.local
    (todo_of c.take_grouped.new.todo.items) (todo_of c.args.todo.now.items) c.set_local.ensures.local (c.in-Ok.ensures.done s name ks)

pub returns-in-Err-clause-refused : goal.returns-in-Err-clause-refused
returns-in-Err-clause-refused g c = λ s name ks.
    stopped_by s name ks c.args.item c.args.local.now (Grouped c.in-Grouped.node) (sym c.replace.ensures.value ∙ c.in-Grouped.is) (counted c.args.ctx.now) c.in-Err.error (c.in-Err.ensures.refused s name ks)
