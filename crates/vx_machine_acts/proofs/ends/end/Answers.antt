use Rattle.std.proofs.Common.{◌≡◌, ap, subst, sym, ◌∙◌, arith}
use Rattle.vx_machine_ids.specs.Stock.{none, both}
use Rattle.vx_machine_ids.specs.Balance.{Moved}
use Rattle.vx_machine_node.specs.Ledger.{dues_reserved, local_reserved}
use Rattle.vx_machine_node.specs.Stocks.{dues_stock, local_stock}
use Rattle.vx_machine_acts.proofs.ActMoves.{stays_as, end_owned, end_moved, end_local, end_then}
use Rattle.std.proofs.lemmas.Result.{err_from_is_err_and}
use Rattle.vx_machine_nodes.specs.Acting.{is_probe, EndRefused}
use Rattle.vx_machine_node.specs.View.{todo_of}
use Rattle.vx_machine_acts.proofs.TakeShows.{ended_by}
use Rattle.vx_machine_acts.proofs.ends.end.Goals as goal

pub returns-in_err-reserve-clause-moved : goal.returns-in_err-reserve-clause-moved
returns-in_err-reserve-clause-moved g c =
    stays_as (g.O.Order.active c.args.order.now) (both (local_stock c.args.local.now) (dues_stock c.args.todo.now.items)) (both (local_stock c.args.local.now) (dues_stock c.reserve.new.self.items))
    (ap (λ z. both (local_stock c.args.local.now) (dues_stock z)) (sym c.reserve.ensures.items)) c.requires.owned

pub ended-requires-clause-owned : goal.ended-requires-clause-owned
ended-requires-clause-owned g c =
    end_owned (g.O.Order.active c.args.order.now) (g.O.Order.active c.args.order.now) (local_stock c.args.local.now) (dues_stock c.args.todo.now.items) (local_stock c.replace-before.result) (dues_stock c.reserve.new.self.items) none none
    (ap local_stock c.replace-before.ensures.value) (ap dues_stock c.reserve.ensures.items) c.requires.owned

pub ended-requires-clause-other : goal.ended-requires-clause-other
ended-requires-clause-other g c = ap is_probe c.replace-before.ensures.value ∙ c.requires.other

pub set_local-requires-clause-owned : goal.set_local-requires-clause-owned
set_local-requires-clause-owned g c =
    end_local (g.O.Order.active c.args.order.now) (g.O.Order.active c.ended.new.order) (local_stock c.args.local.now) (dues_stock c.args.todo.now.items) (local_stock c.replace-before.result) (dues_stock c.reserve.new.self.items)
    (local_stock c.in-Ok.after) (dues_stock c.ended.new.todo.items)
    (ap local_stock c.replace-before.ensures.value) (ap dues_stock c.reserve.ensures.items) c.requires.owned
    (local_stock c.replace-before.new.dest) (ap local_stock c.replace-before.ensures.after) c.in-Ok.ensures.moved

pub returns-in-Ok-clause-moved : goal.returns-in-Ok-clause-moved
returns-in-Ok-clause-moved g c =
    end_then (g.O.Order.active c.args.order.now) (g.O.Order.active c.ended.new.order) (local_stock c.args.local.now) (dues_stock c.args.todo.now.items) (local_stock c.replace-before.result) (dues_stock c.reserve.new.self.items)
    (local_stock c.in-Ok.after) (dues_stock c.ended.new.todo.items)
    (ap local_stock c.replace-before.ensures.value) (ap dues_stock c.reserve.ensures.items) c.requires.owned
    (g.O.Order.active c.set_local.new.order) (local_stock c.replace-before.new.dest) (local_stock c.set_local.new.local) (ap local_stock c.replace-before.ensures.after) c.in-Ok.ensures.moved c.set_local.ensures.moved

pub returns-in-Err-clause-moved : goal.returns-in-Err-clause-moved
returns-in-Err-clause-moved g c =
    end_moved (g.O.Order.active c.args.order.now) (g.O.Order.active c.ended.new.order) (local_stock c.args.local.now) (dues_stock c.args.todo.now.items) (local_stock c.replace-before.result) (dues_stock c.reserve.new.self.items)
    (local_stock c.replace-before.new.dest) (dues_stock c.ended.new.todo.items)
    (ap local_stock c.replace-before.ensures.value) (ap dues_stock c.reserve.ensures.items) c.requires.owned
    (subst (λ z. Moved (g.O.Order.active c.args.order.now) (g.O.Order.active c.ended.new.order) (both (local_stock c.replace-before.result) (dues_stock c.reserve.new.self.items)) (both z (dues_stock c.ended.new.todo.items)))
    (sym (ap local_stock c.replace-before.ensures.after)) c.in-Err.ensures.moved)

pub returns-in-Ok-clause-done : goal.returns-in-Ok-clause-done
returns-in-Ok-clause-done g c = λ idle.
    ended_by c.args.local.now c.replace-before.result c.in-Ok.after c.set_local.new.local c.args.kids (todo_of c.ended.new.todo.items) c.reserve.new.self.items c.args.todo.now.items
    c.replace-before.ensures.value c.set_local.ensures.local c.reserve.ensures.items (c.in-Ok.ensures.done (c.reserve.ensures.items ∙ idle))

pub returns-in_err-reserve-clause-refused : goal.returns-in_err-reserve-clause-refused
returns-in_err-reserve-clause-refused g c =
    let p = err_from_is_err_and c.from_residual.result c.from_residual.ensures.1 in
    rw (p.1, p.2) (λ s ks same. tt)

pub returns-in-Err-clause-refused : goal.returns-in-Err-clause-refused
returns-in-Err-clause-refused g c = subst (λ l. EndRefused l c.args.kids c.in-Err.error) c.replace-before.ensures.value c.in-Err.ensures.refused

-- ---- what is reserved

pub returns-in_err-reserve-clause-tracked : goal.returns-in_err-reserve-clause-tracked
returns-in_err-reserve-clause-tracked g c =
    let d : dues_reserved c.reserve.new.self.items ≡ dues_reserved c.args.todo.now.items = ap dues_reserved c.reserve.ensures.items in
    omega (arith, d)

pub ended-requires-clause-reserved : goal.ended-requires-clause-reserved
ended-requires-clause-reserved g c =
    let l : local_reserved c.replace-before.result ≡ local_reserved c.args.local.now = ap local_reserved c.replace-before.ensures.value in
    let d : dues_reserved c.reserve.new.self.items ≡ dues_reserved c.args.todo.now.items = ap dues_reserved c.reserve.ensures.items in
    omega (arith, l, d, c.requires.reserved)

pub set_local-requires-clause-reserved : goal.set_local-requires-clause-reserved
set_local-requires-clause-reserved g c =
    let n : local_reserved c.replace-before.new.dest ≡ 0 = ap local_reserved c.replace-before.ensures.after in
    omega (arith, n)

pub returns-in-Ok-clause-tracked : goal.returns-in-Ok-clause-tracked
returns-in-Ok-clause-tracked g c =
    let l : local_reserved c.replace-before.result ≡ local_reserved c.args.local.now = ap local_reserved c.replace-before.ensures.value in
    let d : dues_reserved c.reserve.new.self.items ≡ dues_reserved c.args.todo.now.items = ap dues_reserved c.reserve.ensures.items in
    let n : local_reserved c.replace-before.new.dest ≡ 0 = ap local_reserved c.replace-before.ensures.after in
    let s : local_reserved c.set_local.new.local ≡ local_reserved c.in-Ok.after = ap local_reserved c.set_local.ensures.local in
    omega (arith, l, d, n, s, c.in-Ok.ensures.tracked, c.set_local.ensures.tracked)

pub returns-in-Err-clause-tracked : goal.returns-in-Err-clause-tracked
returns-in-Err-clause-tracked g c =
    let l : local_reserved c.replace-before.result ≡ local_reserved c.args.local.now = ap local_reserved c.replace-before.ensures.value in
    let d : dues_reserved c.reserve.new.self.items ≡ dues_reserved c.args.todo.now.items = ap dues_reserved c.reserve.ensures.items in
    let n : local_reserved c.replace-before.new.dest ≡ 0 = ap local_reserved c.replace-before.ensures.after in
    omega (arith, l, d, n, c.in-Err.ensures.tracked)

pub returns-in-Ok-clause-context : goal.returns-in-Ok-clause-context
returns-in-Ok-clause-context g c = c.set_local.ensures.context ∙ c.ended.ensures.context
