use Rattle.std.proofs.Common.{◌≡◌, refl, sym, ap, subst, ◌∙◌, arith}
use Rattle.std.proofs.lemmas.Bool.{true≢false}
use Rattle.vx_machine_ids.specs.Stock.{both}
use Rattle.vx_machine_ids.specs.Balance.{Moved}
use Rattle.vx_machine_ids.proofs.MoveLaws.{owned_as}
use Rattle.vx_machine_nodes.specs.Acting.{is_cutting}
use Rattle.vx_machine_node.specs.Ledger.{local_reserved}
use Rattle.vx_machine_node.specs.Stocks.{item_stock, dues_stock, local_stock, runs_stock}
use Rattle.vx_machine_node.specs.View.{todo_of}
use Rattle.vx_machine_node.specs.declared.node.Local.TheVariants.{Runs}
use Rattle.vx_machine_acts.proofs.ActMoves.{end_local, end_moved, end_then}
use Rattle.vx_machine_acts.proofs.StopSteps.{took_by, refused_by}
use Rattle.vx_machine_acts.proofs.TakeShows.{uncut}
use Rattle.vx_machine_acts.proofs.takes.cut_runs.Goals as goal

pub unreachable-requires : goal.unreachable-requires
unreachable-requires g c = true≢false (sym (ap is_cutting c.replace.ensures.value ∙ c.requires.cutting) ∙ uncut c.replace.result c.in_default.not-Runs)

pub take_runs-requires : goal.take_runs-requires
take_runs-requires g c =
    owned_as (g.O.Order.active c.args.order.now) (both (both (local_stock c.args.local.now) (dues_stock c.args.todo.now.items)) (item_stock c.args.item))
    (both (both (runs_stock c.in-Runs.runs) (dues_stock c.args.todo.now.items)) (item_stock c.args.item))
    (ap (λ l. both (both (local_stock l) (dues_stock c.args.todo.now.items)) (item_stock c.args.item)) (sym c.replace.ensures.value ∙ c.in-Runs.is)) c.requires.owned

pub set_local-requires-clause-owned : goal.set_local-requires-clause-owned
set_local-requires-clause-owned g c =
    end_local (g.O.Order.active c.args.order.now) (g.O.Order.active c.take_runs.new.order) (both (local_stock c.args.local.now) (dues_stock c.args.todo.now.items)) (item_stock c.args.item)
    (both (runs_stock c.in-Runs.runs) (dues_stock c.args.todo.now.items)) (item_stock c.args.item) (runs_stock c.in-Ok.runs) (dues_stock c.take_runs.new.todo.items)
    (sym (ap (λ l. both (local_stock l) (dues_stock c.args.todo.now.items)) (sym c.replace.ensures.value ∙ c.in-Runs.is))) refl c.requires.owned
    (local_stock c.replace.new.dest) (ap local_stock c.replace.ensures.after) c.in-Ok.ensures.moved

pub set_local-requires-clause-reserved : goal.set_local-requires-clause-reserved
set_local-requires-clause-reserved g c =
    let n : local_reserved c.replace.new.dest ≡ 0 = ap local_reserved c.replace.ensures.after in
    omega (arith, n)

pub returns-in-Ok-clause-moved : goal.returns-in-Ok-clause-moved
returns-in-Ok-clause-moved g c =
    end_then (g.O.Order.active c.args.order.now) (g.O.Order.active c.take_runs.new.order) (both (local_stock c.args.local.now) (dues_stock c.args.todo.now.items)) (item_stock c.args.item)
    (both (runs_stock c.in-Runs.runs) (dues_stock c.args.todo.now.items)) (item_stock c.args.item) (runs_stock c.in-Ok.runs) (dues_stock c.take_runs.new.todo.items)
    (sym (ap (λ l. both (local_stock l) (dues_stock c.args.todo.now.items)) (sym c.replace.ensures.value ∙ c.in-Runs.is))) refl c.requires.owned
    (g.O.Order.active c.set_local.new.order) (local_stock c.replace.new.dest) (local_stock c.set_local.new.local) (ap local_stock c.replace.ensures.after) c.in-Ok.ensures.moved c.set_local.ensures.moved

pub returns-in-Err-clause-moved : goal.returns-in-Err-clause-moved
returns-in-Err-clause-moved g c =
    let s = both (both (runs_stock c.in-Runs.runs) (dues_stock c.args.todo.now.items)) (item_stock c.args.item) in
    end_moved (g.O.Order.active c.args.order.now) (g.O.Order.active c.take_runs.new.order) (both (local_stock c.args.local.now) (dues_stock c.args.todo.now.items)) (item_stock c.args.item)
    (both (runs_stock c.in-Runs.runs) (dues_stock c.args.todo.now.items)) (item_stock c.args.item) (local_stock c.replace.new.dest) (dues_stock c.take_runs.new.todo.items)
    (sym (ap (λ l. both (local_stock l) (dues_stock c.args.todo.now.items)) (sym c.replace.ensures.value ∙ c.in-Runs.is))) refl c.requires.owned
    (subst (λ z. Moved (g.O.Order.active c.args.order.now) (g.O.Order.active c.take_runs.new.order) s (both z (dues_stock c.take_runs.new.todo.items))) (sym (ap local_stock c.replace.ensures.after)) c.in-Err.ensures.moved)

pub returns-in-Ok-clause-tracked : goal.returns-in-Ok-clause-tracked
returns-in-Ok-clause-tracked g c =
    let n : local_reserved c.replace.new.dest ≡ 0 = ap local_reserved c.replace.ensures.after in
    let s : local_reserved c.set_local.new.local ≡ 0 = ap local_reserved c.set_local.ensures.local in
    omega (arith, n, s, c.set_local.ensures.tracked)

pub returns-in-Ok-clause-unreserved : goal.returns-in-Ok-clause-unreserved
returns-in-Ok-clause-unreserved g c = (ap local_reserved (sym c.replace.ensures.value ∙ c.in-Runs.is), ap local_reserved c.set_local.ensures.local)

pub returns-in-Err-clause-unreserved : goal.returns-in-Err-clause-unreserved
returns-in-Err-clause-unreserved g c = (ap local_reserved (sym c.replace.ensures.value ∙ c.in-Runs.is), ap local_reserved c.replace.ensures.after)

pub returns-in-Ok-clause-done : goal.returns-in-Ok-clause-done
returns-in-Ok-clause-done g c = λ idle s name ks.
    took_by s name ks c.args.item c.args.local.now (Runs c.in-Runs.runs) (sym c.replace.ensures.value ∙ c.in-Runs.is) (Runs c.in-Ok.runs) c.set_local.new.local
    (todo_of c.take_runs.new.todo.items) (todo_of c.args.todo.now.items) c.set_local.ensures.local (c.in-Ok.ensures.done idle s name ks)

pub returns-in-Err-clause-refused : goal.returns-in-Err-clause-refused
returns-in-Err-clause-refused g c = λ s name ks.
    refused_by s name ks c.args.item c.args.local.now (Runs c.in-Runs.runs) (sym c.replace.ensures.value ∙ c.in-Runs.is) c.in-Err.error (c.in-Err.ensures.refused s name ks)
