use Rattle.std.proofs.Common.{◌≡◌, ◌+◌, [], ◌∷◌, None, refl, ap, subst, ◌∙◌, arith}
use Rattle.std.specs.Arc.{arc_value}
use Rattle.vx_machine_ids.specs.Stock.{end_stock}
use Rattle.vx_sink.specs.ContextView.{allowed_in}
use Rattle.vx_machine_state.specs.Acts.{probed}
use Rattle.vx_machine_node.specs.declared.dict_node.DictNode.{DictNode}
use Rattle.vx_machine_node.specs.declared.item.Due.TheVariants.{HandOn}
use Rattle.vx_machine_nodes.specs.Acting.{bare, Took, TakeRefused}
use Rattle.vx_machine_node.specs.Ledger.{dues_reserved, local_reserved}
use Rattle.vx_machine_node.specs.Stocks.{item_stock, dues_stock, local_stock, probe_stock, runs_stock}
use Rattle.vx_machine_node.specs.View.{coder_in, item_of, todo_of, mind_of}
use Rattle.vx_machine_children.proofs.StartCauses.{start_may}
use Rattle.vx_machine_task.specs.Stocks.{tasks_stock}
use Rattle.vx_machine_task.specs.View.{row}
use Rattle.vx_machine_tasks.proofs.DictActs.{coded_took, fell_took, fell_why, by_count, fell_owned, fell_item, fell_mind, fell_moved, fell_lost, probe_owned, probe_lost, runs_owned, runs_moved}
use Rattle.vx_machine_tasks.proofs.dict_acts.go_on.Goals as goal

-- ---- it cuts runs

pub first_runs-requires : goal.first_runs-requires
first_runs-requires g c =
    let u = g.O.Order.active c.args.order.now in
    probe_owned u u (local_stock c.args.local.now) (dues_stock c.args.todo.now.items) (tasks_stock c.args.kids.now.items) (probe_stock c.args.probe) c.requires.owned

pub returns-in_err-runs-clause-moved : goal.returns-in_err-runs-clause-moved
returns-in_err-runs-clause-moved g c =
    let t = dues_stock c.args.todo.now.items in
    probe_lost (g.O.Order.active c.args.order.now) (g.O.Order.active c.first_runs.new.order) (local_stock c.args.local.now) t (tasks_stock c.args.kids.now.items) (probe_stock c.args.probe) c.requires.owned t refl
    c.in_err-runs.ensures.moved

pub set_local-requires-clause-owned : goal.set_local-requires-clause-owned
set_local-requires-clause-owned g c =
    runs_owned (g.O.Order.active c.args.order.now) (g.O.Order.active c.first_runs.new.order) (local_stock c.args.local.now) (dues_stock c.args.todo.now.items) (tasks_stock c.args.kids.now.items) (probe_stock c.args.probe) c.requires.owned
    (runs_stock c.in_ok-runs.runs) c.in_ok-runs.ensures.moved

pub set_local-requires-clause-reserved : goal.set_local-requires-clause-reserved
set_local-requires-clause-reserved g c = omega (arith, c.requires.reserved)

pub returns-then-coded-clause-done : goal.returns-then-coded-clause-done
returns-then-coded-clause-done g c = λ s mind left q.
    coded_took s c.args.name.now mind (coder_in (arc_value c.args.probe.node)) c.args.probe.pointer (item_of c.args.probe.item) (row c.args.kids.now.items) c.args.coded (mind_of c.set_local.new.local) (todo_of c.args.todo.now.items)
    c.if-coded.true (ap mind_of c.set_local.ensures.local ∙ c.in_ok-runs.ensures.mind)

pub returns-then-coded-clause-moved : goal.returns-then-coded-clause-moved
returns-then-coded-clause-moved g c =
    runs_moved (g.O.Order.active c.args.order.now) (g.O.Order.active c.first_runs.new.order) (local_stock c.args.local.now) (dues_stock c.args.todo.now.items) (tasks_stock c.args.kids.now.items)
    (probe_stock c.args.probe) c.requires.owned (runs_stock c.in_ok-runs.runs) c.in_ok-runs.ensures.moved (g.O.Order.active c.set_local.new.order) (local_stock c.set_local.new.local) c.set_local.ensures.moved

pub returns-then-coded-clause-tracked : goal.returns-then-coded-clause-tracked
returns-then-coded-clause-tracked g c =
    let n : local_reserved c.set_local.new.local ≡ 0 = ap local_reserved c.set_local.ensures.local in
    omega (arith, n, c.set_local.ensures.tracked)

-- ---- no memory

pub give_up_probe-requires : goal.give_up_probe-requires
give_up_probe-requires g c =
    let u = g.O.Order.active c.args.order.now in
    probe_owned u u (local_stock c.args.local.now) (dues_stock c.args.todo.now.items) (tasks_stock c.args.kids.now.items) (probe_stock c.args.probe) c.requires.owned

pub returns-in-Err-clause-moved : goal.returns-in-Err-clause-moved
returns-in-Err-clause-moved g c =
    probe_lost (g.O.Order.active c.args.order.now) (g.O.Order.active c.give_up_probe.new.order) (local_stock c.args.local.now) (dues_stock c.args.todo.now.items) (tasks_stock c.args.kids.now.items) (probe_stock c.args.probe) c.requires.owned
    (dues_stock c.reserve.new.self.items) (ap dues_stock c.reserve.ensures.items) c.give_up_probe.ensures.moved

pub returns-in-Err-clause-same : goal.returns-in-Err-clause-same
returns-in-Err-clause-same g c = ap dues_reserved c.reserve.ensures.items

-- ---- the fallback

pub start_fallback-started-requires : goal.start_fallback-started-requires
start_fallback-started-requires g c =
    let u = g.O.Order.active c.args.order.now in
    let k = tasks_stock c.args.kids.now.items in
    fell_owned u u (local_stock c.args.local.now) (dues_stock c.args.todo.now.items) k (end_stock c.args.probe.pointer) (item_stock c.args.probe.item) k c.requires.owned

pub set_local-requires-in-Ok-clause-owned : goal.set_local-requires-in-Ok-clause-owned
set_local-requires-in-Ok-clause-owned g c =
    fell_mind (g.O.Order.active c.args.order.now) (g.O.Order.active c.start_fallback-started.new.order) (local_stock c.args.local.now) (dues_stock c.args.todo.now.items) (tasks_stock c.args.kids.now.items) (end_stock c.args.probe.pointer)
    (item_stock c.args.probe.item) (tasks_stock c.start_fallback-started.new.kids.items) c.requires.owned c.start_fallback-started.ensures.moved

pub set_local-requires-in-Ok-clause-reserved : goal.set_local-requires-in-Ok-clause-reserved
set_local-requires-in-Ok-clause-reserved g c = omega (arith, c.requires.reserved)

pub returns-in-Ok-clause-moved : goal.returns-in-Ok-clause-moved
returns-in-Ok-clause-moved g c =
    fell_moved (g.O.Order.active c.args.order.now) (g.O.Order.active c.start_fallback-started.new.order) (local_stock c.args.local.now) (dues_stock c.args.todo.now.items) (tasks_stock c.args.kids.now.items) (end_stock c.args.probe.pointer)
    (item_stock c.args.probe.item) (tasks_stock c.start_fallback-started.new.kids.items) c.requires.owned c.start_fallback-started.ensures.moved
    (g.O.Order.active c.set_local-in-Ok.new.order) (dues_stock c.push_front_reserved.new.self.items) (local_stock c.set_local-in-Ok.new.local)
    (ap dues_stock (c.push_front_reserved.ensures.items ∙ ap (λ z. HandOn c.args.probe.item None ∷ z) c.reserve.ensures.items)) c.set_local-in-Ok.ensures.moved

pub returns-in-Ok-clause-tracked : goal.returns-in-Ok-clause-tracked
returns-in-Ok-clause-tracked g c =
    let n : local_reserved c.set_local-in-Ok.new.local ≡ 0 = ap local_reserved c.set_local-in-Ok.ensures.local in
    omega (arith, n, c.set_local-in-Ok.ensures.tracked, c.start_fallback-started.ensures.reserved)

pub returns-in-Ok-clause-same : goal.returns-in-Ok-clause-same
returns-in-Ok-clause-same g c =
    let d : dues_reserved c.push_front_reserved.new.self.items ≡ 0 + dues_reserved c.args.todo.now.items =
    ap dues_reserved (c.push_front_reserved.ensures.items ∙ ap (λ z. HandOn c.args.probe.item None ∷ z) c.reserve.ensures.items) in
    omega (arith, d)

pub returns-in-Ok-clause-done : goal.returns-in-Ok-clause-done
returns-in-Ok-clause-done g c = λ s mind left q.
    let k = coder_in c.deref.result.now in
    let before = todo_of c.args.todo.now.items in
    let after = todo_of c.push_front_reserved.new.self.items in
    let kids = row c.start_fallback-started.new.kids.items in
    subst (λ (n : DictNode). Took (probed s c.args.coded (coder_in n) c.args.probe.pointer (item_of c.args.probe.item) [] (bare c.args.name.now mind) (row c.args.kids.now.items)) (mind_of c.set_local-in-Ok.new.local) after before kids)
    c.deref.ensures
    (fell_took s c.args.name.now mind k c.args.probe.pointer (item_of c.args.probe.item) (row c.args.kids.now.items) c.args.coded (mind_of c.set_local-in-Ok.new.local) after before kids c.if-coded.false
    (c.in-Ok.ensures.allowed s q) c.in-Ok.ensures.counted
    (by_count k.fallback k.mark c.args.name.now c.args.probe.pointer c.args.kids.now.items c.start_fallback-started.new.kids.items c.in-Ok.ensures.kids) (ap mind_of c.set_local-in-Ok.ensures.local)
    (ap todo_of (c.push_front_reserved.ensures.items ∙ ap (λ z. HandOn c.args.probe.item None ∷ z) c.reserve.ensures.items)))

pub give_up_item-requires : goal.give_up_item-requires
give_up_item-requires g c =
    fell_item (g.O.Order.active c.args.order.now) (g.O.Order.active c.start_fallback-started.new.order) (local_stock c.args.local.now) (dues_stock c.args.todo.now.items) (tasks_stock c.args.kids.now.items) (end_stock c.args.probe.pointer)
    (item_stock c.args.probe.item) (tasks_stock c.start_fallback-started.new.kids.items) c.requires.owned c.start_fallback-started.ensures.moved

pub returns-in-Err-started-clause-moved : goal.returns-in-Err-started-clause-moved
returns-in-Err-started-clause-moved g c =
    fell_lost (g.O.Order.active c.args.order.now) (g.O.Order.active c.start_fallback-started.new.order) (local_stock c.args.local.now) (dues_stock c.args.todo.now.items) (tasks_stock c.args.kids.now.items) (end_stock c.args.probe.pointer)
    (item_stock c.args.probe.item) (tasks_stock c.start_fallback-started.new.kids.items) c.requires.owned c.start_fallback-started.ensures.moved
    (g.O.Order.active c.give_up_item.new.order) (dues_stock c.reserve.new.self.items) (ap dues_stock c.reserve.ensures.items) c.give_up_item.ensures.moved

pub returns-in-Err-started-clause-tracked : goal.returns-in-Err-started-clause-tracked
returns-in-Err-started-clause-tracked g c = omega (arith, c.start_fallback-started.ensures.reserved)

pub returns-in-Err-started-clause-same : goal.returns-in-Err-started-clause-same
returns-in-Err-started-clause-same g c = ap dues_reserved c.reserve.ensures.items

pub returns-in-Err-started-clause-refused : goal.returns-in-Err-started-clause-refused
returns-in-Err-started-clause-refused g c = λ s mind q.
    subst (λ (n : DictNode). TakeRefused (probed s c.args.coded (coder_in n) c.args.probe.pointer (item_of c.args.probe.item) [] (bare c.args.name.now mind) (row c.args.kids.now.items)) c.in-Err-started.error) c.deref.ensures
    (fell_why s c.args.name.now mind (coder_in c.deref.result.now) c.args.probe.pointer (item_of c.args.probe.item) (row c.args.kids.now.items) c.args.coded (allowed_in c.args.ctx.now) c.in-Err-started.error c.if-coded.false q c.in-Err-started.ensures.refused)

pub returns-in-Err-started-clause-cause : goal.returns-in-Err-started-clause-cause
returns-in-Err-started-clause-cause g c = start_may c.in-Err-started.error c.in-Err-started.ensures.cause
