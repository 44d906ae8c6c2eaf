use Rattle.std.proofs.Common.{◌≡◌, refl, sym, ap, ◌∙◌, arith}
use Rattle.std.specs.Arc.{arc_value}
use Rattle.std.proofs.lemmas.Bool.{true≢false}
use Rattle.std.proofs.lemmas.Result.{err_from_is_err_and}
use Rattle.vx_machine_ids.specs.Stock.{end_stock}
use Rattle.vx_sink.specs.ContextView.{allowed_in}
use Rattle.vx_machine_state.specs.State.{by_probe}
use Rattle.vx_machine_nodes.specs.Acting.{is_probe}
use Rattle.vx_machine_node.specs.Ledger.{dues_reserved, local_reserved}
use Rattle.vx_machine_node.specs.Stocks.{dues_stock, local_stock}
use Rattle.vx_machine_node.specs.View.{coder_in, todo_of, mind_of}
use Rattle.vx_machine_node.specs.declared.item.Due.TheVariants.{Close}
use Rattle.vx_machine_node.specs.declared.node.Local.TheVariants.{Probe}
use Rattle.vx_machine_children.proofs.StartCauses.{start_may}
use Rattle.vx_machine_node.proofs.DueSteps.{one_free}
use Rattle.vx_machine_node.proofs.ReservedSteps.{dues_push}
use Rattle.vx_machine_task.specs.Stocks.{tasks_stock}
use Rattle.vx_machine_task.specs.View.{row}
use Rattle.vx_machine_tasks.proofs.DictActs.{probe_ended, probe_kids, probe_why, by_count, end_owned, end_moved, end_stays, probe_free, close_due}
use Rattle.vx_machine_acts.proofs.TakeShows.{unprobed}
use Rattle.vx_machine_tasks.proofs.dict_acts.end_probe.Goals as goal

pub unreachable-requires : goal.unreachable-requires
unreachable-requires g c = true≢false (sym (ap is_probe c.replace.ensures.value ∙ c.requires.probe) ∙ unprobed c.replace.result c.in_default.not-Probe)

-- ---- no memory

pub returns-in_err-reserve-clause-moved : goal.returns-in_err-reserve-clause-moved
returns-in_err-reserve-clause-moved g c =
    end_stays (g.O.Order.active c.args.order.now) (local_stock c.args.local.now) (dues_stock c.args.todo.now.items) (tasks_stock c.args.kids.now.items) (dues_stock c.reserve.new.self.items) (ap dues_stock c.reserve.ensures.items) c.requires.owned

pub returns-in_err-reserve-clause-same : goal.returns-in_err-reserve-clause-same
returns-in_err-reserve-clause-same g c = ap dues_reserved c.reserve.ensures.items

pub returns-in_err-reserve-clause-unreserved : goal.returns-in_err-reserve-clause-unreserved
returns-in_err-reserve-clause-unreserved g c = (probe_free c.args.local.now c.requires.probe, probe_free c.args.local.now c.requires.probe)

pub returns-in_err-reserve-clause-refused : goal.returns-in_err-reserve-clause-refused
returns-in_err-reserve-clause-refused g c =
    let p = err_from_is_err_and c.from_residual.result c.from_residual.ensures.1 in
    rw (p.1, p.2) (λ s q. tt)

-- ---- the fallback

pub start_fallback-started-requires : goal.start_fallback-started-requires
start_fallback-started-requires g c =
    let u = g.O.Order.active c.args.order.now in
    let k = tasks_stock c.args.kids.now.items in
    end_owned u u (local_stock c.args.local.now) (end_stock c.in-Probe.pointer) (dues_stock c.args.todo.now.items) k k (ap local_stock (sym c.replace.ensures.value ∙ c.in-Probe.is)) c.requires.owned

pub returns-in_err-started-in-Probe-clause-moved : goal.returns-in_err-started-in-Probe-clause-moved
returns-in_err-started-in-Probe-clause-moved g c =
    end_moved (g.O.Order.active c.args.order.now) (g.O.Order.active c.start_fallback-started.new.order) (local_stock c.args.local.now) (end_stock c.in-Probe.pointer) (dues_stock c.args.todo.now.items)
    (tasks_stock c.args.kids.now.items) (tasks_stock c.start_fallback-started.new.kids.items) (ap local_stock (sym c.replace.ensures.value ∙ c.in-Probe.is)) c.requires.owned
    (local_stock c.replace.new.dest) (dues_stock c.reserve.new.self.items) (ap local_stock c.replace.ensures.after) (ap dues_stock c.reserve.ensures.items) c.start_fallback-started.ensures.moved

pub returns-in_err-started-in-Probe-clause-same : goal.returns-in_err-started-in-Probe-clause-same
returns-in_err-started-in-Probe-clause-same g c = ap dues_reserved c.reserve.ensures.items

pub returns-in_err-started-in-Probe-clause-unreserved : goal.returns-in_err-started-in-Probe-clause-unreserved
returns-in_err-started-in-Probe-clause-unreserved g c = (ap local_reserved (sym c.replace.ensures.value ∙ c.in-Probe.is), ap local_reserved c.replace.ensures.after)

pub returns-in_err-started-in-Probe-clause-refused : goal.returns-in_err-started-in-Probe-clause-refused
returns-in_err-started-in-Probe-clause-refused g c =
    let p = err_from_is_err_and c.from_residual-in_err-started-in-Probe.result c.from_residual-in_err-started-in-Probe.ensures.1 in
    let k = coder_in c.deref.result.now in
    rw (p.1, p.2) (λ s q.
    probe_why s c.args.name.now k c.in-Probe.pointer (row c.args.kids.now.items) (mind_of c.args.local.now)
    (ap mind_of (sym c.replace.ensures.value ∙ c.in-Probe.is) ∙ ap (λ n. by_probe (coder_in n) c.in-Probe.pointer) (sym c.deref.ensures))
    (allowed_in c.args.ctx.now) c.in_err-started-in-Probe.field-0.0 q c.in_err-started-in-Probe.ensures.refused)

pub returns-in_err-started-in-Probe-clause-cause : goal.returns-in_err-started-in-Probe-clause-cause
returns-in_err-started-in-Probe-clause-cause g c =
    let p = err_from_is_err_and c.from_residual-in_err-started-in-Probe.result c.from_residual-in_err-started-in-Probe.ensures.1 in
    rw (p.1, p.2) (start_may c.in_err-started-in-Probe.field-0.0 c.in_err-started-in-Probe.ensures.cause)

pub returns-clause-moved : goal.returns-clause-moved
returns-clause-moved g c =
    end_moved (g.O.Order.active c.args.order.now) (g.O.Order.active c.start_fallback-started.new.order) (local_stock c.args.local.now) (end_stock c.in-Probe.pointer) (dues_stock c.args.todo.now.items)
    (tasks_stock c.args.kids.now.items) (tasks_stock c.start_fallback-started.new.kids.items) (ap local_stock (sym c.replace.ensures.value ∙ c.in-Probe.is)) c.requires.owned
    (local_stock c.replace.new.dest) (dues_stock c.push_back_reserved.new.self.items) (ap local_stock c.replace.ensures.after)
    (one_free c.reserve.new.self.items c.push_back_reserved.new.self.items Close c.push_back_reserved.ensures.items refl ∙ ap dues_stock c.reserve.ensures.items) c.start_fallback-started.ensures.moved

pub returns-clause-same : goal.returns-clause-same
returns-clause-same g c =
    let d : dues_reserved c.reserve.new.self.items ≡ dues_reserved c.args.todo.now.items = ap dues_reserved c.reserve.ensures.items in
    omega (arith, d, dues_push c.push_back_reserved.new.self.items c.reserve.new.self.items Close c.push_back_reserved.ensures.items)

pub returns-clause-unreserved : goal.returns-clause-unreserved
returns-clause-unreserved g c = (ap local_reserved (sym c.replace.ensures.value ∙ c.in-Probe.is), ap local_reserved c.replace.ensures.after)

pub returns-clause-done : goal.returns-clause-done
returns-clause-done g c = λ s q.
    probe_ended s c.args.name.now (coder_in c.deref.result.now) c.in-Probe.pointer (row c.args.kids.now.items) (mind_of c.args.local.now)
    (ap mind_of (sym c.replace.ensures.value ∙ c.in-Probe.is) ∙ ap (λ n. by_probe (coder_in n) c.in-Probe.pointer) (sym c.deref.ensures))
    (mind_of c.replace.new.dest) (todo_of c.push_back_reserved.new.self.items) (todo_of c.args.todo.now.items) (c.in_ok-started-in-Probe.ensures.allowed s q) c.in_ok-started-in-Probe.ensures.counted
    (ap mind_of c.replace.ensures.after) (close_due c.args.todo.now.items c.reserve.new.self.items c.push_back_reserved.new.self.items c.reserve.ensures.items c.push_back_reserved.ensures.items)

pub returns-clause-kids : goal.returns-clause-kids
returns-clause-kids g c = λ s.
    let k = coder_in c.deref.result.now in
    probe_kids s c.args.name.now k c.in-Probe.pointer (row c.args.kids.now.items) (mind_of c.args.local.now)
    (ap mind_of (sym c.replace.ensures.value ∙ c.in-Probe.is) ∙ ap (λ n. by_probe (coder_in n) c.in-Probe.pointer) (sym c.deref.ensures)) (row c.start_fallback-started.new.kids.items)
    (by_count k.fallback k.mark c.args.name.now c.in-Probe.pointer c.args.kids.now.items c.start_fallback-started.new.kids.items c.in_ok-started-in-Probe.ensures.kids)
