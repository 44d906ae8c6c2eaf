use Rattle.std.proofs.Common.{inl}
use Rattle.std.proofs.lemmas.Result.{err_from_is_err_and}
use Rattle.vx_sequence.specs.Universe.{Active}
use Rattle.vx_sink.specs.ContextView.{counted as counted_bytes}
use Rattle.vx_write_answer.specs.declared.error.WriteError.TheVariants.{OutOfMemory}
use Rattle.vx_machine_ids.specs.Stock.{Stock, both}
use Rattle.vx_machine_task.specs.Stocks.{head_stock, tasks_stock}
use Rattle.vx_machine_task.specs.declared.task.Task.{out-Task}
use Rattle.vx_machine_task.specs.declared.task.Task.TheViews.{roll-Task}
use Rattle.vx_machine_task.proofs.TaskParts.{parts_owned, parts_moved, rolled}
use Rattle.vx_machine_node.specs.Context.{setting_of}
use Rattle.vx_machine_nodes.proofs.CallSteps.{unasked_self}
use Rattle.vx_machine_tasks.proofs.CallShows.{memory_fails}
use Rattle.vx_machine_tasks.proofs.StepShows.{own_stepped, own_refused}
use Rattle.std.proofs.Common.{◌≡◌, ◌+◌, sym, subst, arith}
use Rattle.vx_kept.specs.Kept.{Knows}
use Rattle.vx_machine_task.specs.View.{row}
use Rattle.vx_machine_task.specs.declared.task.Task.{Task}
use Rattle.vx_machine_task.specs.declared.task.Task.TheOpen.{Task-F}
use Rattle.vx_machine_task.proofs.TaskParts.{out_roll}
use Rattle.vx_machine_task.proofs.Counting.{act_touches}
use Rattle.vx_machine_task.specs.Ledger.{head_reserved, task_reserved, tasks_reserved}
use Rattle.vx_machine_task.proofs.ReservedSteps.{task_reserved_out, task_reserved_roll}
use Rattle.vx_machine_tasks.proofs.steps.act.Goals as goal

pub advance-requires-clause-owned : goal.advance-requires-clause-owned
advance-requires-clause-owned g c = parts_owned (g.O.Order.active c.args.order.now) c.args.task.now c.requires.owned

pub advance-requires-clause-ready : goal.advance-requires-clause-ready
advance-requires-clause-ready g c = c.requires.ready

pub advance-requires-clause-allowed : goal.advance-requires-clause-allowed
advance-requires-clause-allowed g c = c.requires.allowed

pub returns-in-Ok-clause-moved : goal.returns-in-Ok-clause-moved
returns-in-Ok-clause-moved g c =
    let u : Active = g.O.Order.active c.args.order.now in
    let v : Active = g.O.Order.active c.advance.new.order in
    let s : Stock = both (head_stock (out-Task c.args.task.now).head) (tasks_stock (out-Task c.args.task.now).kids.items) in
    parts_moved u c.args.task.now c.requires.owned v (roll-Task (record { head = c.advance.new.head; kids = c.advance.new.kids }))
    (rolled u v s (record { head = c.advance.new.head; kids = c.advance.new.kids }) c.advance.ensures.moved)

pub returns-in-Err-clause-moved : goal.returns-in-Err-clause-moved
returns-in-Err-clause-moved g c =
    let u : Active = g.O.Order.active c.args.order.now in
    let v : Active = g.O.Order.active c.advance.new.order in
    let s : Stock = both (head_stock (out-Task c.args.task.now).head) (tasks_stock (out-Task c.args.task.now).kids.items) in
    parts_moved u c.args.task.now c.requires.owned v (roll-Task (record { head = c.advance.new.head; kids = c.advance.new.kids }))
    (rolled u v s (record { head = c.advance.new.head; kids = c.advance.new.kids }) c.advance.ensures.moved)

pub returns-in-Ok-clause-done : goal.returns-in-Ok-clause-done
returns-in-Ok-clause-done g c =
    let image = g.C.CompressorPlugin.image (g.C.CompressorPlugin.kind c.args.compressor.now) in
    let u : Active = g.O.Order.active c.args.order.now in
    let w = c.in-Ok.ensures.done in
    (w.0, own_stepped (setting_of c.args.ctx.now image) u w.0 (g.O.Order.outlet c.args.order.now) c.args.task.now c.requires.ready (g.O.Order.outlet c.advance.new.order) (record { head = c.advance.new.head; kids = c.advance.new.kids }) c.in_ok-name.name c.in-Ok.action c.in_ok-name.ensures.cases w.1)

pub returns-in-Err-clause-refused : goal.returns-in-Err-clause-refused
returns-in-Err-clause-refused g c = λ number.
    own_refused (setting_of c.args.ctx.now (g.C.CompressorPlugin.image (g.C.CompressorPlugin.kind c.args.compressor.now))) (g.O.Order.active c.args.order.now) number (g.O.Order.outlet c.args.order.now) c.args.task.now c.requires.ready (counted_bytes c.args.ctx.now) c.in-Err.error (c.in-Err.ensures.refused number) c.in-Err.ensures.called

pub returns-in_err-name-clause-refused : goal.returns-in_err-name-clause-refused
returns-in_err-name-clause-refused g c =
    let p = err_from_is_err_and c.from_residual.result c.from_residual.ensures.1 in
    rw (p.1, p.2) (λ number. own_refused (setting_of c.args.ctx.now (g.C.CompressorPlugin.image (g.C.CompressorPlugin.kind c.args.compressor.now))) (g.O.Order.active c.args.order.now) number (g.O.Order.outlet c.args.order.now) c.args.task.now c.requires.ready (counted_bytes c.args.ctx.now) OutOfMemory tt (memory_fails (out-Task c.args.task.now).head.todo.items))

pub returns-in_err-name-clause-told : goal.returns-in_err-name-clause-told
returns-in_err-name-clause-told g c =
    let p = err_from_is_err_and c.from_residual.result c.from_residual.ensures.1 in
    rw (p.1, p.2) (inl (unasked_self (g.O.Sink.Fallible.faults (g.O.Order.sink c.args.order.now)) (g.O.Sink.Fallible.may_fail (g.O.Order.sink c.args.order.now)) (g.O.Sink.Fallible.must_fail (g.O.Order.sink c.args.order.now))))

pub returns-in-Ok-clause-known : goal.returns-in-Ok-clause-known
returns-in-Ok-clause-known g c =
    let h = (out-Task c.args.task.now).head in
    let ks = (out-Task c.args.task.now).kids.items in
    let js = c.advance.new.kids.items in
    let image = g.C.CompressorPlugin.image (g.C.CompressorPlugin.kind c.args.compressor.now) in
    let w = c.in-Ok.ensures.done in
    subst (λ (z : Task-F Task). Knows c.follow.new.self (row z.kids.items)) (sym (out_roll (record { head = c.advance.new.head; kids = c.advance.new.kids })))
    (c.follow.ensures (row ks) (row js) (act_touches (setting_of c.args.ctx.now image) w.0 h ks js c.touched-touched.result c.touched-touched.ensures w.1.kids_are) c.requires.known)

pub advance-requires-clause-reserved : goal.advance-requires-clause-reserved
advance-requires-clause-reserved g c =
    let x : task_reserved c.args.task.now ≡ head_reserved (out-Task c.args.task.now).head + tasks_reserved (out-Task c.args.task.now).kids.items = task_reserved_out c.args.task.now in
    omega (arith, x, c.requires.reserved)

pub returns-in-Ok-clause-tracked : goal.returns-in-Ok-clause-tracked
returns-in-Ok-clause-tracked g c =
    let x : task_reserved c.args.task.now ≡ head_reserved (out-Task c.args.task.now).head + tasks_reserved (out-Task c.args.task.now).kids.items = task_reserved_out c.args.task.now in
    let y : task_reserved (roll-Task (record { head = c.advance.new.head; kids = c.advance.new.kids })) ≡ head_reserved c.advance.new.head + tasks_reserved c.advance.new.kids.items =
    task_reserved_roll (record { head = c.advance.new.head; kids = c.advance.new.kids }) in
    omega (arith, x, y, c.advance.ensures.tracked)

pub returns-in-Err-clause-tracked : goal.returns-in-Err-clause-tracked
returns-in-Err-clause-tracked g c =
    let x : task_reserved c.args.task.now ≡ head_reserved (out-Task c.args.task.now).head + tasks_reserved (out-Task c.args.task.now).kids.items = task_reserved_out c.args.task.now in
    let y : task_reserved (roll-Task (record { head = c.advance.new.head; kids = c.advance.new.kids })) ≡ head_reserved c.advance.new.head + tasks_reserved c.advance.new.kids.items =
    task_reserved_roll (record { head = c.advance.new.head; kids = c.advance.new.kids }) in
    omega (arith, x, y, c.advance.ensures.tracked)

pub returns-in_err-name-clause-pressed : goal.returns-in_err-name-clause-pressed
returns-in_err-name-clause-pressed g c =
    let p = err_from_is_err_and c.from_residual.result c.from_residual.ensures.1 in
    rw (p.1, p.2) (inl (unasked_self (g.C.Fallible.faults c.args.compressor.now) (g.C.Fallible.may_fail c.args.compressor.now) (g.C.Fallible.must_fail c.args.compressor.now)))
