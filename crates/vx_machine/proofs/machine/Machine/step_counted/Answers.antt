use Rattle.std.proofs.Common.{◌≡◌, ℕ, ◌+◌, ◌-◌, ◌%◌, inl, refl, sym, ap, subst, ◌∙◌, arith}
use Rattle.vx_model.specs.ChunkData.{ChunkData}
use Rattle.vx_sequence.specs.Universe.{Active}
use Rattle.vx_machine_ids.specs.Stock.{one}
use Rattle.vx_machine_ids.proofs.MoveLaws.{owned_right, moved_behind}
use Rattle.vx_machine_task.specs.Stocks.{task_stock}
use Rattle.vx_machine.specs.Source.{phase_stock}
use Rattle.vx_machine.specs.Whole.{may_source, machine_ready}
use Rattle.std.specs.FinMap as fin
use Rattle.std.proofs.lemmas.Result.{err_from_is_err_and}
use Rattle.vx_machine_state.specs.State.{no_tasks}
use Rattle.vx_machine_view.specs.Machine as whole
use Rattle.vx_machine_state.specs.Places.{one_if}
use Rattle.vx_machine.specs.Calls.{reads_at}
use Rattle.vx_sink.specs.ContextView.{counted as counted_bytes}
use Rattle.vx_machine_node.specs.Context.{setting_of}
use Rattle.vx_machine_task.specs.View.{task_row}
use Rattle.vx_machine.specs.View.{phase_of, machine_of}
use Rattle.vx_machine.proofs.Coming.{steps_on}
use Rattle.vx_machine.proofs.ReadyViews.{own_source, behind_source}
use Rattle.vx_machine.proofs.StepShows.{source_stepped, source_refused, source_memory, root_stepped, root_refused}
use Rattle.vx_machine_nodes.proofs.WriteSteps.{kept_same}
use Rattle.vx_machine.proofs.ActCauses.{act_step, source_step, act_elsewhere}
use Rattle.vx_machine_nodes.proofs.CallSteps.{unasked_self}
use Rattle.vx_machine.proofs.CallSteps.{stops_as, source_quiet, source_act, source_appends, source_unpressed, none_pressed, source_calls, task_reads, task_stops, reads_behind, none_fewer}
use Rattle.vx_machine.proofs.machine.Machine.step_counted.Goals as goal

pub nonzero_rem-picked : goal.nonzero_rem-picked
nonzero_rem-picked g c = omega (arith, c.requires.count, c.requires.ready)

pub returns-in-Err-clause-cause : goal.returns-in-Err-clause-cause
returns-in-Err-clause-cause g c = source_step (g.B.BatchSource.kind c.args.source.now) c.in-Err.error c.in-Err.ensures.cause

pub step-requires-clause-owned : goal.step-requires-clause-owned
step-requires-clause-owned g c = owned_right (g.O.Order.active c.args.order.now) (phase_stock c.args.self.now.phase) (task_stock c.args.self.now.root) c.requires.owned

pub step-requires-clause-there : goal.step-requires-clause-there
step-requires-clause-there g c =
    let u : Active = g.O.Order.active c.args.order.now in
    let x : c.one-own.result ≡ one (may_source c.args.self.now.phase c.args.self.now.root) = c.one-own.ensures ∙ ap one c.source_may.ensures in
    let r : c.args.ready ≡ machine_ready u c.args.self.now = c.requires.count in
    omega (arith, x, r, c.ranges.ready.fits, c.requires.ready, c.if-picked-own.false)

pub returns-in-Ok-step-clause-moved : goal.returns-in-Ok-step-clause-moved
returns-in-Ok-step-clause-moved g c =
    moved_behind (g.O.Order.active c.args.order.now) (g.O.Order.active c.step.new.order) (phase_stock c.args.self.now.phase) (task_stock c.args.self.now.root) (task_stock c.step.new.task) c.requires.owned c.step.ensures.moved

pub returns-in-Err-step-clause-moved : goal.returns-in-Err-step-clause-moved
returns-in-Err-step-clause-moved g c =
    moved_behind (g.O.Order.active c.args.order.now) (g.O.Order.active c.step.new.order) (phase_stock c.args.self.now.phase) (task_stock c.args.self.now.root) (task_stock c.step.new.task) c.requires.owned c.step.ensures.moved

pub returns-in-Err-step-clause-cause : goal.returns-in-Err-step-clause-cause
returns-in-Err-step-clause-cause g c = act_step c.in-Err-step.error c.in-Err-step.ensures.cause

-- ---- against the steps in plain data

pub returns-in_err-task-clause-refused : goal.returns-in_err-task-clause-refused
returns-in_err-task-clause-refused g c =
    let u : Active = g.O.Order.active c.args.order.now in
    let m = c.args.self.now in
    let x : c.one-own.result ≡ one (may_source m.phase m.root) = c.one-own.ensures ∙ ap one c.source_may.ensures in
    let h = own_source m.phase m.root (c.args.pick % c.args.ready) c.one-own.result x c.if-picked-own.true in
    let k : c.args.pick % machine_ready u m ≡ 0 = ap (λ n. c.args.pick % n) (sym c.requires.count) ∙ h.0 in
    let p = err_from_is_err_and c.from_residual.result c.from_residual.ensures.1 in
    rw (p.1, p.2) (λ number.
    source_memory (setting_of c.args.ctx.now (g.C.CompressorPlugin.image (g.C.CompressorPlugin.kind c.args.compressor.now))) (fin.keys u) number (g.B.BatchSource.kind c.args.source.now) (g.O.Order.outlet c.args.order.now) (phase_of m.phase) (task_row m.root no_tasks) (c.args.pick % machine_ready u m) k h.1
    (g.B.BatchSource.to_come c.args.source.now) (g.B.BatchSource.to_come c.args.source.now) (counted_bytes c.args.ctx.now) refl)

pub returns-in_err-task-clause-kept : goal.returns-in_err-task-clause-kept
returns-in_err-task-clause-kept g c =
    let p = err_from_is_err_and c.from_residual.result c.from_residual.ensures.1 in
    rw p.1 (kept_same (g.O.Order.outlet c.args.order.now) (g.O.Order.outlet c.args.order.now) refl)

pub returns-in-Ok-clause-done : goal.returns-in-Ok-clause-done
returns-in-Ok-clause-done g c =
    let image : ℕ → ChunkData → ChunkData = g.C.CompressorPlugin.image (g.C.CompressorPlugin.kind c.args.compressor.now) in
    let m = c.args.self.now in
    let n = c.step_source.new.self in
    let x : c.one-own.result ≡ one (may_source m.phase m.root) = c.one-own.ensures ∙ ap one c.source_may.ensures in
    let h = own_source m.phase m.root (c.args.pick % c.args.ready) c.one-own.result x c.if-picked-own.true in (
      0,
      source_stepped (setting_of c.args.ctx.now image) (fin.keys (g.O.Order.active c.args.order.now)) 0 (g.B.BatchSource.kind c.args.source.now) (g.O.Order.outlet c.args.order.now) (phase_of m.phase) (task_row m.root no_tasks)
          (c.args.pick % c.args.ready) h.0 h.1 (g.B.BatchSource.to_come c.args.source.now) (g.B.BatchSource.to_come c.step_source.new.source) (g.O.Order.outlet c.step_source.new.order)
          (phase_of n.phase) (task_row n.root no_tasks) c.in_ok-task.task c.in-Ok.action c.in_ok-task.ensures c.step_source.ensures.outlet c.in-Ok.ensures.done,
    )

pub returns-in-Err-clause-refused : goal.returns-in-Err-clause-refused
returns-in-Err-clause-refused g c = λ number.
    let image : ℕ → ChunkData → ChunkData = g.C.CompressorPlugin.image (g.C.CompressorPlugin.kind c.args.compressor.now) in
    let u : Active = g.O.Order.active c.args.order.now in
    let m = c.args.self.now in
    let x : c.one-own.result ≡ one (may_source m.phase m.root) = c.one-own.ensures ∙ ap one c.source_may.ensures in
    let h = own_source m.phase m.root (c.args.pick % c.args.ready) c.one-own.result x c.if-picked-own.true in
    let k : c.args.pick % machine_ready u m ≡ 0 = ap (λ n. c.args.pick % n) (sym c.requires.count) ∙ h.0 in
    source_refused (setting_of c.args.ctx.now image) (fin.keys u) number (g.B.BatchSource.kind c.args.source.now) (g.O.Order.outlet c.args.order.now) (phase_of m.phase) (task_row m.root no_tasks) (c.args.pick % machine_ready u m) k h.1
    (g.B.BatchSource.to_come c.args.source.now) (g.B.BatchSource.to_come c.step_source.new.source) (counted_bytes c.args.ctx.now) c.in-Err.error c.in-Err.ensures.cause c.in-Err.ensures.refused

pub returns-in-Err-clause-kept : goal.returns-in-Err-clause-kept
returns-in-Err-clause-kept g c = kept_same (g.O.Order.outlet c.args.order.now) (g.O.Order.outlet c.step_source.new.order) c.step_source.ensures.outlet

pub returns-in-Ok-step-clause-done : goal.returns-in-Ok-step-clause-done
returns-in-Ok-step-clause-done g c =
    let image : ℕ → ChunkData → ChunkData = g.C.CompressorPlugin.image (g.C.CompressorPlugin.kind c.args.compressor.now) in
    let m = c.args.self.now in
    let k : ℕ = c.args.pick % c.args.ready in
    let x : c.one-own.result ≡ one (may_source m.phase m.root) = c.one-own.ensures ∙ ap one c.source_may.ensures in
    let w = c.in-Ok-step.ensures.done in (
      w.0,
      root_stepped (setting_of c.args.ctx.now image) (fin.keys (g.O.Order.active c.args.order.now)) w.0 (g.B.BatchSource.kind c.args.source.now) (g.O.Order.outlet c.args.order.now) (phase_of m.phase) (task_row m.root no_tasks)
          k (k - c.one-own.result) (behind_source m.phase m.root k c.one-own.result x c.if-picked-own.false) (g.B.BatchSource.to_come c.args.source.now) (g.B.BatchSource.to_come c.args.source.now) refl
          (g.O.Order.outlet c.step.new.order) (task_row c.step.new.task no_tasks) c.in-Ok-step.did.task c.in-Ok-step.did.action w.1,
    )

pub returns-in-Err-step-clause-refused : goal.returns-in-Err-step-clause-refused
returns-in-Err-step-clause-refused g c = λ number.
    let image : ℕ → ChunkData → ChunkData = g.C.CompressorPlugin.image (g.C.CompressorPlugin.kind c.args.compressor.now) in
    let u : Active = g.O.Order.active c.args.order.now in
    let m = c.args.self.now in
    let k : ℕ = c.args.pick % c.args.ready in
    let x : c.one-own.result ≡ one (may_source m.phase m.root) = c.one-own.ensures ∙ ap one c.source_may.ensures in
    let is : c.args.pick % machine_ready u m ≡ one_if (whole.may_source (phase_of m.phase) (task_row m.root no_tasks)) + (k - c.one-own.result)
    = ap (λ n. c.args.pick % n) (sym c.requires.count) ∙ behind_source m.phase m.root k c.one-own.result x c.if-picked-own.false in
    root_refused (setting_of c.args.ctx.now image) (fin.keys u) number (g.B.BatchSource.kind c.args.source.now) (g.O.Order.outlet c.args.order.now) (phase_of m.phase) (task_row m.root no_tasks)
    (c.args.pick % machine_ready u m) (k - c.one-own.result) is (g.B.BatchSource.to_come c.args.source.now) (g.B.BatchSource.to_come c.args.source.now) refl (counted_bytes c.args.ctx.now) c.in-Err-step.error
    (act_elsewhere c.in-Err-step.error c.in-Err-step.ensures.cause) (c.in-Err-step.ensures.refused number)

-- ---- where the write has then come

pub returns-in-Ok-clause-leads : goal.returns-in-Ok-clause-leads
returns-in-Ok-clause-leads g c = λ exact.
    steps_on c.courses.ensures.on c.args.ctx.now (g.C.CompressorPlugin.image (g.C.CompressorPlugin.kind c.args.compressor.now)) (g.O.Order.active c.args.order.now) c.args.self.now exact (g.B.BatchSource.kind c.args.source.now) c.args.pick
    (g.B.BatchSource.to_come c.args.source.now) (g.B.BatchSource.to_come c.step_source.new.source) (g.O.Order.outlet c.args.order.now) (g.O.Order.outlet c.step_source.new.order) (machine_of c.step_source.new.self)
    (record { ready = c.args.ready; picked = c.args.pick % c.args.ready; task = c.in_ok-task.task; action = c.in-Ok.action }) c.requires.count refl (returns-in-Ok-clause-done g c)

pub returns-in-Ok-step-clause-leads : goal.returns-in-Ok-step-clause-leads
returns-in-Ok-step-clause-leads g c = λ exact.
    steps_on c.courses.ensures.on c.args.ctx.now (g.C.CompressorPlugin.image (g.C.CompressorPlugin.kind c.args.compressor.now)) (g.O.Order.active c.args.order.now) c.args.self.now exact (g.B.BatchSource.kind c.args.source.now) c.args.pick
    (g.B.BatchSource.to_come c.args.source.now) (g.B.BatchSource.to_come c.args.source.now) (g.O.Order.outlet c.args.order.now) (g.O.Order.outlet c.step.new.order) _
    (record { ready = c.args.ready; picked = c.args.pick % c.args.ready; task = c.in-Ok-step.did.task; action = c.in-Ok-step.did.action }) c.requires.count refl (returns-in-Ok-step-clause-done g c)

pub returns-in-Ok-step-clause-left : goal.returns-in-Ok-step-clause-left
returns-in-Ok-step-clause-left g c = none_fewer (g.B.BatchSource.left c.args.source.now) c.in-Ok-step.did.action c.in-Ok-step.ensures.told.0

-- ---- calls of the source, of the sink and of the compressor

pub returns-in_err-task-clause-source_told : goal.returns-in_err-task-clause-source_told
returns-in_err-task-clause-source_told g c =
    let p = err_from_is_err_and c.from_residual.result c.from_residual.ensures.1 in
    rw (p.1, p.2) (inl (unasked_self (g.B.Fallible.faults c.args.source.now) (g.B.Fallible.may_fail c.args.source.now) (g.B.Fallible.must_fail c.args.source.now)))

pub returns-in_err-task-clause-sink_told : goal.returns-in_err-task-clause-sink_told
returns-in_err-task-clause-sink_told g c =
    let p = err_from_is_err_and c.from_residual.result c.from_residual.ensures.1 in
    rw (p.1, p.2) (inl (unasked_self (g.O.Sink.Fallible.faults (g.O.Order.sink c.args.order.now)) (g.O.Sink.Fallible.may_fail (g.O.Order.sink c.args.order.now)) (g.O.Sink.Fallible.must_fail (g.O.Order.sink c.args.order.now))))

pub returns-in-Ok-clause-source_told : goal.returns-in-Ok-clause-source_told
returns-in-Ok-clause-source_told g c = c.in-Ok.ensures.told

pub returns-in-Ok-clause-sink_told : goal.returns-in-Ok-clause-sink_told
returns-in-Ok-clause-sink_told g c =
    let m = c.args.self.now in
    let n = c.step_source.new.self in
    source_act g.O.Sink.Fallible.faults g.O.Sink.Fallible.may_fail g.O.Sink.Fallible.must_fail (g.O.Order.sink c.args.order.now) (g.O.Order.sink c.step_source.new.order) c.step_source.ensures.sink c.in-Ok.action
    (source_appends (g.B.BatchSource.kind c.args.source.now) (g.B.BatchSource.to_come c.args.source.now) (g.B.BatchSource.to_come c.step_source.new.source) (phase_of m.phase) (phase_of n.phase)
    (task_row m.root no_tasks) (task_row n.root no_tasks) c.in-Ok.action c.in-Ok.ensures.done)

pub returns-in-Err-clause-source_told : goal.returns-in-Err-clause-source_told
returns-in-Err-clause-source_told g c =
    let m = c.args.self.now in
    let x : c.one-own.result ≡ one (may_source m.phase m.root) = c.one-own.ensures ∙ ap one c.source_may.ensures in
    let h = own_source m.phase m.root (c.args.pick % c.args.ready) c.one-own.result x c.if-picked-own.true in
    let k : c.args.pick % machine_ready (g.O.Order.active c.args.order.now) m ≡ 0 = ap (λ n. c.args.pick % n) (sym c.requires.count) ∙ h.0 in
    stops_as g.B.Fallible.faults g.B.Fallible.may_fail g.B.Fallible.must_fail c.args.source.now c.step_source.new.source (reads_at (phase_of m.phase) 0) (reads_at (phase_of m.phase) (c.args.pick % machine_ready (g.O.Order.active c.args.order.now) m))
    c.in-Err.error (ap (reads_at (phase_of m.phase)) k) c.in-Err.ensures.told

pub returns-in-Err-clause-sink_told : goal.returns-in-Err-clause-sink_told
returns-in-Err-clause-sink_told g c =
    source_quiet g.O.Sink.Fallible.faults g.O.Sink.Fallible.may_fail g.O.Sink.Fallible.must_fail (g.O.Order.sink c.args.order.now) (g.O.Order.sink c.step_source.new.order) c.step_source.ensures.sink (g.B.BatchSource.kind c.args.source.now) c.in-Err.error c.in-Err.ensures.cause

pub returns-in-Ok-step-clause-source_told : goal.returns-in-Ok-step-clause-source_told
returns-in-Ok-step-clause-source_told g c = task_reads (g.B.Fallible.faults c.args.source.now) (g.B.Fallible.may_fail c.args.source.now) (g.B.Fallible.must_fail c.args.source.now) c.in-Ok-step.did.action c.in-Ok-step.ensures.told.0

pub returns-in-Ok-step-clause-sink_told : goal.returns-in-Ok-step-clause-sink_told
returns-in-Ok-step-clause-sink_told g c = c.in-Ok-step.ensures.told.1

pub returns-in-Err-step-clause-source_told : goal.returns-in-Err-step-clause-source_told
returns-in-Err-step-clause-source_told g c =
    let m = c.args.self.now in
    let k : ℕ = c.args.pick % c.args.ready in
    let x : c.one-own.result ≡ one (may_source m.phase m.root) = c.one-own.ensures ∙ ap one c.source_may.ensures in
    let is : c.args.pick % machine_ready (g.O.Order.active c.args.order.now) m ≡ one_if (whole.may_source (phase_of m.phase) (task_row m.root no_tasks)) + (k - c.one-own.result)
    = ap (λ n. c.args.pick % n) (sym c.requires.count) ∙ behind_source m.phase m.root k c.one-own.result x c.if-picked-own.false in
    task_stops (g.B.Fallible.faults c.args.source.now) (g.B.Fallible.may_fail c.args.source.now) (g.B.Fallible.must_fail c.args.source.now) (reads_at (phase_of m.phase) (c.args.pick % machine_ready (g.O.Order.active c.args.order.now) m))
    (reads_behind (phase_of m.phase) (task_row m.root no_tasks) (c.args.pick % machine_ready (g.O.Order.active c.args.order.now) m) (k - c.one-own.result) is) c.in-Err-step.error c.in-Err-step.ensures.cause

pub returns-in-Err-step-clause-sink_told : goal.returns-in-Err-step-clause-sink_told
returns-in-Err-step-clause-sink_told g c = c.in-Err-step.ensures.told

pub returns-in_err-task-clause-pressed : goal.returns-in_err-task-clause-pressed
returns-in_err-task-clause-pressed g c =
    let p = err_from_is_err_and c.from_residual.result c.from_residual.ensures.1 in
    rw (p.1, p.2) (inl (unasked_self (g.C.Fallible.faults c.args.compressor.now) (g.C.Fallible.may_fail c.args.compressor.now) (g.C.Fallible.must_fail c.args.compressor.now)))

pub returns-in-Ok-clause-pressed : goal.returns-in-Ok-clause-pressed
returns-in-Ok-clause-pressed g c =
    let m = c.args.self.now in
    let n = c.step_source.new.self in
    none_pressed (g.C.Fallible.faults c.args.compressor.now) (g.C.Fallible.may_fail c.args.compressor.now) (g.C.Fallible.must_fail c.args.compressor.now) c.in-Ok.action
    (source_calls (g.B.BatchSource.kind c.args.source.now) (g.B.BatchSource.to_come c.args.source.now) (g.B.BatchSource.to_come c.step_source.new.source) (phase_of m.phase) (phase_of n.phase)
    (task_row m.root no_tasks) (task_row n.root no_tasks) c.in-Ok.action c.in-Ok.ensures.done)

pub returns-in-Err-clause-pressed : goal.returns-in-Err-clause-pressed
returns-in-Err-clause-pressed g c =
    source_unpressed (g.C.Fallible.faults c.args.compressor.now) (g.C.Fallible.may_fail c.args.compressor.now) (g.C.Fallible.must_fail c.args.compressor.now) (g.B.BatchSource.kind c.args.source.now) c.in-Err.error c.in-Err.ensures.cause

pub returns-in-Ok-step-clause-pressed : goal.returns-in-Ok-step-clause-pressed
returns-in-Ok-step-clause-pressed g c = c.in-Ok-step.ensures.pressed

pub returns-in-Err-step-clause-pressed : goal.returns-in-Err-step-clause-pressed
returns-in-Err-step-clause-pressed g c = c.in-Err-step.ensures.pressed

-- ---- what the tracker counts

pub returns-in-Ok-clause-tracked : goal.returns-in-Ok-clause-tracked
returns-in-Ok-clause-tracked g c = omega (arith, c.step_source.ensures.reserved)

pub returns-in-Err-clause-tracked : goal.returns-in-Err-clause-tracked
returns-in-Err-clause-tracked g c = omega (arith, c.step_source.ensures.reserved)
