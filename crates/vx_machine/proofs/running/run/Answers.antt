use Rattle.std.proofs.Common.{◌≡◌, ◌+◌, ◌<◌, ◌%◌, ◌++◌, [], ◌∷◌, length, subst, ap, ◌∙◌, refl, sym, arith}
use Rattle.std.specs.Prelude.{slice_index}
use Rattle.vx_sequence.specs.Universe.{Active}
use Rattle.vx_machine_ids.specs.Stock.{none}
use Rattle.vx_machine_ids.specs.Balance.{Moved}
use Rattle.vx_machine_ids.proofs.MoveLaws.{moved_none, moved_then, owned_now}
use Rattle.vx_machine_tasks.specs.Pairs.{task_pairs}
use Rattle.vx_machine.specs.Whole.{machine_stock}
use Rattle.vx_machine_tasks.proofs.PairSteps.{all_may}
use Rattle.vx_machine_task.proofs.ReservedSteps.{task_view}
use Rattle.vx_machine_ids.specs.Balance.{Exact}
use Rattle.vx_fault.specs.Faults.{FaultsTold}
use Rattle.vx_write_answer.specs.Causes.{is_sink_fault}
use Rattle.vx_machine_nodes.specs.Calls.{reads_action, append_action, call_action}
use Rattle.vx_machine.specs.Calls.{reads_in, appends_in, calls_in, reads_at}
use Rattle.vx_machine_node.specs.Context.{setting_of}
use Rattle.vx_machine_node.specs.Outcome.{Kept}
use Rattle.vx_sink.specs.ContextView.{counted as counted_bytes}
use Rattle.vx_machine.specs.Run.{at, Ran, picked_at, tracker_by}
use Rattle.vx_machine.specs.View.{phase_of, machine_of}
use Rattle.vx_machine.specs.Whole.{machine_ready}
use Rattle.vx_machine.proofs.HeldViews.{exact_then}
use Rattle.vx_fault.proofs.Answering.{Answered, none_called, ended}
use Rattle.vx_machine.proofs.RunCalls.{then_answered, reads_once, appends_once, calls_once, reads_more, appends_more, calls_more, source_ends, sink_ends, press_ends, misfit_passed}
use Rattle.vx_machine.proofs.RunSteps.{ready_held, run_grows, run_step, run_refused, reads_same}
use Rattle.vx_machine.proofs.running.run.Goals as goal

pub steps-init : goal.steps-init
steps-init g c = record {
  owned = c.requires.owned;
  enough = c.requires.enough;
  moved = moved_none (g.O.Order.active c.args.order.now) (machine_stock c.args.machine) c.requires.owned;
  kind = refl;
  sources = λ e. subst (λ ts. Answered g.B.Fallible.faults g.B.Fallible.may_fail g.B.Fallible.must_fail c.args.source.now c.args.source.now (reads_in ts)) (sym e) (none_called g.B.Fallible.faults g.B.Fallible.may_fail g.B.Fallible.must_fail c.args.source.now);
  sinks = λ e.
      subst (λ ts. Answered g.O.Sink.Fallible.faults g.O.Sink.Fallible.may_fail g.O.Sink.Fallible.must_fail (g.O.Order.sink c.args.order.now) (g.O.Order.sink c.args.order.now) (appends_in ts)) (sym e)
      (none_called g.O.Sink.Fallible.faults g.O.Sink.Fallible.may_fail g.O.Sink.Fallible.must_fail (g.O.Order.sink c.args.order.now));
  pressed = λ e. subst (λ ts. Answered g.C.Fallible.faults g.C.Fallible.may_fail g.C.Fallible.must_fail c.args.compressor.now c.args.compressor.now (calls_in ts)) (sym e) (none_called g.C.Fallible.faults g.C.Fallible.may_fail g.C.Fallible.must_fail c.args.compressor.now);
  tracked = omega (arith, c.requires.unreserved);
  context = refl;
  compressor = refl;
  ran = λ e x.
      subst (λ ts. Ran c.args.ctx.now (g.C.CompressorPlugin.image (g.C.CompressorPlugin.kind c.args.compressor.now)) (g.B.BatchSource.kind c.args.source.now) c.args.schedule.now 0 (at (machine_of c.args.machine) (g.B.BatchSource.to_come c.args.source.now) (g.O.Order.outlet c.args.order.now)) ts
      (at (machine_of c.args.machine) (g.B.BatchSource.to_come c.args.source.now) (g.O.Order.outlet c.args.order.now))) (sym e) refl;
}

pub returns-then-finished-clause-moved : goal.returns-then-finished-clause-moved
returns-then-finished-clause-moved g c =
    subst (λ s. Moved (g.O.Order.active c.args.order.now) (g.O.Order.active c.steps.order) (machine_stock c.args.machine) s) c.finish.ensures.free c.steps.invariant.moved

pub step_counted-requires-clause-ready : goal.step_counted-requires-clause-ready
step_counted-requires-clause-ready g c = omega (arith, c.in-Ok.ensures.told, c.if-ready-eq0.false)

pub step_counted-requires-clause-allowed : goal.step_counted-requires-clause-allowed
step_counted-requires-clause-allowed g c = all_may (g.O.Order.may_write c.steps.order) (λ p b. c.requires.allowed c.steps.order p b) (task_pairs c.steps.machine.root)

pub returns-then-ready-eq0-clause-moved : goal.returns-then-ready-eq0-clause-moved
returns-then-ready-eq0-clause-moved g c =
    moved_then (g.O.Order.active c.args.order.now) (g.O.Order.active c.steps.order) (g.O.Order.active c.refuse-then-ready-eq0.new.order) (machine_stock c.args.machine) (machine_stock c.steps.machine) none c.steps.invariant.moved c.refuse-then-ready-eq0.ensures.moved

pub steps-preserved : goal.steps-preserved
steps-preserved g c =
    let u : Active = g.O.Order.active c.steps.order in
    let v : Active = g.O.Order.active c.step_counted.new.order in
    record {
      owned = owned_now u v (machine_stock c.steps.machine) (machine_stock c.step_counted.new.self) c.steps.invariant.owned c.step_counted.ensures.moved;
      enough = c.in-Ok-step_counted.ensures.enough;
      moved = moved_then (g.O.Order.active c.args.order.now) u v (machine_stock c.args.machine) (machine_stock c.steps.machine) (machine_stock c.step_counted.new.self) c.steps.invariant.moved c.step_counted.ensures.moved;
      kind = c.step_counted.ensures.kind ∙ c.steps.invariant.kind;
      sources = λ e.
          then_answered g.B.Fallible.faults g.B.Fallible.may_fail g.B.Fallible.must_fail c.args.source.now c.steps.source c.step_counted.new.source (reads_in c.steps.trace.items) (c.steps.invariant.sources e)
          (reads_action c.in-Ok-step_counted.step.action) (reads_in c.push_reserved.new.self.items)
          (ap reads_in (c.push_reserved.ensures.items ∙ ap (λ z. z ++ (c.in-Ok-step_counted.step ∷ [])) c.reserve.ensures.items) ∙ reads_more c.steps.trace.items c.in-Ok-step_counted.step)
          (reads_once c.in-Ok-step_counted.step.action) c.in-Ok-step_counted.ensures.source_told;
      sinks = λ e.
          then_answered g.O.Sink.Fallible.faults g.O.Sink.Fallible.may_fail g.O.Sink.Fallible.must_fail (g.O.Order.sink c.args.order.now) (g.O.Order.sink c.steps.order) (g.O.Order.sink c.step_counted.new.order) (appends_in c.steps.trace.items) (c.steps.invariant.sinks e)
          (append_action c.in-Ok-step_counted.step.action) (appends_in c.push_reserved.new.self.items)
          (ap appends_in (c.push_reserved.ensures.items ∙ ap (λ z. z ++ (c.in-Ok-step_counted.step ∷ [])) c.reserve.ensures.items) ∙ appends_more c.steps.trace.items c.in-Ok-step_counted.step)
          (appends_once c.in-Ok-step_counted.step.action) c.in-Ok-step_counted.ensures.sink_told;
      pressed = λ e.
          then_answered g.C.Fallible.faults g.C.Fallible.may_fail g.C.Fallible.must_fail c.args.compressor.now c.steps.compressor c.step_counted.new.compressor (calls_in c.steps.trace.items) (c.steps.invariant.pressed e)
          (call_action c.in-Ok-step_counted.step.action) (calls_in c.push_reserved.new.self.items)
          (ap calls_in (c.push_reserved.ensures.items ∙ ap (λ z. z ++ (c.in-Ok-step_counted.step ∷ [])) c.reserve.ensures.items) ∙ calls_more c.steps.trace.items c.in-Ok-step_counted.step)
          (calls_once c.in-Ok-step_counted.step.action) c.in-Ok-step_counted.ensures.pressed;
      tracked = omega (arith, c.step_counted.ensures.tracked, c.steps.invariant.tracked);
      context = c.step_counted.ensures.context ∙ c.steps.invariant.context;
      compressor = c.step_counted.ensures.compressor ∙ c.steps.invariant.compressor;
      ran = λ e x.
          let k : Exact u (machine_stock c.steps.machine) = exact_then (g.O.Order.active c.args.order.now) u (machine_stock c.args.machine) (machine_stock c.steps.machine) x c.steps.invariant.moved in
          let place : c.len.result ≡ length c.steps.trace.items = c.len.ensures ∙ c.reserve.new.self.ok.0 ∙ ap length c.reserve.ensures.items in
          run_grows c.args.ctx.now (g.C.CompressorPlugin.image (g.C.CompressorPlugin.kind c.args.compressor.now)) (g.B.BatchSource.kind c.args.source.now) c.args.schedule.now (at (machine_of c.args.machine) (g.B.BatchSource.to_come c.args.source.now) (g.O.Order.outlet c.args.order.now))
          (at (machine_of c.steps.machine) (g.B.BatchSource.to_come c.steps.source) (g.O.Order.outlet c.steps.order))
          (at (machine_of c.step_counted.new.self) (g.B.BatchSource.to_come c.step_counted.new.source) (g.O.Order.outlet c.step_counted.new.order)) c.steps.trace.items c.push_reserved.new.self.items c.in-Ok-step_counted.step
          (c.push_reserved.ensures.items ∙ ap (λ z. z ++ (c.in-Ok-step_counted.step ∷ [])) c.reserve.ensures.items) (c.steps.invariant.ran e x)
          (run_step c.args.ctx.now c.steps.ctx c.steps.invariant.context (g.C.CompressorPlugin.image (g.C.CompressorPlugin.kind c.args.compressor.now)) (g.C.CompressorPlugin.image (g.C.CompressorPlugin.kind c.steps.compressor)) (ap g.C.CompressorPlugin.image c.steps.invariant.compressor) (g.B.BatchSource.kind c.args.source.now) (g.B.BatchSource.kind c.steps.source) c.steps.invariant.kind c.args.schedule.now u c.steps.machine k
          (omega (arith, c.in-Ok.ensures.told, c.if-ready-eq0.false)) (length c.steps.trace.items) c.pick_at-pick.result (c.pick_at-pick.ensures ∙ ap (slice_index c.args.schedule.now) place)
          (g.B.BatchSource.to_come c.steps.source) (g.B.BatchSource.to_come c.step_counted.new.source) (g.O.Order.outlet c.steps.order) (g.O.Order.outlet c.step_counted.new.order) (machine_of c.step_counted.new.self) c.in-Ok-step_counted.step
          c.in-Ok-step_counted.ensures.told c.in-Ok-step_counted.ensures.done);
    }

-- the machine has finished
pub returns-then-finished-clause-ran : goal.returns-then-finished-clause-ran
returns-then-finished-clause-ran g c = λ e x. record {
  end = at (machine_of c.steps.machine) (g.B.BatchSource.to_come c.steps.source) (g.O.Order.outlet c.steps.order);
  ran = c.steps.invariant.ran e x;
  told = refl;
  sink = refl;
  left = (sym c.finished.ensures.view ∙ c.if-finished.true, c.finish.ensures.layout);
}

-- nothing is ready
pub returns-then-ready-eq0-clause-ran : goal.returns-then-ready-eq0-clause-ran
returns-then-ready-eq0-clause-ran g c = λ e x.
    let u : Active = g.O.Order.active c.steps.order in
    let k : Exact u (machine_stock c.steps.machine) = exact_then (g.O.Order.active c.args.order.now) u (machine_stock c.args.machine) (machine_stock c.steps.machine) x c.steps.invariant.moved in
    let n : machine_ready u c.steps.machine ≡ 0 = omega (arith, c.in-Ok.ensures.told, c.if-ready-eq0.true) in
    record {
      end = at (machine_of c.steps.machine) (g.B.BatchSource.to_come c.steps.source) (g.O.Order.outlet c.steps.order);
      ran = c.steps.invariant.ran e x;
      told = refl;
      sink = c.refuse-then-ready-eq0.ensures.outlet;
      left = (sym c.finished.ensures.view ∙ c.if-finished.false, ready_held u c.steps.machine k (setting_of c.args.ctx.now (g.C.CompressorPlugin.image (g.C.CompressorPlugin.kind c.args.compressor.now))) ∙ n);
    }

-- the step is refused
pub returns-in-Err-step_counted-clause-ran : goal.returns-in-Err-step_counted-clause-ran
returns-in-Err-step_counted-clause-ran g c = λ e x.
    let u : Active = g.O.Order.active c.steps.order in
    let k : Exact u (machine_stock c.steps.machine) = exact_then (g.O.Order.active c.args.order.now) u (machine_stock c.args.machine) (machine_stock c.steps.machine) x c.steps.invariant.moved in
    let place : c.len.result ≡ length c.reserve.new.self.items = c.len.ensures ∙ c.reserve.new.self.ok.0 in
    let some : 0 < machine_ready u c.steps.machine = omega (arith, c.in-Ok.ensures.told, c.if-ready-eq0.false) in
    let pick : c.pick_at-pick.result ≡ slice_index c.args.schedule.now (length c.reserve.new.self.items) = c.pick_at-pick.ensures ∙ ap (slice_index c.args.schedule.now) place in
    let counts : counted_bytes c.steps.ctx ≡ tracker_by c.args.ctx.now (machine_of c.steps.machine) = c.steps.invariant.tracked ∙ ap (λ z. counted_bytes c.args.ctx.now + z) (sym (task_view c.steps.machine.root)) in
    record {
      stop = record {
        end = at (machine_of c.steps.machine) (g.B.BatchSource.to_come c.steps.source) (g.O.Order.outlet c.steps.order);
        ran = subst (λ ts. Ran c.args.ctx.now (g.C.CompressorPlugin.image (g.C.CompressorPlugin.kind c.args.compressor.now)) (g.B.BatchSource.kind c.args.source.now) c.args.schedule.now 0 (at (machine_of c.args.machine) (g.B.BatchSource.to_come c.args.source.now) (g.O.Order.outlet c.args.order.now)) ts
            (at (machine_of c.steps.machine) (g.B.BatchSource.to_come c.steps.source) (g.O.Order.outlet c.steps.order))) (sym c.reserve.ensures.items) (c.steps.invariant.ran e x);
        kept = subst (λ o. Kept (g.O.Order.outlet c.steps.order) o) (sym c.refuse-in-Err-step_counted.ensures.outlet) c.in-Err-step_counted.ensures.kept;
        stops = run_refused c.args.ctx.now c.steps.ctx c.steps.invariant.context (g.C.CompressorPlugin.image (g.C.CompressorPlugin.kind c.args.compressor.now)) (g.C.CompressorPlugin.image (g.C.CompressorPlugin.kind c.steps.compressor)) (ap g.C.CompressorPlugin.image c.steps.invariant.compressor) (g.B.BatchSource.kind c.args.source.now) (g.B.BatchSource.kind c.steps.source) c.steps.invariant.kind c.args.schedule.now u c.steps.machine k
            some (length c.reserve.new.self.items) c.pick_at-pick.result pick
            (g.B.BatchSource.to_come c.steps.source) (g.B.BatchSource.to_come c.step_counted.new.source) (g.O.Order.outlet c.steps.order) c.in-Err-step_counted.error counts c.in-Err-step_counted.ensures.refused;
      };
      passed = misfit_passed g.B.Fallible.faults g.B.Fallible.may_fail g.B.Fallible.must_fail c.args.source.now c.steps.source c.step_counted.new.source (reads_in c.reserve.new.self.items)
          (subst (λ ts. Answered g.B.Fallible.faults g.B.Fallible.may_fail g.B.Fallible.must_fail c.args.source.now c.steps.source (reads_in ts)) (sym c.reserve.ensures.items) (c.steps.invariant.sources e))
          (reads_at (phase_of c.steps.machine.phase) (c.pick_at-pick.result % machine_ready u c.steps.machine))
          (reads_at (phase_of c.steps.machine.phase) (picked_at c.args.schedule.now (length c.reserve.new.self.items) (machine_of c.steps.machine))) c.in-Err-step_counted.error
          (reads_same c.args.ctx.now c.steps.ctx c.steps.invariant.context (g.C.CompressorPlugin.image (g.C.CompressorPlugin.kind c.args.compressor.now)) (g.C.CompressorPlugin.image (g.C.CompressorPlugin.kind c.steps.compressor)) (ap g.C.CompressorPlugin.image c.steps.invariant.compressor) (g.B.BatchSource.kind c.args.source.now) (g.B.BatchSource.kind c.steps.source) c.steps.invariant.kind c.args.schedule.now u c.steps.machine k
          some (length c.reserve.new.self.items) c.pick_at-pick.result pick)
          c.in-Err-step_counted.ensures.source_told;
    }

-- ---- calls of the source, of the sink and of the compressor

pub returns-then-finished-clause-source : goal.returns-then-finished-clause-source
returns-then-finished-clause-source g c = λ e.
    ended g.B.Fallible.faults g.B.Fallible.may_fail g.B.Fallible.must_fail c.args.source.now c.steps.source c.steps.source (reads_in c.steps.trace.items) (reads_in c.steps.trace.items) refl refl (c.steps.invariant.sources e)

pub returns-then-finished-clause-sink : goal.returns-then-finished-clause-sink
returns-then-finished-clause-sink g c = λ e.
    ended g.O.Sink.Fallible.faults g.O.Sink.Fallible.may_fail g.O.Sink.Fallible.must_fail (g.O.Order.sink c.args.order.now) (g.O.Order.sink c.steps.order) (g.O.Order.sink c.steps.order) (appends_in c.steps.trace.items) (appends_in c.steps.trace.items) refl refl
    (c.steps.invariant.sinks e)

pub returns-then-ready-eq0-clause-source : goal.returns-then-ready-eq0-clause-source
returns-then-ready-eq0-clause-source g c = λ e.
    ended g.B.Fallible.faults g.B.Fallible.may_fail g.B.Fallible.must_fail c.args.source.now c.steps.source c.steps.source (reads_in c.steps.trace.items) (reads_in c.steps.trace.items) refl refl (c.steps.invariant.sources e)

pub returns-then-ready-eq0-clause-sink : goal.returns-then-ready-eq0-clause-sink
returns-then-ready-eq0-clause-sink g c = λ e.
    ended g.O.Sink.Fallible.faults g.O.Sink.Fallible.may_fail g.O.Sink.Fallible.must_fail (g.O.Order.sink c.args.order.now) (g.O.Order.sink c.steps.order) (g.O.Order.sink c.refuse-then-ready-eq0.new.order) (appends_in c.steps.trace.items) (appends_in c.steps.trace.items) refl
    c.refuse-then-ready-eq0.ensures.sink (c.steps.invariant.sinks e)

pub returns-in-Err-step_counted-clause-source : goal.returns-in-Err-step_counted-clause-source
returns-in-Err-step_counted-clause-source g c = λ e.
    source_ends g.B.Fallible.faults g.B.Fallible.may_fail g.B.Fallible.must_fail c.args.source.now c.steps.source c.step_counted.new.source (reads_in c.reserve.new.self.items)
    (subst (λ ts. Answered g.B.Fallible.faults g.B.Fallible.may_fail g.B.Fallible.must_fail c.args.source.now c.steps.source (reads_in ts)) (sym c.reserve.ensures.items) (c.steps.invariant.sources e))
    (reads_at (phase_of c.steps.machine.phase) (c.pick_at-pick.result % machine_ready (g.O.Order.active c.steps.order) c.steps.machine)) c.in-Err-step_counted.error c.in-Err-step_counted.ensures.source_told

pub returns-in-Err-step_counted-clause-sink : goal.returns-in-Err-step_counted-clause-sink
returns-in-Err-step_counted-clause-sink g c = λ e.
    subst (λ z. FaultsTold (g.O.Sink.Fallible.faults (g.O.Order.sink c.args.order.now)) (g.O.Sink.Fallible.faults z) (g.O.Sink.Fallible.may_fail (g.O.Order.sink c.args.order.now)) (g.O.Sink.Fallible.must_fail (g.O.Order.sink c.args.order.now))
    (appends_in c.reserve.new.self.items) (is_sink_fault c.in-Err-step_counted.error)) (sym c.refuse-in-Err-step_counted.ensures.sink)
    (sink_ends g.O.Sink.Fallible.faults g.O.Sink.Fallible.may_fail g.O.Sink.Fallible.must_fail (g.O.Order.sink c.args.order.now) (g.O.Order.sink c.steps.order) (g.O.Order.sink c.step_counted.new.order) (appends_in c.reserve.new.self.items)
    (subst (λ ts. Answered g.O.Sink.Fallible.faults g.O.Sink.Fallible.may_fail g.O.Sink.Fallible.must_fail (g.O.Order.sink c.args.order.now) (g.O.Order.sink c.steps.order) (appends_in ts)) (sym c.reserve.ensures.items) (c.steps.invariant.sinks e))
    c.in-Err-step_counted.error c.in-Err-step_counted.ensures.sink_told)

pub returns-then-finished-clause-pressed : goal.returns-then-finished-clause-pressed
returns-then-finished-clause-pressed g c = λ e.
    ended g.C.Fallible.faults g.C.Fallible.may_fail g.C.Fallible.must_fail c.args.compressor.now c.steps.compressor c.steps.compressor (calls_in c.steps.trace.items) (calls_in c.steps.trace.items) refl refl (c.steps.invariant.pressed e)

pub returns-then-ready-eq0-clause-pressed : goal.returns-then-ready-eq0-clause-pressed
returns-then-ready-eq0-clause-pressed g c = λ e.
    ended g.C.Fallible.faults g.C.Fallible.may_fail g.C.Fallible.must_fail c.args.compressor.now c.steps.compressor c.steps.compressor (calls_in c.steps.trace.items) (calls_in c.steps.trace.items) refl refl (c.steps.invariant.pressed e)

pub returns-in-Err-step_counted-clause-pressed : goal.returns-in-Err-step_counted-clause-pressed
returns-in-Err-step_counted-clause-pressed g c = λ e.
    press_ends g.C.Fallible.faults g.C.Fallible.may_fail g.C.Fallible.must_fail c.args.compressor.now c.steps.compressor c.step_counted.new.compressor (calls_in c.reserve.new.self.items)
    (subst (λ ts. Answered g.C.Fallible.faults g.C.Fallible.may_fail g.C.Fallible.must_fail c.args.compressor.now c.steps.compressor (calls_in ts)) (sym c.reserve.ensures.items) (c.steps.invariant.pressed e))
    c.in-Err-step_counted.error c.in-Err-step_counted.ensures.pressed
