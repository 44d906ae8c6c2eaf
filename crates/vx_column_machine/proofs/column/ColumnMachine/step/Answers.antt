use Rattle.std.proofs.Common.{◌≡◌, ◌∙◌, ◌%◌, ◌++◌, ◌∷◌, [], ℕ, List, Option, Some, ap, sym, subst}
use Rattle.std.specs.Global.{Vec}
use Rattle.std.proofs.lemmas.Result.{err_from_is_err_and}
use Rattle.vx_model.specs.Ty.{Ty}
use Rattle.vx_model.specs.ChunkData.{ChunkData}
use Rattle.vx_sequence.specs.Universe.{Active}
use Rattle.vx_sink.specs.ContextView.{counted}
use Rattle.vx_desk.specs.DeskView.{universe_of, written_of, kept_of, segments_in}
use Rattle.vx_machine.specs.Pairs.{task_pairs}
use Rattle.vx_machine.proofs.PairSteps.{all_may}
use Rattle.vx_machine_node.specs.Context.{setting_of}
use Rattle.vx_machine.specs.declared.machine.Machine.{Machine}
use Rattle.vx_machine.specs.Calls.{reads_at}
use Rattle.vx_machine.specs.View.{phase_of, machine_of}
use Rattle.vx_machine.specs.Whole.{machine_ready}
use Rattle.vx_column_machine.specs.Course.{Course, StandsAt}
use Rattle.vx_column_machine.specs.Underway.{IsFront}
use Rattle.vx_column_machine.proofs.Telling.{fed_well, kept_well}
use Rattle.vx_column_machine.proofs.Stepping.{some_ready, cause_of, led, stands_none, some_active, wrote_on}
use Rattle.vx_column_machine.proofs.column.ColumnMachine.step.Goals as goal

pub step-requires-clause-ready : goal.step-requires-clause-ready
step-requires-clause-ready g c =
    some_ready c.requires.underway.0 (universe_of c.args.self.now.desk) c.args.self.now.machine c.requires.balance.exact (g.B.BatchSource.to_come c.args.self.now.source) (written_of c.args.self.now.desk)
    c.args.self.now.paths.items c.requires.underway.2.stands c.courses.ensures.ready c.requires.going

pub step-requires-clause-allowed : goal.step-requires-clause-allowed
step-requires-clause-allowed g c = all_may _ (λ p b. tt) (task_pairs c.args.self.now.machine.root)

pub step-requires-clause-enough : goal.step-requires-clause-enough
step-requires-clause-enough g c = c.requires.underway.2.enough

pub returns-in_err-_step-clause-cause : goal.returns-in_err-_step-clause-cause
returns-in_err-_step-clause-cause g c =
    let p = err_from_is_err_and c.from_residual-in_err-_step.result c.from_residual-in_err-_step.ensures.1 in
    let u : Active = universe_of c.args.self.now.desk in
    let m : Machine = c.args.self.now.machine in
    rw (p.1, p.2) (λ x set h.
    cause_of x u m c.requires.balance.exact (g.B.BatchSource.to_come c.args.self.now.source) (written_of c.args.self.now.desk) c.args.self.now.paths.items h.stands
    c.course_ends.ensures.causes c.course_ends.ensures.misfits c.courses.ensures.on c.courses.ensures.front c.args.self.now.ctx (g.C.CompressorPlugin.image (g.C.CompressorPlugin.kind c.args.compressor.now))
    (counted c.args.self.now.ctx) (g.B.BatchSource.kind c.args.self.now.source) (g.B.BatchSource.to_come c.step.new.source) (kept_of c.args.self.now.desk) c.in_err-_step.field-0.0
    c.in_err-_step.ensures.refused set h.type_is c.requires.balance.counts
    (fed_well (g.B.Fallible.faults c.args.self.now.source) (g.B.Fallible.faults c.step.new.source) (g.B.Fallible.may_fail c.args.self.now.source) (g.B.Fallible.may_fail c.step.new.source)
    (g.B.Fallible.must_fail c.args.self.now.source) (g.B.Fallible.must_fail c.step.new.source) (reads_at (phase_of m.phase) (0 % machine_ready u m)) c.in_err-_step.field-0.0 c.in_err-_step.ensures.source_told c.requires.balance.steady)
    (kept_well _ _ _ _ _ _ c.in_err-_step.field-0.0 c.in_err-_step.ensures.sink_told (λ k no. no)))

pub returns-in_default-clause-led : goal.returns-in_default-clause-led
returns-in_default-clause-led g c = λ x set h.
    let u : Active = universe_of c.args.self.now.desk in
    let m : Machine = c.args.self.now.machine in
    let ps : List (List ℕ) = c.args.self.now.paths.items in
    let before : Option (List ChunkData) = g.B.BatchSource.to_come c.args.self.now.source in
    let now : Option (List ChunkData) = g.B.BatchSource.to_come c.step.new.source in
    let w : ℕ = written_of c.args.self.now.desk in
    let v : ℕ = written_of c.step.new.order in
    let k : List (List ℕ) = kept_of c.args.self.now.desk in
    let d : List (List ℕ) = kept_of c.step.new.order in
    let t : Ty = g.B.BatchSource.kind c.args.self.now.source in
    let e : segments_in c.take-kept.result.items ≡ d = ap (λ (z : Vec (Vec ℕ)). segments_in z.items) c.take-kept.ensures.taken in
    let l = led x u m c.requires.balance.exact before w ps h.stands (setting_of c.args.self.now.ctx (g.C.CompressorPlugin.image (g.C.CompressorPlugin.kind c.args.compressor.now))) t now v k d c.step.new.self c.in_ok-_step._step
    (c.in_ok-_step.ensures.leads c.requires.balance.exact) set h.type_is in
    record {
      stands = subst (λ z. StandsAt x (machine_of c.step.new.self) now z c.make_room.new.paths.items) (sym c.take-kept.ensures.written)
          (subst (λ z. StandsAt x (machine_of c.step.new.self) now v z) (sym c.make_room.ensures.same)
          (stands_none x u m c.requires.balance.exact before w ps h.stands now v k d c.step.new.self c.in_ok-_step._step l c.in_ok-_step.ensures.told.1 c.requires.balance.kept c.writes.ensures
          c.take-kept.result.items e (sym c.take-kept.result.ok.0 ∙ c.in_default.ensures.cases.0)));
      type_is = c.step.ensures.kind ∙ h.type_is;
      number_is = h.number_is;
      enough = c.in_ok-_step.ensures.enough;
    }

pub unreachable-requires : goal.unreachable-requires
unreachable-requires g c =
    let x : Course = c.requires.underway.0 in
    let set = c.requires.underway.1 in
    let h = c.requires.underway.2 in
    let u : Active = universe_of c.args.self.now.desk in
    let m : Machine = c.args.self.now.machine in
    let ps : List (List ℕ) = c.args.self.now.paths.items in
    let before : Option (List ChunkData) = g.B.BatchSource.to_come c.args.self.now.source in
    let now : Option (List ChunkData) = g.B.BatchSource.to_come c.step.new.source in
    let w : ℕ = written_of c.args.self.now.desk in
    let v : ℕ = written_of c.step.new.order in
    let k : List (List ℕ) = kept_of c.args.self.now.desk in
    let d : List (List ℕ) = kept_of c.step.new.order in
    let t : Ty = g.B.BatchSource.kind c.args.self.now.source in
    let e : segments_in c.take-kept.result.items ≡ d = ap (λ (z : Vec (Vec ℕ)). segments_in z.items) c.take-kept.ensures.taken in
    let l = led x u m c.requires.balance.exact before w ps h.stands (setting_of c.args.self.now.ctx (g.C.CompressorPlugin.image (g.C.CompressorPlugin.kind c.args.compressor.now))) t now v k d c.step.new.self c.in_ok-_step._step
    (c.in_ok-_step.ensures.leads c.requires.balance.exact) set h.type_is in
    some_active x u m c.requires.balance.exact before w ps h.stands now v k d c.step.new.self c.in_ok-_step._step l c.in_ok-_step.ensures.told.1 c.requires.balance.kept c.writes.ensures
    c.take-kept.result.items e c.courses.ensures.front c.pop.new.self.items c.in-Some.segment c.in-Some.ensures.items (subst (IsFront u) c.in-None.is c.in_ok-here.ensures)

pub returns-clause-led : goal.returns-clause-led
returns-clause-led g c = λ x set h.
    let u : Active = universe_of c.args.self.now.desk in
    let m : Machine = c.args.self.now.machine in
    let ps : List (List ℕ) = c.args.self.now.paths.items in
    let before : Option (List ChunkData) = g.B.BatchSource.to_come c.args.self.now.source in
    let now : Option (List ChunkData) = g.B.BatchSource.to_come c.step.new.source in
    let w : ℕ = written_of c.args.self.now.desk in
    let v : ℕ = written_of c.step.new.order in
    let k : List (List ℕ) = kept_of c.args.self.now.desk in
    let d : List (List ℕ) = kept_of c.step.new.order in
    let t : Ty = g.B.BatchSource.kind c.args.self.now.source in
    let e : segments_in c.take-kept.result.items ≡ d = ap (λ (z : Vec (Vec ℕ)). segments_in z.items) c.take-kept.ensures.taken in
    let l = led x u m c.requires.balance.exact before w ps h.stands (setting_of c.args.self.now.ctx (g.C.CompressorPlugin.image (g.C.CompressorPlugin.kind c.args.compressor.now))) t now v k d c.step.new.self c.in_ok-_step._step
    (c.in_ok-_step.ensures.leads c.requires.balance.exact) set h.type_is in
    let f : IsFront u (Some c.in-Some-here.path) = subst (IsFront u) c.in-Some-here.is c.in_ok-here.ensures in
    record {
      stands = subst (λ z. StandsAt x (machine_of c.step.new.self) now z c.push_reserved.new.self.items) (sym c.take-kept.ensures.written)
          (wrote_on x u m c.requires.balance.exact before w ps h.stands now v k d c.step.new.self c.in_ok-_step._step l c.in_ok-_step.ensures.told.1 c.requires.balance.kept c.writes.ensures
          c.take-kept.result.items e c.courses.ensures.front c.pop.new.self.items c.in-Some.segment c.in-Some.ensures.items
          c.in-Some-here.path f.0 f.1 c.push_reserved.new.self.items
          (c.push_reserved.ensures.items ∙ ap (λ z. z ++ (c.in-Some-here.path ∷ [])) c.make_room.ensures.same)).0;
      type_is = c.step.ensures.kind ∙ h.type_is;
      number_is = h.number_is;
      enough = c.in_ok-_step.ensures.enough;
    }

pub returns-clause-wrote : goal.returns-clause-wrote
returns-clause-wrote g c = λ x set h.
    let u : Active = universe_of c.args.self.now.desk in
    let m : Machine = c.args.self.now.machine in
    let ps : List (List ℕ) = c.args.self.now.paths.items in
    let before : Option (List ChunkData) = g.B.BatchSource.to_come c.args.self.now.source in
    let now : Option (List ChunkData) = g.B.BatchSource.to_come c.step.new.source in
    let w : ℕ = written_of c.args.self.now.desk in
    let v : ℕ = written_of c.step.new.order in
    let k : List (List ℕ) = kept_of c.args.self.now.desk in
    let d : List (List ℕ) = kept_of c.step.new.order in
    let t : Ty = g.B.BatchSource.kind c.args.self.now.source in
    let e : segments_in c.take-kept.result.items ≡ d = ap (λ (z : Vec (Vec ℕ)). segments_in z.items) c.take-kept.ensures.taken in
    let l = led x u m c.requires.balance.exact before w ps h.stands (setting_of c.args.self.now.ctx (g.C.CompressorPlugin.image (g.C.CompressorPlugin.kind c.args.compressor.now))) t now v k d c.step.new.self c.in_ok-_step._step
    (c.in_ok-_step.ensures.leads c.requires.balance.exact) set h.type_is in
    let f : IsFront u (Some c.in-Some-here.path) = subst (IsFront u) c.in-Some-here.is c.in_ok-here.ensures in
    (wrote_on x u m c.requires.balance.exact before w ps h.stands now v k d c.step.new.self c.in_ok-_step._step l c.in_ok-_step.ensures.told.1 c.requires.balance.kept c.writes.ensures
    c.take-kept.result.items e c.courses.ensures.front c.pop.new.self.items c.in-Some.segment c.in-Some.ensures.items
    c.in-Some-here.path f.0 f.1 c.push_reserved.new.self.items
    (c.push_reserved.ensures.items ∙ ap (λ z. z ++ (c.in-Some-here.path ∷ [])) c.make_room.ensures.same)).1
