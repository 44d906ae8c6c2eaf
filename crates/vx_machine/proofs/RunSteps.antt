-- A run grows step by step.
use Rattle.std.proofs.Common.{◌≡◌, ℕ, suc, ◌+◌, ◌%◌, ◌<◌, List, [], ◌∷◌, ◌++◌, length, Option, inr, refl, sym, ap, subst, ◌∙◌, arith}
use Rattle.std.specs.FinMap as fin
use Rattle.std.specs.Prelude.{slice_index}
use Rattle.vx_model.specs.Ty.{Ty}
use Rattle.vx_model.specs.ChunkData.{ChunkData}
use Rattle.vx_sequence.specs.Universe.{Active}
use Rattle.vx_tasks.specs.Run.{nth}
use Rattle.vx_order.specs.Outlet.{Outlet}
use Rattle.vx_plan.specs.PlanData.{Setting}
use Rattle.vx_setting.specs.Setting.{real}
use Rattle.vx_sink.specs.declared.context.LayoutWriterContext.{LayoutWriterContext}
use Rattle.vx_sink.specs.ContextView.{counted as counted_bytes}
use Rattle.vx_write_answer.specs.declared.step.Step.{Step}
use Rattle.vx_write_answer.specs.declared.step.ActionKind.{ActionKind}
use Rattle.vx_write_answer.specs.declared.error.WriteError.{WriteError}
use Rattle.vx_machine_ids.specs.Balance.{Exact}
use Rattle.vx_machine_promises.specs.Write.{unasked}
use Rattle.vx_machine_state.specs.Images.{images_of}
use Rattle.vx_machine_view.specs.Machine as whole
use Rattle.vx_machine_view.proofs.Placing.{whole_is_ready}
use Rattle.vx_machine.specs.declared.machine.Machine.{Machine}
use Rattle.vx_machine.specs.Calls.{reads_at}
use Rattle.vx_machine_node.specs.Context.{setting_of}
use Rattle.vx_machine_node.specs.Ledger.{told_by}
use Rattle.vx_machine_node.proofs.LedgerSteps.{told_listed, told_allowed}
use Rattle.vx_machine.specs.Steps.{WholeStepped, StepRefused, StepDone, StepFails}
use Rattle.vx_machine.specs.Run.{At, at, ready_at, RunStep, Ran, picked_at, tracker_by, Stops}
use Rattle.vx_machine.specs.View.{phase_of, machine_of}
use Rattle.vx_machine.specs.Whole.{machine_stock, machine_ready}
use Rattle.vx_machine.proofs.ReadyViews.{machine_view}
use Rattle.vx_machine.proofs.HeldViews.{held_steps}

-- one step more
pub ran_more : (ctx : LayoutWriterContext) (image : ℕ → ChunkData → ChunkData) (t : Ty) (schedule : List ℕ) (place : ℕ) (x y z : At) (ss : List Step) (s : Step) → Ran ctx image t schedule place x ss y → RunStep ctx image t schedule (place + length ss) y z s
    → Ran ctx image t schedule place x (ss ++ (s ∷ [])) z
ran_more ctx image t schedule place x y z [] s r n =
    let e : place + 0 ≡ place = omega arith in
    (z, subst (λ w. RunStep ctx image t schedule place w z s) (sym r) (subst (λ p. RunStep ctx image t schedule p y z s) e n), refl)
ran_more ctx image t schedule place x y z (q ∷ qs) s r n =
    let e : place + suc (length qs) ≡ suc place + length qs = omega arith in
    (r.0, r.1, ran_more ctx image t schedule (suc place) r.0 y z qs s r.2 (subst (λ p. RunStep ctx image t schedule p y z s) e n))

-- where all that is active is held, the steps are those of the paths that are held
module _ (u : Active) (m : Machine) (exact : Exact u (machine_stock m)) where
  pub ready_held : (s : Setting) → ready_at (machine_of m) ≡ machine_ready u m
  ready_held s =
      sym (whole_is_ready s (whole.machine_ids (machine_of m)) 0 unasked (machine_of m))
      ∙ ap length (sym (held_steps u m exact s 0 unasked))
      ∙ whole_is_ready s (fin.keys u) 0 unasked (machine_of m)
      ∙ machine_view u m

  module _ (ctx : LayoutWriterContext) (image : ℕ → ChunkData → ChunkData) (picked : ℕ) (t : Ty) (before now : Option (List ChunkData)) (o : Outlet) where
    pub done_held : (v : Outlet) (new : whole.Machine) (name : List ℕ) (a : ActionKind) → StepDone ctx image (fin.keys u) picked t before now o v (machine_of m) new name a
        → StepDone ctx image (whole.machine_ids (machine_of m)) picked t before now o v (machine_of m) new name a
    done_held v new name a d =
        let n : ℕ = d.0 in
        let w : WholeStepped (setting_of ctx image) (fin.keys u) picked t before now o n v (machine_of m) new name a = d.1 in (
          n,
          record {
            told = w.told;
            step = w.step;
            place = ap (λ z. nth z picked) (sym (held_steps u m exact (setting_of ctx image) n w.told)) ∙ w.place;
            asks = w.asks;
            tells = w.tells;
            name_is = w.name_is;
            kind = w.kind;
            unrefused = w.unrefused;
            fits = w.fits;
            counted = w.counted;
            left = w.left;
            outlet = w.outlet;
          },
        )

    pub fails_held : (counts : ℕ) (e : WriteError) → StepFails ctx image counts (fin.keys u) picked t before now o (machine_of m) e → StepFails ctx image counts (whole.machine_ids (machine_of m)) picked t before now o (machine_of m) e
    fails_held counts e d = λ n.
        let w : StepRefused (setting_of ctx image) (fin.keys u) picked counts t before now o n (machine_of m) e = d n in
        record {
          told = w.told;
          step = w.step;
          place = ap (λ z. nth z picked) (sym (held_steps u m exact (setting_of ctx image) n w.told)) ∙ w.place;
          asks = w.asks;
          tells = w.tells;
          cause = w.cause;
          called = w.called;
        }

-- a step more in the trace
pub run_grows : (ctx : LayoutWriterContext) (image : ℕ → ChunkData → ChunkData) (t : Ty) (schedule : List ℕ) (x y z : At) (ss ts : List Step) (s : Step) → ts ≡ ss ++ (s ∷ []) → Ran ctx image t schedule 0 x ss y → RunStep ctx image t schedule (length ss) y z s
    → Ran ctx image t schedule 0 x ts z
run_grows ctx image t schedule x y z ss ts s is r n =
    let e : length ss ≡ 0 + length ss = omega arith in
    subst (λ us. Ran ctx image t schedule 0 x us z) (sym is) (ran_more ctx image t schedule 0 x y z ss s r (subst (λ k. RunStep ctx image t schedule k y z s) e n))

-- a step by the pick of its place, of a context that tells the same, and the source and the images as they were
module _ (ctx now : LayoutWriterContext) (same : told_by now ≡ told_by ctx) (image used : ℕ → ChunkData → ChunkData) (alike : used ≡ image) (t kind : Ty) (typed : kind ≡ t) (schedule : List ℕ) (u : Active) (m : Machine) (exact : Exact u (machine_stock m))
    (some : 0 < machine_ready u m) (place pick : ℕ) (is : pick ≡ slice_index schedule place) where
  ready_counted : ready_at (machine_of m) ≡ machine_ready u m
  ready_counted = ready_held u m exact (setting_of ctx image)

  some_ready : 0 < ready_at (machine_of m)
  some_ready = subst (λ n. 0 < n) (sym ready_counted) some

  setting_same : setting_of now used ≡ setting_of ctx image
  setting_same = λ j. real (told_listed ctx now same j) (told_allowed ctx now same j) (images_of (alike j))

  -- done
  pub run_step : (x y : Option (List ChunkData)) (o v : Outlet) (new : whole.Machine) (s : Step) → (s.ready ≡ machine_ready u m) × (s.picked ≡ pick % s.ready)
      → StepDone now used (fin.keys u) s.picked kind x y o v (machine_of m) new s.task s.action → RunStep ctx image t schedule place (at (machine_of m) x o) (at new y v) s
  run_step x y o v new s told d =
      let b : StepDone ctx image (fin.keys u) s.picked kind x y o v (machine_of m) new s.task s.action =
      (d.0, subst (λ z. WholeStepped z (fin.keys u) s.picked kind x y o d.0 v (machine_of m) new s.task s.action) setting_same d.1) in
      let e : StepDone ctx image (fin.keys u) s.picked t x y o v (machine_of m) new s.task s.action = subst (λ z. StepDone ctx image (fin.keys u) s.picked z x y o v (machine_of m) new s.task s.action) typed b in
      record {
        some = some_ready;
        ready = told.0 ∙ sym ready_counted;
        picked = told.1 ∙ ap (λ n. n % s.ready) is;
        done = done_held u m exact ctx image s.picked t x y o v new s.task s.action e;
      }

  -- refused, where the tracker counts what the machine has reserved
  pub run_refused : (x y : Option (List ChunkData)) (o : Outlet) (e : WriteError) → counted_bytes now ≡ tracker_by ctx (machine_of m)
      → StepFails now used (counted_bytes now) (fin.keys u) (pick % machine_ready u m) kind x y o (machine_of m) e → Stops ctx image t schedule place (at (machine_of m) x o) y e
  run_refused x y o e counts d =
      let k : ℕ = pick % machine_ready u m in
      let n : ℕ = tracker_by ctx (machine_of m) in
      let b : StepFails ctx image n (fin.keys u) k kind x y o (machine_of m) e = λ number.
      subst (λ z. StepRefused (setting_of ctx image) (fin.keys u) k z kind x y o number (machine_of m) e) counts
      (subst (λ z. StepRefused z (fin.keys u) k (counted_bytes now) kind x y o number (machine_of m) e) setting_same (d number)) in
      let f : StepFails ctx image n (fin.keys u) k t x y o (machine_of m) e = subst (λ z. StepFails ctx image n (fin.keys u) k z x y o (machine_of m) e) typed b in
      let p : k ≡ picked_at schedule place (machine_of m) = λ j. is j % sym ready_counted j in
      inr (some_ready, subst (λ z. StepFails ctx image n (whole.machine_ids (machine_of m)) z t x y o (machine_of m) e) p (fails_held u m exact ctx image k t x y o n e f))

  -- whether the source reads in it
  pub reads_same : reads_at (phase_of m.phase) (picked_at schedule place (machine_of m)) ≡ reads_at (phase_of m.phase) (pick % machine_ready u m)
  reads_same = λ j. reads_at (phase_of m.phase) (sym is j % ready_counted j)
