-- How columns ended, by the rows of their workers, and which refusal is the first.
use Rattle.std.proofs.Common.{◌≡◌, ◌⊎◌, ◌+◌, ◌<◌, ◌∷◌, ◌∙◌, ℕ, zero, suc, true, false, List, map, length, Option, Some, None, Result, Ok, Err, slice_get, refl, sym, ap, ap₂, subst, inl, inr, ⊎_elim, arith, []}
use Rattle.std.specs.Prelude.{if◌then◌else◌, IfOk, IfErr, OnOk}
use Rattle.std.specs.Global.{Vec}
use Rattle.std.proofs.lemmas.Bool.{cases_Bool}
use Rattle.std.proofs.lemmas.List.Sums.{sum_by-cons}
use Rattle.vx_path.specs.declared.owned.Path.{Path}
use Rattle.vx_layout_tree.specs.declared.layout.Layout.{Layout}
use Rattle.vx_layout_tree.specs.LayoutView.{layout_data}
use Rattle.vx_fault.specs.Counts.{Rose}
use Rattle.vx_seats.specs.Turns.{NeverFails}
use Rattle.vx_write_answer.specs.declared.error.WriteError.{WriteError}
use Rattle.vx_write_answer.specs.declared.error.WriteError.TheVariants.{SinkFault, CompressFault, OutOfMemory}
use Rattle.vx_write_answer.specs.Causes.{is_sink_fault}
use Rattle.vx_column_worker.specs.Course.{Course, plan_of}
use Rattle.vx_column_worker.specs.Causes.{IsDone}
use Rattle.vx_column_worker.specs.Staffed.{Counts}
use Rattle.vx_column_worker.specs.Worked.{WorkerCause, SharedPast, SeatStopped, PressedOnly}
use Rattle.vx_column_layouts.proofs.Joining.{own_is, own_alone}
use Rattle.vx_write_columns.specs.Ends.{End, MayEnd, AllEnd, first_refusal, IsFirstOf, IsEnd, EndPressed, AllPressed, EndsTell}
use Rattle.vx_write_columns.specs.Numbers.{ColumnOutcome, IsOwn, IsFirstOwn, is_stop}
use Rattle.vx_write_columns.proofs.Rows.{Row, courses_in, lent_in, back_in, after_in, outcomes_in, AllWorked, faults_in}
use Rattle.vx_write_columns.proofs.Failing.{some_fault}

-- ---- outcomes as ends

abbrev pub end_of : ColumnOutcome → End
end_of (Ok r) = None
end_of (Err e) = Some e

abbrev pub ends_of : List ColumnOutcome → List End
ends_of os = map end_of os

none_some : {A : Type 0} (x : A) → None ≡ Some x → ⊥
none_some x e = cc

same_error : (e f : WriteError) → ◌≡◌ {A = Option ColumnOutcome} (Some (Err e)) (Some (Err f)) → e ≡ f
same_error e f h = cc

no_refusal : (r : Layout × Vec Path) (f : WriteError) → ◌≡◌ {A = Option ColumnOutcome} (Some (Ok r)) (Some (Err f)) → ⊥
no_refusal r f h = cc

same_end : (e f : WriteError) → ◌≡◌ {A = Option End} (Some (Some e)) (Some (Some f)) → e ≡ f
same_end e f h = cc

no_end : (f : WriteError) → ◌≡◌ {A = Option End} (Some None) (Some (Some f)) → ⊥
no_end f h = cc

-- an end that is a refusal is that of the outcome
end_at : (os : List ColumnOutcome) (k : ℕ) (e : WriteError) → slice_get (ends_of os) k ≡ Some (Some e) → slice_get os k ≡ Some (Err e)
end_at [] k e h = absurd (none_some (Some e) h)
end_at (Ok r ∷ os) zero e h = absurd (no_end e h)
end_at (Err f ∷ os) zero e h = ap (λ x. Some (Err x)) (same_end f e h)
end_at (o ∷ os) (suc k) e h = end_at os k e h

-- ---- the first refusal

stops : (e : WriteError) → (IsOwn e → ⊥) → is_stop e ≡ true
stops e h = ⊎_elim (λ t. t) (λ f. absurd (h (own_is e f))) (cases_Bool (is_stop e))

first_told : (os : List ColumnOutcome) (place : ℕ) (e : WriteError) → slice_get os place ≡ Some (Err e) → IsOwn e
    → ((k : ℕ) (other : WriteError) → k < place → slice_get os k ≡ Some (Err other) → IsOwn other → ⊥) → first_refusal (ends_of os) ≡ Some e
first_told [] place e at own first = absurd (none_some {A = ColumnOutcome} (Err e) at)
first_told (Ok r ∷ os) zero e at own first = absurd (no_refusal r e at)
first_told (Ok r ∷ os) (suc k) e at own first = first_told os k e at own (λ j other l s o. first (suc j) other (omega (arith, l)) s o)
first_told (Err f ∷ os) zero e at own first =
    ap (λ b. if b then first_refusal (ends_of os) else Some f) (ap is_stop (same_error f e at) ∙ own_alone e own) ∙ ap (λ z. Some z) (same_error f e at)
first_told (Err f ∷ os) (suc k) e at own first =
    ap (λ b. if b then first_refusal (ends_of os) else Some f) (stops f (λ o. first zero f (omega arith) refl o)) ∙ first_told os k e at own (λ j other l s o. first (suc j) other (omega (arith, l)) s o)

-- ---- of workers

sink_fault_or : (e : WriteError) → (e ≡ SinkFault) ⊎ (is_sink_fault e ≡ false)
sink_fault_or SinkFault = inl refl
sink_fault_or e = inr refl

end_pressed : (o : ColumnOutcome) (before now : ℕ) (m : ℕ → Type 0) → PressedOnly before now m o → EndPressed before now m (end_of o)
end_pressed (Ok r) before now m h = h
end_pressed (Err CompressFault) before now m h = h
end_pressed (Err e) before now m h = h

one_sink : (o : ColumnOutcome) (os : List ColumnOutcome) (a : Counts) (ns : List Counts) → OnOk o ((a.faults ≡ 0) × (a.made ≡ 0) × (a.seen ≡ 0))
    → IfErr o (λ e. SeatStopped e (is_sink_fault e) 0 a.faults 0 a.made 0 a.seen) → IsEnd SinkFault (ends_of os) ⊎ (faults_in ns ≡ 0) → IsEnd SinkFault (ends_of (o ∷ os)) ⊎ (faults_in (a ∷ ns) ≡ 0)
one_sink o os a ns u s (inl h) = inl (suc h.0, h.1)
one_sink (Ok r) os a ns u s (inr z) = inr (sum_by-cons (λ (c : Counts). c.faults) a ns ∙ ap₂ (λ (x y : ℕ). x + y) u.0 z)
one_sink (Err e) os a ns u s (inr z) = ⊎_elim
    (λ is. inl (0, ap (λ (x : WriteError). Some (Some x)) is))
    (λ calm. inr (sum_by-cons (λ (c : Counts). c.faults) a ns ∙ ap₂ (λ (x y : ℕ). x + y) (s.calm calm) z))
    (sink_fault_or e)

module _ {C : Type 0} (kind faults : C → ℕ) (may : C → ℕ → Type 0) (first pairs : ℕ) where
  abbrev AllDid : List (Row C) → Type 0
  AllDid rs = AllWorked kind faults may first pairs rs

  may_end : (x : Course) (o : ColumnOutcome) (n : ℕ) → IfOk o (λ r. IsDone (plan_of x) (layout_data r.0) r.1.items × (n ≡ 0 + length (plan_of x).pairs)) → IfErr o (WorkerCause (SharedPast first pairs) x)
      → MayEnd (SharedPast first pairs) x (end_of o)
  may_end x (Ok r) n d c = (d.0.faultless, d.0.fit)
  may_end x (Err e) n d c = c

  all_end : (rs : List (Row C)) → AllDid rs → AllEnd (SharedPast first pairs) (courses_in rs) (ends_of (outcomes_in rs))
  all_end [] w = tt
  all_end (r ∷ rs) w = (may_end r.course r.done.outcome r.after.writes w.0.done w.0.refused, all_end rs w.1)

  all_pressed : (rs : List (Row C)) → AllDid rs → AllPressed faults may (lent_in rs) (back_in rs) (ends_of (outcomes_in rs))
  all_pressed [] w = tt
  all_pressed (r ∷ rs) w = (end_pressed r.done.outcome (faults r.lent) (faults r.done.compressor) (may r.lent) w.0.pressed, all_pressed rs w.1)

  sink_end : (rs : List (Row C)) → AllDid rs → IsEnd SinkFault (ends_of (outcomes_in rs)) ⊎ (faults_in (after_in rs) ≡ 0)
  sink_end [] w = inr refl
  sink_end (r ∷ rs) w = one_sink r.done.outcome (outcomes_in rs) r.after (after_in rs) w.0.unstopped w.0.stopped (sink_end rs w.1)

  pub first_of : (rs : List (Row C)) (e : WriteError) (before now : ℕ) (may_fail : ℕ → Type 0) → AllDid rs → (e ≡ OutOfMemory) ⊎ IsFirstOwn (outcomes_in rs) e
      → (0 < faults_in (after_in rs) → Rose before now) → (0 < faults_in (after_in rs) → ¬ (NeverFails may_fail)) → (faults_in (after_in rs) ≡ 0 → now ≡ before)
      → (e ≡ OutOfMemory) ⊎ IsFirstOf (SharedPast first pairs) (EndsTell before now may_fail faults may (lent_in rs) (back_in rs)) (courses_in rs) e
  first_of rs e before now may_fail w (inl m) rose could quiet = inl m
  first_of rs e before now may_fail w (inr f) rose could quiet = inr (record {
    ends = ends_of (outcomes_in rs);
    all = all_end rs w;
    told = record {
      sink_failed = λ h. let l : 0 < faults_in (after_in rs) = some_fault kind faults may first pairs rs h.0 w (end_at (outcomes_in rs) h.0 SinkFault h.1) in (rose l, could l);
      sink_kept = ⊎_elim (λ h. inl h) (λ z. inr (quiet z)) (sink_end rs w);
      pressed = all_pressed rs w;
    };
    first_is = first_told (outcomes_in rs) f.place e f.at f.own f.first;
  })
