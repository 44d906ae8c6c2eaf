-- A write comes on by the steps of its machine, wherever it began and over whatever order.
use Rattle.std.proofs.Common.{◌≡◌, ◌+◌, ◌%◌, ◌∷◌, ◌++◌, ◌∙◌, ℕ, zero, suc, Bool, List, map, length, append-nil, length-append, refl, sym, ap, subst, inl, inr, arith, Option, Some, slice_index, []}
use Rattle.std.specs.FinMap as fin
use Rattle.vx_model.specs.Ty.{Ty}
use Rattle.vx_model.specs.ChunkData.{ChunkData}
use Rattle.vx_path.specs.Path.{Eof, next}
use Rattle.vx_named_tasks.specs.Names.{Names, onward, CanName}
use Rattle.vx_sequence.specs.Universe.{Active}
use Rattle.vx_sink.specs.declared.context.LayoutWriterContext.{LayoutWriterContext}
use Rattle.vx_machine_ids.specs.Balance.{Exact}
use Rattle.vx_tasks.specs.Rules.{AtLeast}
use Rattle.vx_tasks.specs.Run.{Note, nth, first_pick}
use Rattle.vx_tasks.specs.Runs.{noted}
use Rattle.vx_strategy_spec.specs.StrategyData.{StrategyData}
use Rattle.vx_plan.specs.PlanData.{Setting, Pair}
use Rattle.vx_order.specs.Outlet.{Outlet, own, shared}
use Rattle.vx_write_answer.specs.declared.step.Step.{Step}
use Rattle.vx_machine_turns.specs.Forms.{Form}
use Rattle.vx_machine_turns.proofs.StartLaws.{start_faults_agree}
use Rattle.vx_machine_steps.specs.Runs.{picks_after}
use Rattle.vx_machine_promises.specs.Write.{Write, Answer}
use Rattle.vx_machine_view.specs.Machine.{Phase, reading, giving, closing, finished, Machine, WholeStep, whole_steps, is_finished, machine_ids}
use Rattle.vx_machine_view.specs.Places.{whole_ready}
use Rattle.vx_machine_runs.specs.Runs.{Asking}
use Rattle.vx_machine_runs.specs.Courses.{Point, point_after, Goes, names_after, NamesLeft, CourseIsReady, CourseIsFront, CourseGoesOn}
use Rattle.vx_machine_runs.proofs.Coursing.{asked_before}
use Rattle.vx_machine_nodes.specs.Acting.{IsAppended, Behind}
use Rattle.vx_machine_node.specs.Context.{Allowed, setting_of}
use Rattle.vx_machine_node.specs.View.{form_at}
use Rattle.vx_machine_tasks.specs.Starting.{IsAllowed}
use Rattle.vx_machine.specs.Names.{HasNames}
use Rattle.vx_machine.specs.Progress.{HasCome, Begins, NeverStuck, IsFront, numbers_from, GoesOnFrom, LeadsOn, StepsOn}
use Rattle.vx_machine.specs.Run.{ready_at}
use Rattle.vx_machine.specs.SourceActs.{AsksAt}
use Rattle.vx_machine.specs.Starting.{machine_at}
use Rattle.vx_machine.specs.Steps.{WholeStepped, StepDone}
use Rattle.vx_machine.specs.View.{machine_of}
use Rattle.vx_machine.specs.Whole.{machine_stock, machine_ready}
use Rattle.vx_machine.specs.declared.machine.Machine.{Machine as Code}
use Rattle.vx_machine.proofs.Fewness.{Few, whole_few}
use Rattle.vx_machine.proofs.Going.{pick_here, asking, typed_so}
use Rattle.vx_machine.proofs.RunSteps.{ready_held, done_held}

-- ---- the numbers that a sink gives

numbers_more : (first n : ℕ) → numbers_from first n ++ ((first + n) ∷ []) ≡ numbers_from first (suc n)
numbers_more first zero = let e : first + 0 ≡ first = omega arith in ap (λ z. z ∷ []) e
numbers_more first (suc n) = let e : first + suc n ≡ suc first + n = omega arith in ap (λ z. first ∷ z) (ap (λ z. numbers_from (suc first) n ++ (z ∷ [])) e ∙ numbers_more (suc first) n)

module _ (x : Point) (told : Answer) (number first : ℕ) where
  -- of a step that appends nothing
  none_more : (w : WholeStep) (o v : Outlet) → w.wrote ≡ [] → v ≡ o → GoesOnFrom first o x → GoesOnFrom first v (point_after x told number w)
  none_more w o v is same h = subst (λ z. GoesOnFrom first z (point_after x told number w)) (sym same) (by o h)
    where
      alike : x.history ++ w.wrote ≡ x.history
      alike = ap (λ z. x.history ++ z) is ∙ append-nil x.history

      numbered : x.numbers ++ map (λ p. number) w.wrote ≡ x.numbers
      numbered = ap (λ z. x.numbers ++ map (λ p. number) z) is ∙ append-nil x.numbers

      by : (o : Outlet) → GoesOnFrom first o x → GoesOnFrom first o (point_after x told number w)
      by (own s) h = (h.0 ∙ ap (λ z. first + length z) (sym alike), numbered ∙ h.1 ∙ ap (λ z. numbers_from first (length z)) (sym alike))
      by (shared s) h = h ∙ ap (λ z. first + length z) (sym alike)

  -- of one that appends this
  one_more : (w : WholeStep) (o v : Outlet) (p : Pair) → w.wrote ≡ p ∷ [] → IsAppended o number p v → GoesOnFrom first o x → GoesOnFrom first v (point_after x told number w)
  one_more w o v p is a h = by o v a h
    where
      longer : length (x.history ++ w.wrote) ≡ suc (length x.history)
      longer = let l : length (x.history ++ (p ∷ [])) ≡ length x.history + 1 = length-append x.history (p ∷ []) in ap (λ z. length (x.history ++ z)) is ∙ omega (arith, l)

      by : (o v : Outlet) → IsAppended o number p v → GoesOnFrom first o x → GoesOnFrom first v (point_after x told number w)
      by (own s) (own t) a h =
          let n = a.written.0 in
          let b = h.0 in
          let c : number ≡ first + length x.history = a.told.1 ∙ h.0 in (
            omega (arith, n, b, longer),
            ap (λ z. x.numbers ++ map (λ q. number) z) is ∙ ap (λ z. z ++ (number ∷ [])) h.1 ∙ ap (λ z. numbers_from first (length x.history) ++ (z ∷ [])) c
                ∙ numbers_more first (length x.history) ∙ ap (numbers_from first) (sym longer),
          )
      by (own s) (shared t) a h = absurd a.written
      by (shared s) (own t) a h = absurd a.written
      by (shared s) (shared t) a h = let n = a.written.4 in omega (arith, n, h, longer)

-- ---- where a write has come

pub never_stuck : CourseIsReady → (m : Machine) (n : ℕ) → (Setting → n ≡ 0 → ready_at m ≡ 0) → NeverStuck m n
never_stuck ready m (suc n) none g names eof ns x h can going = omega arith
never_stuck ready m zero none g names eof ns x h can going =
    let some = ready g names eof ns x h.come can (ap is_finished (sym h.machine_is) ∙ going) in
    let zero_there : whole_ready (machine_ids x.machine) x.machine ≡ 0 = ap ready_at (sym h.machine_is) ∙ none g.setting refl in
    absurd (omega (arith, some, zero_there))

pub is_front : CourseIsFront → (m : Machine) → IsFront m
is_front front m g names eof ns x h f may can =
    let e = front g names eof ns x h.come f may can in
    (e.0, e.1, λ p i. subst (λ z. AtLeast (machine_ids z) p.0) (sym h.machine_is) (e.2 p i))

-- a step of this place in the schedule
module _ (on : CourseGoesOn) (g : Write) (names : Names) (eof : Eof) (ns : List Note) (x : Point) (m : Machine) (h : HasCome g names eof ns x m) (to_come to_come_then : Option (List ChunkData)) (o v : Outlet)
    (new : Machine) (s : Step) (ready : s.ready ≡ ready_at m) (pick : s.picked ≡ slice_index g.schedule (length ns) % s.ready) (number : ℕ)
    (w : WholeStepped g.setting (machine_ids m) s.picked g.type to_come to_come_then o number v m new s.task s.action) where
  place : nth (whole_steps g.setting (machine_ids x.machine) number w.told x.machine) s.picked ≡ Some w.step
  place = subst (λ z. nth (whole_steps g.setting (machine_ids z) number w.told z) s.picked ≡ Some w.step) h.machine_is w.place

  asks : Asking x.machine.phase s.picked w.told
  asks = asking x.machine.phase s.picked w.told (subst (λ (z : Machine). AsksAt z.phase s.picked w.told) h.machine_is w.asks)

  abbrev it : Note
  it = noted (ready_at x.machine) s.picked w.step.name w.step.kind

  abbrev there : Point
  there = point_after x w.told number w.step

  abbrev goes : Goes g x there it
  goes = record {
    told = w.told;
    number = number;
    step = w.step;
    place = place;
    asks = asks;
    typed = typed_so g.type to_come to_come_then w.told w.tells;
    once = asked_before g names eof ns x w.told s.picked h.come asks;
    fits = w.fits;
    unrefused = w.unrefused;
    note = refl;
    left = refl;
  }

  counted : s.ready ≡ it.ready
  counted = ready ∙ ap ready_at h.machine_is

  by_schedule : it.picked ≡ first_pick (picks_after (length ns) g.schedule) % it.ready
  by_schedule = pick ∙ ap (λ z. slice_index g.schedule (length ns) % z) counted ∙ ap (λ z. z % it.ready) (sym (pick_here (length ns) g.schedule))

  numbers_then : (first : ℕ) → GoesOnFrom first o x → GoesOnFrom first v there
  numbers_then first k = by (whole_few g.setting (machine_ids m) number w.told m s.picked w.step w.place)
    where
      by : Few w.step.wrote w.step.refusal → GoesOnFrom first v there
      by (inl e) = none_more x w.told number first w.step o v e (subst (λ ps. Behind o number ps v) e w.outlet) k
      by (inr (p, e, u)) = one_more x w.told number first w.step o v p e (subst (λ ps. Behind o number ps v) e w.outlet) k

  pub leads_on : LeadsOn g names eof ns x to_come to_come_then o v new s
  leads_on =
      let led = on g names eof ns x there it h.come goes by_schedule in
      record {
        point = there;
        note = it;
        shows = (counted, refl, w.name_is, w.kind);
        goes = goes;
        counted = w.counted;
        comes = record { come = led.0; machine_is = w.left };
        tells = w.tells;
        sink = w.outlet;
        numbers = numbers_then;
        falls = led.1;
      }

-- so it is of each step that is done where all that is active is held
pub steps_on : CourseGoesOn → (ctx : LayoutWriterContext) (image : ℕ → ChunkData → ChunkData) (u : Active) (m : Code) → Exact u (machine_stock m) → (t : Ty) (pick : ℕ) (to_come to_come_then : Option (List ChunkData)) (o v : Outlet) (new : Machine) (s : Step)
    → s.ready ≡ machine_ready u m → s.picked ≡ pick % s.ready → StepDone ctx image (fin.keys u) s.picked t to_come to_come_then o v (machine_of m) new s.task s.action → StepsOn (setting_of ctx image) t pick to_come to_come_then o v (machine_of m) new s
steps_on on ctx image u m exact t pick to_come to_come_then o v new s ready picked d g names eof ns x set type place h =
    let e : StepDone ctx image (machine_ids (machine_of m)) s.picked t to_come to_come_then o v (machine_of m) new s.task s.action = done_held u m exact ctx image s.picked t to_come to_come_then o v new s.task s.action d in
    leads_on on g names eof ns x (machine_of m) h to_come to_come_then o v new s (ready ∙ sym (ready_held u m exact (setting_of ctx image))) (picked ∙ ap (λ z. z % s.ready) place) e.0
    (subst (λ z. WholeStepped g.setting (machine_ids (machine_of m)) s.picked z to_come to_come_then o e.0 v (machine_of m) new s.task s.action) (sym type)
    (subst (λ z. WholeStepped z (machine_ids (machine_of m)) s.picked t to_come to_come_then o e.0 v (machine_of m) new s.task s.action) (sym set) e.1))

-- ---- the start

pub begins : (a : Allowed) (w : StrategyData) (t : Ty) (mark : Bool) (names : Names) (eof : Eof) (m : Machine) → IsAllowed a (form_at w t) mark → m ≡ machine_at names (form_at w t) mark eof → Begins a w t mark names eof m
begins a w t mark names eof m allowed is g careful set way type marked = record {
  come = record {
    careful = careful;
    starts = sym (start_faults_agree g.setting g.way g.type g.mark) ∙ subst (λ z. IsAllowed a (form_at z g.type) g.mark) (sym way) (subst (λ z. IsAllowed a (form_at w z) g.mark) (sym type) (subst (λ z. IsAllowed a (form_at w t) z) (sym marked) allowed)) g.setting set;
    picked = tt;
    comes = refl;
  };
  machine_is = is ∙ (λ j. machine_at names (form_at (sym way j) (sym type j)) (sym marked j) eof);
}

-- ---- the paths that are left

-- a pointer has one for each batch
pub can_onward : (e : Eof) (k n : ℕ) → CanName (names_after (onward e) k) n
can_onward e zero n = tt
can_onward e (suc k) n = can_onward (next e) k n

pub has_names : (ns : Names) (p : Phase) (n : ℕ) → NamesLeft ns p → CanName ns n → HasNames p n
has_names ns (reading left) n h c = subst (λ z. CanName z n) (sym h) c
has_names ns (giving left i) n h c = subst (λ z. CanName z n) (sym h) c
has_names ns closing n h c = tt
has_names ns finished n h c = tt

-- so has a machine that starts with one
pub begun_onward : (m : Machine) (stream : Eof) (f : Form) (mark : Bool) (eof : Eof) (n : ℕ) → m ≡ machine_at (onward stream) f mark eof → HasNames m.phase n
begun_onward m stream f mark eof n is = subst (λ (z : Machine). HasNames z.phase n) (sym is) tt
