-- The steps of a run lead on in plain data.
use Rattle.std.proofs.Common.{◌≡◌, ◌+◌, ◌%◌, ◌^◌, ◌<◌, ◌≤◌, ◌⊎◌, ◌∷◌, ◌++◌, ◌∙◌, ℕ, suc, Bool, true, List, length, refl, sym, ap, subst, inl, inr, arith, Option, Some, None, option_map, append_assoc, append-nil, length-append, slice_index, []}
use Rattle.std.proofs.lemmas.Bool.{true≢false}
use Rattle.vx_model.specs.Ty.{Ty}
use Rattle.vx_model.specs.ChunkData.{ChunkData}
use Rattle.vx_fault.specs.Told.{before_told, then_told, NoneTold}
use Rattle.vx_tasks.specs.Run.{Note, nth}
use Rattle.vx_strategy_spec.specs.StrategyData.{StrategyData}
use Rattle.vx_plan.specs.PlanData.{Pair, stored}
use Rattle.vx_order.specs.Outlet.{Outlet, own, shared, borrow_of}
use Rattle.vx_sink.specs.declared.context.LayoutWriterContext.{LayoutWriterContext}
use Rattle.vx_write_answer.specs.declared.step.Step.{Step}
use Rattle.vx_write_answer.specs.declared.step.ActionKind.{ActionKind}
use Rattle.vx_machine_promises.specs.Write.{Write, Answer, unasked, came, over, taken_by, heard_by}
use Rattle.vx_machine_view.specs.Machine.{whole_steps, machine_ids}
use Rattle.vx_machine_runs.specs.Runs.{Stand, outset, BeforeEnd, Done, Led, PickedBy}
use Rattle.vx_machine_runs.specs.Answers.{WholeAnswer}
use Rattle.vx_machine_runs.specs.Numbers.{AllBelow}
use Rattle.vx_machine.specs.Acting.{IsAppended, Behind}
use Rattle.vx_machine.specs.Outcome.{action_of}
use Rattle.vx_machine.specs.SourceActs.{Tells}
use Rattle.vx_machine.specs.Steps.{WholeStepped}
use Rattle.vx_machine.specs.Run.{At, ready_at, Ran}
use Rattle.vx_write.specs.Ran.{write_by, OwnSink, at_start, SameStand, Onward, RunsAreLed}
use Rattle.vx_machine.proofs.Fewness.{Few, whole_few}
use Rattle.vx_machine.proofs.Going.{pick_here, one_later, NextIs, led_more, once, to, note, done, as_many}

-- ---- what is told

pub told_same : (a : Option (List ChunkData)) → a ≡ before_told [] a
told_same None = refl
told_same (Some xs) = refl

pub told_one : (taken : List ChunkData) (b : ChunkData) (now : Option (List ChunkData)) → before_told taken (option_map (λ cs. b ∷ cs) now) ≡ before_told (taken ++ (b ∷ [])) now
told_one taken b None = refl
told_one taken b (Some xs) = ap (λ z. Some z) (sym (append_assoc taken (b ∷ []) xs))

pub then_same : (a : Option (List (List ℕ))) → a ≡ then_told a []
then_same None = refl
then_same (Some xs) = ap (λ z. Some z) (sym (append-nil xs))

then_one : (a : Option (List (List ℕ))) (xs : List (List ℕ)) (y : List ℕ) → then_told (then_told a xs) (y ∷ []) ≡ then_told a (xs ++ (y ∷ []))
then_one None xs y = refl
then_one (Some zs) xs y = ap (λ z. Some z) (append_assoc zs xs (y ∷ []))

stored_one : (ps : List Pair) (p : Pair) → stored (ps ++ (p ∷ [])) ≡ stored ps ++ (p.1 ∷ [])
stored_one [] p = refl
stored_one (q ∷ ps) p = ap (λ z. q.1 ∷ z) (stored_one ps p)

whole_so : (t : Ty) (before now : Option (List ChunkData)) (a : Answer) → Tells t before now a → WholeAnswer t a
whole_so t before now unasked h = tt
whole_so t before now (came b) h = h.1
whole_so t before now over h = tt

came_so : (t : Ty) (first before now : Option (List ChunkData)) (taken : List ChunkData) (a : Answer) → Tells t before now a → first ≡ before_told taken before → first ≡ before_told (taken_by taken a) now
came_so t first before now taken unasked h e = e ∙ ap (before_told taken) (sym h)
came_so t first before now taken (came b) h e = e ∙ ap (before_told taken) h.0 ∙ told_one taken b now
came_so t first before now taken over h e = e ∙ ap (before_told taken) (sym h.0)

ended_so : (t : Ty) (before now : Option (List ChunkData)) (heard : Bool) (a : Answer) → Tells t before now a → BeforeEnd heard a → (heard ≡ true → NoneTold before) → heard_by heard a ≡ true → NoneTold now
ended_so t before now heard unasked h o e k = subst (λ z. NoneTold z) (sym h) (e k)
ended_so t before now heard (came b) h o e k = absurd (true≢false (sym k ∙ o))
ended_so t before now heard over h o e k = h.1

-- ---- what is appended

module _ (first : ℕ) (told : Option (List (List ℕ))) where
  abbrev pub Has : List Pair → Outlet → Type 0
  Has history o = OwnSink o (λ next now. (next ≡ first + length history) × (now ≡ then_told told (stored history)))

  -- the next number
  next_is : (history : List Pair) (x : Outlet) → Has history x → NextIs x (first + length history)
  next_is history (own a) h = h.0
  next_is history (shared a) h = absurd h

  -- where a pair was appended, it fits 32 bits
  appended_fits : (history : List Pair) (x y : Outlet) (number : ℕ) (p : Pair) → Has history x → IsAppended x number p y → first + length history < 2 ^ 32
  appended_fits history (own a) y number p h w = let l = w.told.0 in let e = h.0 in omega (arith, l, e)
  appended_fits history (shared a) y number p h w = absurd h

  appended_has : (history : List Pair) (x y : Outlet) (number : ℕ) (p : Pair) → Has history x → IsAppended x number p y → Has (history ++ (p ∷ [])) y
  appended_has history (own a) (own b) number p h w = (
    (let n = w.written.0 in let e = h.0 in let l = length-append history (p ∷ []) in omega (arith, n, e, l)),
    w.written.1 ∙ ap (λ z. then_told z (p.1 ∷ [])) h.1 ∙ then_one told (stored history) p.1 ∙ ap (then_told told) (sym (stored_one history p)),
  )
  appended_has history (own a) (shared b) number p h w = absurd w.written
  appended_has history (shared a) y number p h w = absurd h

  -- in the same sink
  appended_in : (history : List Pair) (x y : Outlet) (number : ℕ) (p : Pair) → Has history x → IsAppended x number p y → borrow_of y ≡ borrow_of x
  appended_in history (own a) (own b) number p h w = w.written.2
  appended_in history (own a) (shared b) number p h w = absurd w.written
  appended_in history (shared a) y number p h w = absurd h

-- ---- a step

-- where a step led, of which this is told: how many were ready, its place, its task and its act
record OneOn (g : Write) (to_come : Option (List ChunkData)) (borrow first : ℕ) (before : Option (List (List ℕ))) (ready picked : ℕ) (name : List ℕ) (a : ActionKind) (s : Stand) (y : At) : Type 0 where
  to : Stand
  note : Note
  done : Done g first s to note
  ready_is : note.ready ≡ ready
  picked_is : picked ≡ note.picked
  name_is : name ≡ note.name
  kind_is : a ≡ action_of note.kind
  counts : AllBelow (2 ^ 64) (done.step.numbers ++ done.step.indices)
  whole : WholeAnswer g.type done.told
  same : SameStand to_come borrow first before y to

module _ (ctx : LayoutWriterContext) (image : ℕ → ChunkData → ChunkData) (way : StrategyData) (t : Ty) (to_come : Option (List ChunkData)) (borrow first : ℕ) (before : Option (List (List ℕ))) where
  abbrev g : Write
  g = write_by ctx image way t

  module _ (ns : List Note) (s : Stand) (led : Led g first (outset g) ns s) (x y : At) (same : SameStand to_come borrow first before x s) (picked : ℕ) (name : List ℕ) (a : ActionKind) (number : ℕ)
      (v : WholeStepped g.setting (machine_ids x.machine) picked t x.to_come y.to_come x.outlet number y.outlet x.machine y.machine name a) where
    next : NextIs x.outlet (first + length s.history)
    next = next_is first before s.history x.outlet same.sink

    place : nth (whole_steps g.setting (machine_ids s.machine) number v.told s.machine) picked ≡ Some v.step
    place = subst (λ m. nth (whole_steps g.setting (machine_ids m) number v.told m) picked ≡ Some v.step) same.machine_is v.place

    abbrev On : Type 0
    On = OneOn g to_come borrow first before (ready_at x.machine) picked name a s y

    stepped : Has first before (s.history ++ v.step.wrote) y.outlet → borrow_of y.outlet ≡ borrow_of x.outlet → (length (s.history ++ v.step.wrote) ≡ 0) ⊎ (first + length (s.history ++ v.step.wrote) ≤ 2 ^ 32) → On
    stepped has in_it fits = record {
      to = to g first ns s led x.machine same.machine_is picked x.to_come y.to_come x.outlet y.outlet next y.machine name a number v;
      note = note g first ns s led x.machine same.machine_is picked x.to_come y.to_come x.outlet y.outlet next y.machine name a number v;
      done = done g first ns s led x.machine same.machine_is picked x.to_come y.to_come x.outlet y.outlet next y.machine name a number v;
      ready_is = as_many g first ns s led x.machine same.machine_is picked x.to_come y.to_come x.outlet y.outlet next y.machine name a number v;
      picked_is = refl;
      name_is = v.name_is;
      kind_is = v.kind;
      counts = v.counted;
      whole = whole_so t x.to_come y.to_come v.told v.tells;
      same = record {
        machine_is = v.left;
        came = came_so t to_come x.to_come y.to_come s.taken v.told v.tells same.came;
        ended = ended_so t x.to_come y.to_come s.heard v.told v.tells (once g first ns s led x.machine same.machine_is picked x.to_come y.to_come x.outlet y.outlet next y.machine name a number v) same.ended;
        sink = has;
        numbered = fits;
        borrowed = in_it ∙ same.borrowed;
      };
    }

    one_on : On
    one_on = by (whole_few g.setting (machine_ids s.machine) number v.told s.machine picked v.step place)
      where
        silent : v.step.wrote ≡ [] → On
        silent e =
            let h : s.history ≡ s.history ++ v.step.wrote = sym (append-nil s.history) ∙ ap (λ z. s.history ++ z) (sym e) in
            let o : y.outlet ≡ x.outlet = subst (λ ps. Behind x.outlet number ps y.outlet) e v.outlet in
            stepped (subst (λ z. Has first before z y.outlet) h (subst (λ o. Has first before s.history o) (sym o) same.sink)) (ap borrow_of o)
            (subst (λ (z : List Pair). (length z ≡ 0) ⊎ (first + length z ≤ 2 ^ 32)) h same.numbered)

        loud : (p : Pair) → v.step.wrote ≡ p ∷ [] → On
        loud p e =
            let w : IsAppended x.outlet number p y.outlet = subst (λ ps. Behind x.outlet number ps y.outlet) e v.outlet in
            let l : first + length s.history < 2 ^ 32 = appended_fits first before s.history x.outlet y.outlet number p same.sink w in
            let h : s.history ++ (p ∷ []) ≡ s.history ++ v.step.wrote = ap (λ z. s.history ++ z) (sym e) in
            stepped (subst (λ z. Has first before z y.outlet) h (appended_has first before s.history x.outlet y.outlet number p same.sink w)) (appended_in first before s.history x.outlet y.outlet number p same.sink w)
            (subst (λ (z : List Pair). (length z ≡ 0) ⊎ (first + length z ≤ 2 ^ 32)) h (inr (let k = length-append s.history (p ∷ []) in omega (arith, l, k))))

        by : Few v.step.wrote v.step.refusal → On
        by (inl e) = silent e
        by (inr (p, e, u)) = loud p e

  -- ---- a run

  ran_on : (schedule : List ℕ) (from : ℕ) (steps : List Step) (ns : List Note) (s : Stand) (x y : At) → Led g first (outset g) ns s → SameStand to_come borrow first before x s
      → Ran ctx image t schedule from x steps y → Onward g to_come borrow first before schedule from s steps y
  ran_on schedule from [] ns s x y led same r =
      record { notes = []; stand = s; led = refl; shown = tt; picked = tt; counts = tt; whole = tt; same = subst (λ z. SameStand to_come borrow first before z s) r same }
  ran_on schedule from (b ∷ steps) ns s x y led same r =
      let h : (number : ℕ) × WholeStepped g.setting (machine_ids x.machine) b.picked t x.to_come r.0.to_come x.outlet number r.0.outlet x.machine r.0.machine b.task b.action = r.1.done in
      let o : OneOn g to_come borrow first before (ready_at x.machine) b.picked b.task b.action s r.0 = one_on ns s led x r.0 same b.picked b.task b.action h.0 h.1 in
      let q : Onward g to_come borrow first before schedule (suc from) o.to steps y =
      ran_on schedule (suc from) steps (ns ++ (o.note ∷ [])) o.to r.0 y (led_more g first (outset g) s o.to ns o.note led o.done) o.same r.2 in
      let n : b.ready ≡ o.note.ready = r.1.ready ∙ sym o.ready_is in
      record {
        notes = o.note ∷ q.notes;
        stand = q.stand;
        led = (o.to, o.done, q.led);
        shown = ((n, o.picked_is, o.name_is, o.kind_is), q.shown);
        picked = (
          sym o.picked_is ∙ r.1.picked ∙ ap (λ z. slice_index schedule from % z) n ∙ ap (λ z. z % o.note.ready) (sym (pick_here from schedule)),
          subst (λ z. PickedBy z q.notes) (one_later from schedule) q.picked,
        );
        counts = (o.counts, q.counts);
        whole = (o.whole, q.whole);
        same = q.same;
      }

  starts : SameStand to_come borrow first before (at_start g to_come borrow first before) (outset g)
  starts = record { machine_is = refl; came = told_same to_come; ended = λ h. absurd (true≢false (sym h)); sink = (omega arith, then_same before); numbered = inl refl; borrowed = refl }

pub runs_are_led : RunsAreLed
runs_are_led ctx image w t schedule to_come borrow first before steps y r =
    ran_on ctx image w t to_come borrow first before schedule 0 steps [] (outset (write_by ctx image w t)) (at_start (write_by ctx image w t) to_come borrow first before) y refl
    (starts ctx image w t to_come borrow first before) r
