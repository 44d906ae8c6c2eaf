-- A write that was answered has written the plan, or a front of it.
use Rattle.std.proofs.Common.{◌≡◌, ◌+◌, ◌^◌, ◌<◌, ◌≤◌, ◌⊎◌, ◌∷◌, ◌++◌, ◌∙◌, ℕ, max, Bool, true, false, List, length, refl, sym, ap, subst, inl, inr, arith, Option, Some, None, Ok, Err, if◌then◌else◌, append-nil, []}
use Rattle.std.proofs.lemmas.Bool.{true≢false}
use Rattle.vx_model.specs.Ty.{Ty, ty_eq}
use Rattle.vx_model.specs.ChunkData.{ChunkData, piece_type}
use Rattle.vx_fault.specs.Told.{before_told, NoneTold}
use Rattle.vx_path.specs.Path.{root_eof}
use Rattle.vx_tasks.specs.Run.{work}
use Rattle.vx_layout_tree.specs.declared.layout.Layout.{Layout}
use Rattle.vx_strategy_spec.specs.StrategyData.{StrategyData}
use Rattle.vx_plan.specs.PlanData.{Setting, Plan, What, not_struct, duplicate_field, forbidden_aggregate}
use Rattle.vx_plan.specs.Number.{segments}
use Rattle.vx_plan.specs.SourcePlan.{start_fault, batch_items, of_schema, source_plan, taken_plan}
use Rattle.vx_plan.specs.Statements.{StartFaultStands}
use Rattle.vx_plan.specs.Valid.{OfSchema, Valid, Fit, IsPast, Has, Keeps}
use Rattle.vx_machine_turns.specs.Starts.{start_fault as form_fault}
use Rattle.vx_machine_turns.specs.Planned.{StartFaultsAgree}
use Rattle.vx_order.specs.Outlet.{Outlet, own, shared, borrow_of}
use Rattle.vx_sink.specs.declared.context.LayoutWriterContext.{LayoutWriterContext}
use Rattle.vx_sink.specs.ContextView.{allowed_in, is_marked, counted}
use Rattle.vx_write_answer.specs.declared.step.Step.{Step}
use Rattle.vx_write_answer.specs.declared.error.WriteError.{WriteError}
use Rattle.vx_write_answer.specs.declared.error.WriteError.TheVariants.{SourceFault, SinkFault, CompressFault, BatchType, NotStruct, DuplicateField, ManyChunks, EmptyList, ZoneCut, ForbiddenAggregate, ForbiddenEncoding, TooLarge, OutOfMemory, Stopped}
use Rattle.vx_machine_promises.specs.Write.{Write, Future, Open, planned}
use Rattle.vx_machine_state.specs.Images.{Careful}
use Rattle.vx_machine_runs.specs.Runs.{scheduled}
use Rattle.vx_machine_runs.specs.Steps.{StartIsCaused}
use Rattle.vx_machine_runs.specs.Tracked.{TrackerComesWithin}
use Rattle.vx_machine_runs.proofs.Asking.{all_of_schema}
use Rattle.vx_machine_runs.proofs.Ending.{none_later, open_none, none_planned}
use Rattle.vx_machine_runs.proofs.Sounding.{fits, none_has}
use Rattle.vx_machine.specs.Calls.{appends_in, misfits}
use Rattle.vx_machine.specs.Context.{setting_of}
use Rattle.vx_machine.specs.Outcome.{Kept}
use Rattle.vx_machine.specs.TaskStarting.{FormRefused}
use Rattle.vx_machine.specs.TaskView.{form_at}
use Rattle.vx_write.specs.Ran.{write_by, OwnSink, own_sink}
use Rattle.vx_write.specs.RefusedAct.{StartRefuses}
use Rattle.vx_write.specs.Traced.{tasks_of, StepsBegin}
use Rattle.vx_write.specs.Runs.{AllDone, DoneIsWritten, Halts, StoppedHalts, IsLeft, RunsLeaveSinks}
use Rattle.vx_write.specs.Tracking.{Passes, PassesAt}
use Rattle.vx_write.specs.Written.{AreFirst, NeedsNumber, HasCause, write_of, Halted}
use Rattle.vx_write.specs.Answered.{IsStarted, HasRun, HasStopped, WroteAll, AnswersAreWritten, AnswersLeaveSinks, IsOutside, AnswersAreComplete}
use Rattle.vx_write.proofs.Imaging.{keeps_careful}
use Rattle.vx_write.proofs.Leading.{told_same, then_same}
use Rattle.vx_write.proofs.Writing.{own_more}
use Rattle.vx_write.proofs.Stopping.{kept_own}

-- ---- where nothing was started

-- the source has something to do
source_works : (s : Setting) (w : StrategyData) (t : Ty) (m : Bool) (bs : List ChunkData) (ended : Bool) → 0 < work (tasks_of s w t m bs ended)
source_works s w t m [] true = omega arith
source_works s w t m [] false = omega arith
source_works s w t m (b ∷ bs) ended = omega arith

module _ (faults : StartFaultStands) (agree : StartFaultsAgree) (counts : StartIsCaused) (ctx : LayoutWriterContext) (image : ℕ → ChunkData → ChunkData) (w : StrategyData) (t : Ty)
    (to_come : Option (List ChunkData)) (first : ℕ) (before : Option (List (List ℕ))) where
  abbrev s : Setting
  s = setting_of ctx image

  abbrev m : Bool
  m = is_marked ctx

  abbrev g : Write
  g = write_by ctx image w t

  -- no batch was read, whatever comes, this is the cause, and the start's own
  abbrev Cause : WriteError → Type 0
  Cause e = (misfits e ≡ 0) × ((f : Future) → HasCause t (Passes g [] f []) (planned g [] f) [] first 0 e) × StartRefuses s w t m e

  -- nothing stands
  none_stands : (schedule : List ℕ) (e : WriteError) → Cause e → Halts g first first to_come to_come before before schedule [] e
  none_stands schedule e c = record {
    heard = false;
    stand = record { taken = []; came = told_same to_come; appended = []; more = segments (taken_plan s w t m [] false); prefix = refl; stands = then_same before; numbers = omega arith };
    front = λ f still. (segments (planned g [] f), refl);
    typed = λ h. tt;
    ended = λ h. absurd (true≢false (sym h));
    cause = λ f still. c.1 f;
    begun = λ f still. record { fewer = source_works s w t m f.later f.fits; first = tt };
    traced = record { begin = record { fewer = source_works s w t m [] false; first = tt }; all = λ i. inl refl };
    asked = inl (let a = c.0 in omega (arith, a));
    refused = inl (c.2, refl, refl);
  }

  -- a form is refused so, where these may be recorded
  abbrev Faulty : What → Type 0
  Faulty x = (z : Setting) → z.allowed ≡ allowed_in ctx → form_fault z (form_at w t) m ≡ Some x

  starts_with : (x : What) → Faulty x → start_fault s w t m ≡ Some x
  starts_with x h = sym (agree s w t m) ∙ h s refl

  fault_stands : (x : What) (f : Future) → Faulty x → Has x (planned g [] f).faults
  fault_stands x f h = faults s w t m x (starts_with x h) (batch_items 0 f.later) f.fits root_eof

  form_cause : (e : WriteError) → FormRefused (allowed_in ctx) (form_at w t) m root_eof e → Cause e
  form_cause NotStruct h = (refl, λ f. fault_stands not_struct f h, starts_with not_struct h)
  form_cause (DuplicateField name) h = (refl, λ f. fault_stands (duplicate_field name) f h, starts_with (duplicate_field name) h)
  form_cause (TooLarge n) h = (refl, λ f. inr (inl (subst (λ z. IsPast z (planned g [] f).numbers) (sym h.0) (counts g f h.1.0 h.1.1 h.1.2))), h)
  form_cause OutOfMemory h = (refl, λ f. tt, tt)
  form_cause SourceFault h = absurd h
  form_cause SinkFault h = absurd h
  form_cause CompressFault h = absurd h
  form_cause (BatchType c) h = absurd h
  form_cause ManyChunks h = absurd h
  form_cause EmptyList h = absurd h
  form_cause (ZoneCut n) h = absurd h
  form_cause (ForbiddenAggregate id) h = (refl, λ f. fault_stands (forbidden_aggregate id) f h, starts_with (forbidden_aggregate id) h)
  form_cause (ForbiddenEncoding id) h = absurd h
  form_cause (Stopped by name) h = absurd h

  start_cause : (e : WriteError) → (e ≡ OutOfMemory) ⊎ FormRefused (allowed_in ctx) (form_at w t) m root_eof e → Cause e
  start_cause e (inl is) = subst Cause (sym is) (refl, λ f. tt, tt)
  start_cause e (inr h) = form_cause e h

-- ---- what the source told, and what it still tells

-- what is left of a list that was told
rest_told : (taken xs : List ChunkData) (now : Option (List ChunkData)) → Some xs ≡ before_told taken now → (rest : List ChunkData) × (now ≡ Some rest) × (xs ≡ taken ++ rest)
rest_told taken xs None e = absurd (let f : Some xs ≡ None = e in cc)
rest_told taken xs (Some ys) e = (ys, refl, same e)
  where
    same : Some xs ≡ Some (taken ++ ys) → xs ≡ taken ++ ys
    same f = cc

front_of_schema : (t : Ty) (xs ys : List ChunkData) → OfSchema t (xs ++ ys) → OfSchema t xs
front_of_schema t [] ys h = tt
front_of_schema t (x ∷ xs) ys h = (h.0, front_of_schema t xs ys h.1)

-- of all batches those of the schema in front are those of the first, and some more
schema_more : (t : Ty) (xs ys : List ChunkData) → (more : List ChunkData) × (of_schema t (xs ++ ys) ≡ of_schema t xs ++ more)
schema_more t [] ys = (of_schema t ys, refl)
schema_more t (x ∷ xs) ys = by (ty_eq (piece_type x) t) (schema_more t xs ys)
  where
    by : (b : Bool) → (more : List ChunkData) × (of_schema t (xs ++ ys) ≡ of_schema t xs ++ more)
        → (more : List ChunkData) × ((if b then x ∷ of_schema t (xs ++ ys) else []) ≡ (if b then x ∷ of_schema t xs else []) ++ more)
    by true m = (m.0, ap (λ z. x ∷ z) m.1)
    by false m = ([], refl)

-- the future in which these come, and no more
abbrev all_left : List ChunkData → Future
all_left rest = record { later = rest; fits = true }

module _ (g : Write) (first next : ℕ) (to_come to_come_now : Option (List ChunkData)) (before now : Option (List (List ℕ))) (schedule : List ℕ) (steps : List Step) (e : WriteError)
    (h : Halts g first next to_come to_come_now before now schedule steps e) (xs : List ChunkData) where
  -- where these are still to come
  module _ (rest : List ChunkData) (left : to_come_now ≡ Some rest) (is : xs ≡ h.stand.taken ++ rest) where
    still_open : Open h.heard (all_left rest)
    still_open = λ i. (subst (λ z. NoneTold z) left (h.ended i), refl)

    all_typed : OfSchema g.type xs → of_schema g.type h.stand.taken ++ rest ≡ xs
    all_typed typed =
        let k : of_schema g.type h.stand.taken ≡ h.stand.taken = all_of_schema g.type h.stand.taken (front_of_schema g.type h.stand.taken rest (subst (λ z. OfSchema g.type z) is typed)) in
        ap (λ z. z ++ rest) k ∙ sym is

    -- where the end was told, all were of the schema
    heard_typed : h.heard ≡ true → OfSchema g.type xs
    heard_typed i = subst (λ z. OfSchema g.type z) (sym (is ∙ ap (λ z. h.stand.taken ++ z) (still_open i).0 ∙ append-nil h.stand.taken)) (h.typed i)

    -- what holds whatever may still come holds of these
    module _ (P : List ChunkData → Bool → Type 0) (any : (f : Future) → Open h.heard f → P (of_schema g.type h.stand.taken ++ f.later) f.fits) where
      typed_all : OfSchema g.type xs → P xs true
      typed_all typed = subst (λ z. P z true) (all_typed typed) (any (all_left rest) still_open)

      other : (b : Bool) → h.heard ≡ b → ¬ OfSchema g.type xs → P (of_schema g.type xs) false
      other true i differs = absurd (differs (heard_typed i))
      other false i differs =
          let m : (more : List ChunkData) × (of_schema g.type (h.stand.taken ++ rest) ≡ of_schema g.type h.stand.taken ++ more) = schema_more g.type h.stand.taken rest in
          subst (λ z. P z false) (sym (ap (of_schema g.type) is ∙ m.1)) (any (record { later = m.0; fits = false }) (λ k. absurd (true≢false (sym k ∙ i))))

  -- of all that the source told, or where a batch is of another type, of those before the first such
  of_all : (P : List ChunkData → Bool → Type 0) → ((f : Future) → Open h.heard f → P (of_schema g.type h.stand.taken ++ f.later) f.fits) → to_come ≡ Some xs
      → (OfSchema g.type xs → P xs true) × (¬ OfSchema g.type xs → P (of_schema g.type xs) false)
  of_all P any told = by (rest_told h.stand.taken xs to_come_now (sym told ∙ h.stand.came))
    where
      by : (rest : List ChunkData) × (to_come_now ≡ Some rest) × (xs ≡ h.stand.taken ++ rest) → (OfSchema g.type xs → P xs true) × (¬ OfSchema g.type xs → P (of_schema g.type xs) false)
      by (rest, left, is) = (typed_all rest left is P any, other rest left is P any h.heard refl)

-- ---- what was answered

-- by the plan of the batches taken
module _ (s : Setting) (w : StrategyData) (t : Ty) (m : Bool) (tracker first next : ℕ) (to_come to_come_now : Option (List ChunkData)) (before now : Option (List (List ℕ))) (schedule : List ℕ) (steps : List Step) (e : WriteError) where
  abbrev by_itself : Write
  by_itself = write_of s w t m tracker

  halted : Halts by_itself first next to_come to_come_now before now schedule steps e → Halted s w t m tracker first next to_come to_come_now before now schedule steps e
  halted h = record {
    heard = h.heard;
    stand = h.stand;
    front = λ xs told. of_all by_itself first next to_come to_come_now before now schedule steps e h xs (λ bs ended. AreFirst h.stand.appended (source_plan s w t m bs ended)) h.front told;
    ended = h.ended;
    cause = subst (λ z. HasCause t (PassesAt by_itself (of_schema t h.stand.taken) h.heard steps) z h.stand.taken next (length h.stand.appended) e)
        (none_planned by_itself (of_schema t h.stand.taken) h.heard) (h.cause (none_later h.heard) (open_none h.heard));
    traced = h.traced;
    traced_all = λ xs told. of_all by_itself first next to_come to_come_now before now schedule steps e h xs (λ bs ended. StepsBegin (tasks_of s w t m bs ended) schedule steps) h.begun told;
    asked = h.asked;
    refused = h.refused;
  }

module _ (done : DoneIsWritten) (stopped : StoppedHalts) (left : RunsLeaveSinks) (faults : StartFaultStands) (agree : StartFaultsAgree) (counts : StartIsCaused) (ctx : LayoutWriterContext)
    (image : ℕ → ChunkData → ChunkData) (w : StrategyData) (t : Ty) (schedule : List ℕ) (to_come to_come_now : Option (List ChunkData)) (borrow first : ℕ) (before : Option (List (List ℕ)))
    (steps : List Step) (after : Outlet) (keeps : Keeps (setting_of ctx image)) where
  law : Careful (setting_of ctx image)
  law = keeps_careful ctx image keeps

  none_starts : IsStarted (allowed_in ctx) w t (is_marked ctx) → start_fault (setting_of ctx image) w t (is_marked ctx) ≡ None
  none_starts a = sym (agree (setting_of ctx image) w t (is_marked ctx)) ∙ a.allowed (setting_of ctx image) refl

  done_answer : (l : Option Layout) → HasRun ctx image w t schedule to_come (own_sink borrow first before) steps to_come_now after l
      → OwnSink after (λ next now. WroteAll (setting_of ctx image) w t (is_marked ctx) first next to_come to_come_now before now schedule steps l)
  done_answer l (a, r) = by (done ctx image w t schedule to_come to_come_now borrow first before steps after l keeps (none_starts a) a.counted r)
    where
      by : (layout : Layout) × (l ≡ Some layout) × NoneTold to_come_now × AllDone (write_by ctx image w t) to_come schedule first before steps after layout
          → OwnSink after (λ next now. WroteAll (setting_of ctx image) w t (is_marked ctx) first next to_come to_come_now before now schedule steps l)
      by (layout, is, ended, (h, traced)) =
          subst (λ z. OwnSink after (λ next now. WroteAll (setting_of ctx image) w t (is_marked ctx) first next to_come to_come_now before now schedule steps z)) (sym is)
          (own_more after _ (λ next now. WroteAll (setting_of ctx image) w t (is_marked ctx) first next to_come to_come_now before now schedule steps (Some layout)) h (λ next now p. (ended, p, traced)))

  stopped_answer : (e : WriteError) → HasStopped ctx image w t schedule to_come (own_sink borrow first before) steps to_come_now after e
      → OwnSink after (λ next now. Halts (write_by ctx image w t) first next to_come to_come_now before now schedule steps e)
  stopped_answer e (inl u) = kept_own (own_sink borrow first before) after (λ next now. Halts (write_by ctx image w t) first next to_come to_come_now before now schedule steps e) u.kept
      (subst (λ z. Halts (write_by ctx image w t) first first to_come z before before schedule steps e) (sym u.told)
      (subst (λ z. Halts (write_by ctx image w t) first first to_come to_come before before schedule z e) (sym u.none)
      (none_stands faults agree counts ctx image w t to_come first before schedule e (start_cause faults agree counts ctx image w t to_come first before e u.cause))))
  stopped_answer e (inr (a, r)) = stopped ctx image w t schedule to_come to_come_now borrow first before steps after e law (none_starts a) a.counted r

  -- ---- what is left of the sink

  same_borrow : (x y : Outlet) → Kept x y → (b : ℕ) → OwnSink x (λ next now. Unit {0}) → borrow_of x ≡ b → borrow_of y ≡ b
  same_borrow (own a) (own c) k b h e = k.2 ∙ e
  same_borrow (own a) (shared c) k b h e = absurd k
  same_borrow (shared a) y k b h e = absurd h

  kept_left : (x : Outlet) → Kept x after → IsLeft borrow first steps x → IsLeft borrow first steps after
  kept_left x k h = (
    kept_own x after (λ next now. (next ≤ max first (2 ^ 32)) × (next ≡ first + appends_in steps)) k h.0,
    same_borrow x after k borrow (own_more x (λ next now. (next ≤ max first (2 ^ 32)) × (next ≡ first + appends_in steps)) (λ next now. Unit {0}) h.0 (λ next now p. tt)) h.1,
  )

  none_left : steps ≡ [] → IsLeft borrow first steps (own_sink borrow first before)
  none_left e = subst (λ z. IsLeft borrow first z (own_sink borrow first before)) (sym e) ((omega arith, omega arith), refl)

  done_left : (l : Option Layout) → HasRun ctx image w t schedule to_come (own_sink borrow first before) steps to_come_now after l → IsLeft borrow first steps after
  done_left l (a, r) = subst (λ z. IsLeft borrow first steps z) (sym r.sink) (left ctx image w t schedule to_come borrow first before steps r.end law (none_starts a) r.ran)

  stopped_left : (e : WriteError) → HasStopped ctx image w t schedule to_come (own_sink borrow first before) steps to_come_now after e → IsLeft borrow first steps after
  stopped_left e (inl u) = kept_left (own_sink borrow first before) u.kept (none_left u.none)
  stopped_left e (inr (a, r)) = kept_left r.end.outlet r.kept (left ctx image w t schedule to_come borrow first before steps r.end law (none_starts a) r.ran)

-- ---- of valid input

own_any : (o : Outlet) (P : ℕ → Option (List (List ℕ)) → Type 0) (Q : Type 0) → OwnSink o P → ((n : ℕ) (told : Option (List (List ℕ))) → P n told → Q) → Q
own_any (own s) P Q h f = f s.next s.segments h
own_any (shared s) P Q h f = absurd h

last_of_schema : (t : Ty) (front : List ChunkData) (b : ChunkData) → OfSchema t (front ++ (b ∷ [])) → piece_type b ≡ t
last_of_schema t [] b h = h.0
last_of_schema t (x ∷ front) b h = last_of_schema t front b h.1

module _ (t : Ty) (passes : ℕ → Type 0) (below : (n : ℕ) → passes n → n < 2 ^ 64) (past : (n : ℕ) → passes n → 2 ^ 64 ≤ n) (p : Plan) (taken : List ChunkData) (first next stand : ℕ) (clean : p.faults ≡ []) (typed : OfSchema t taken)
    (numbered : first + length p.pairs ≤ 2 ^ 32) (fit : Fit p.numbers) (stands : next ≡ first + stand) where
  number_fits : (n : ℕ) → NeedsNumber p next stand n ⊎ IsPast n p.numbers ⊎ passes n → ⊥
  number_fits n (inl (is, big, more)) = omega (arith, is, big, more, stands, numbered)
  number_fits n (inr (inl (big, inl i))) = let l : n < 2 ^ 64 = fits n p.numbers fit i in omega (arith, l, big)
  number_fits n (inr (inl (big, inr (is, (k, i, far))))) = let l : k < 2 ^ 64 = fits k p.numbers fit i in omega (arith, l, far)
  number_fits n (inr (inr h)) = let l : n < 2 ^ 64 = below n h in let b : 2 ^ 64 ≤ n = past n h in omega (arith, l, b)

  only_outside : (e : WriteError) → HasCause t passes p taken next stand e → IsOutside e
  only_outside OutOfMemory h = inl refl
  only_outside SourceFault h = inr (inl refl)
  only_outside SinkFault h = inr (inr (inl refl))
  only_outside (BatchType c) h = absurd (h.0 (last_of_schema t h.1.0 c (subst (λ z. OfSchema t z) h.1.1 typed)))
  only_outside NotStruct h = absurd (none_has _ p.faults clean h)
  only_outside (DuplicateField name) h = absurd (none_has _ p.faults clean h)
  only_outside ManyChunks h = absurd (none_has _ p.faults clean h)
  only_outside (ForbiddenEncoding id) h = absurd (none_has _ p.faults clean h)
  only_outside (TooLarge n) h = absurd (number_fits n h)
  only_outside CompressFault h = inr (inr (inr refl))
  only_outside EmptyList h = absurd (none_has _ p.faults clean h)
  only_outside (ZoneCut n) h = absurd (none_has _ p.faults clean h)
  only_outside (ForbiddenAggregate id) h = absurd (none_has _ p.faults clean h)
  only_outside (Stopped by name) h = absurd h

module _ (g : Write) (first next : ℕ) (to_come to_come_now : Option (List ChunkData)) (before now : Option (List (List ℕ))) (schedule : List ℕ) (steps : List Step) (e : WriteError)
    (h : Halts g first next to_come to_come_now before now schedule steps e) (xs : List ChunkData) (told : to_come ≡ Some xs)
    (valid : Valid g.setting g.way g.type g.mark first g.tracker xs) (within : TrackerComesWithin) where
  abbrev p : Plan
  p = source_plan g.setting g.way g.type g.mark xs true

  -- where these are still to come
  module _ (rest : List ChunkData) (left : to_come_now ≡ Some rest) (is : xs ≡ h.stand.taken ++ rest) where
    abbrev Past : ℕ → Type 0
    Past n = Passes g (of_schema g.type h.stand.taken) (all_left rest) steps n

    plan_is : planned g (of_schema g.type h.stand.taken) (all_left rest) ≡ p
    plan_is = ap (λ z. source_plan g.setting g.way g.type g.mark z true) (all_typed g first next to_come to_come_now before now schedule steps e h xs rest left is valid.of_schema)

    below : (n : ℕ) → Past n → n < 2 ^ 64
    below n q =
        let l : n ≤ g.tracker + (planned g (of_schema g.type h.stand.taken) (all_left rest)).reserved = within (scheduled g q.picks) (of_schema g.type h.stand.taken) (all_left rest) q.notes q.place n q.comes in
        let k : n ≤ g.tracker + p.reserved = subst (λ (z : Plan). n ≤ g.tracker + z.reserved) plan_is l in
        let v : g.tracker + p.reserved < 2 ^ 64 = valid.tracked in
        omega (arith, k, v)

    past : (n : ℕ) → Past n → 2 ^ 64 ≤ n
    past n q = q.past

    by_rest : IsOutside e
    by_rest =
        only_outside g.type Past below past p h.stand.taken first next (length h.stand.appended) valid.faultless
        (front_of_schema g.type h.stand.taken rest (subst (λ z. OfSchema g.type z) is valid.of_schema)) valid.numbered valid.fit h.stand.numbers e
        (subst (λ z. HasCause g.type Past z h.stand.taken next (length h.stand.appended) e) plan_is
        (h.cause (all_left rest) (still_open g first next to_come to_come_now before now schedule steps e h xs rest left is)))

  pub valid_outside : IsOutside e
  valid_outside = by (rest_told h.stand.taken xs to_come_now (sym told ∙ h.stand.came))
    where
      by : (rest : List ChunkData) × (to_come_now ≡ Some rest) × (xs ≡ h.stand.taken ++ rest) → IsOutside e
      by (rest, left, is) = by_rest rest left is

-- ---- the laws

pub answers_are_written : DoneIsWritten → StoppedHalts → RunsLeaveSinks → StartFaultStands → StartFaultsAgree → StartIsCaused → AnswersAreWritten
answers_are_written done stopped left faults agree counts ctx image w t schedule to_come to_come_now borrow first before steps after (Ok l) keeps h =
    done_answer done stopped left faults agree counts ctx image w t schedule to_come to_come_now borrow first before steps after keeps l h
answers_are_written done stopped left faults agree counts ctx image w t schedule to_come to_come_now borrow first before steps after (Err e) keeps h =
    own_more after _ (λ next now. Halted (setting_of ctx image) w t (is_marked ctx) (counted ctx) first next to_come to_come_now before now schedule steps e)
    (stopped_answer done stopped left faults agree counts ctx image w t schedule to_come to_come_now borrow first before steps after keeps e h)
    (λ next now p. halted (setting_of ctx image) w t (is_marked ctx) (counted ctx) first next to_come to_come_now before now schedule steps e p)

pub answers_leave_sinks : DoneIsWritten → StoppedHalts → RunsLeaveSinks → StartFaultStands → StartFaultsAgree → StartIsCaused → AnswersLeaveSinks
answers_leave_sinks done stopped left faults agree counts ctx image w t schedule to_come to_come_now borrow first before steps after (Ok l) keeps h =
    done_left done stopped left faults agree counts ctx image w t schedule to_come to_come_now borrow first before steps after keeps l h
answers_leave_sinks done stopped left faults agree counts ctx image w t schedule to_come to_come_now borrow first before steps after (Err e) keeps h =
    stopped_left done stopped left faults agree counts ctx image w t schedule to_come to_come_now borrow first before steps after keeps e h

pub answers_are_complete : DoneIsWritten → StoppedHalts → RunsLeaveSinks → StartFaultStands → StartFaultsAgree → StartIsCaused → TrackerComesWithin → AnswersAreComplete
answers_are_complete done stopped left faults agree counts within ctx image w t schedule to_come to_come_now borrow first before steps after e keeps h xs told valid =
    own_any after _ (IsOutside e) (stopped_answer done stopped left faults agree counts ctx image w t schedule to_come to_come_now borrow first before steps after keeps e h)
    (λ next now p. valid_outside (write_by ctx image w t) first next to_come to_come_now before now schedule steps e p xs told valid within)
