-- Why a column's own write is refused.
use Rattle.std.proofs.Common.{◌≡◌, ◌+◌, ◌%◌, ◌^◌, ◌<◌, ◌≤◌, ◌⊎◌, ◌∷◌, ◌++◌, ◌∙◌, ℕ, Bool, true, false, List, length, append_assoc, append-nil, length-append, refl, sym, ap, subst, inl, inr, arith, Option, Some, None, option_map, []}
use Rattle.std.proofs.lemmas.Bool.{true≢false}
use Rattle.vx_model.specs.Ty.{Ty}
use Rattle.vx_model.specs.ChunkData.{ChunkData, piece_type}
use Rattle.vx_path.specs.Lists.{In}
use Rattle.vx_path.proofs.Sort.{length-sort_by}
use Rattle.vx_tasks.specs.Run.{Note, nth, first_pick}
use Rattle.vx_tasks.specs.Runs.{noted}
use Rattle.vx_order.specs.Answers.{IsPast, IsShared}
use Rattle.vx_plan.specs.PlanData.{Plan, What, not_struct, duplicate_field, forbidden_aggregate}
use Rattle.vx_plan.specs.Number.{path_of, sorted}
use Rattle.vx_plan.specs.Statements.{StartFaultStands}
use Rattle.vx_plan.specs.Valid.{OfSchema, Has}
use Rattle.vx_plan.specs.Valid as valid
use Rattle.vx_write_answer.specs.declared.error.WriteError.{WriteError}
use Rattle.vx_write_answer.specs.declared.error.WriteError.TheVariants.{SourceFault, SinkFault, CompressFault, BatchType, NotStruct, DuplicateField, ManyChunks, EmptyList, ZoneCut, ForbiddenAggregate, ForbiddenEncoding, TooLarge, OutOfMemory, Stopped}
use Rattle.vx_named_tasks.specs.Names.{Names}
use Rattle.vx_machine_turns.specs.Planned.{StartFaultsAgree}
use Rattle.vx_machine_turns.specs.Starts.{start_fault as form_fault}
use Rattle.vx_machine_turns.specs.Source.{named_items, stream_plan}
use Rattle.vx_machine_steps.specs.Runs.{picks_after}
use Rattle.vx_machine_steps.specs.StartPlanned.{started_at}
use Rattle.vx_machine_promises.specs.Write.{Future, Open, Answer, unasked, came, over, planned_at, begin_at, taken_by, heard_by}
use Rattle.vx_machine_state.specs.Reserved.{reserved_by}
use Rattle.vx_machine_view.specs.Machine.{Phase, reading, Machine, whole_steps, machine_ids}
use Rattle.vx_machine_view.specs.Places.{whole_ready}
use Rattle.vx_machine_view.proofs.Sounding.{sound_is_typed}
use Rattle.vx_machine_runs.specs.Runs.{Asking, TypedAnswer, BeforeEnd}
use Rattle.vx_machine_runs.specs.Ends.{Caused}
use Rattle.vx_machine_runs.specs.Tracked.{Comes}
use Rattle.vx_machine_runs.specs.Courses.{point_after, Goes, ChosenAt, CausedThere, CourseHasCause, CourseMisfitIsRead, CourseStartHasCause, CourseGoesOn, CourseIsFront}
use Rattle.vx_machine_runs.proofs.Coursing.{asked_before}
use Rattle.vx_machine_runs.proofs.Sounding.{past_is_caused}
use Rattle.vx_machine_node.specs.Outcome.{Past, Appending, Refused}
use Rattle.vx_machine_node.specs.View.{form_at}
use Rattle.vx_machine_node.specs.Context.{Allowed}
use Rattle.vx_machine.specs.TaskStarting.{FormRefused}
use Rattle.vx_machine.specs.Source.{ReadsNone, SourceMay, NoNumber}
use Rattle.vx_machine.specs.SourceActs.{AsksAt, TellsRefused}
use Rattle.vx_machine.specs.Steps.{StepRefused}
use Rattle.vx_machine.proofs.Fewness.{Few, whole_few}
use Rattle.vx_machine.proofs.Going.{asking}
use Rattle.vx_column_machine.specs.Course.{Course, write_of, outset_of, plan_of, StandsAt}
use Rattle.vx_column_machine.specs.Causes.{Passes, IsNumberPast, HasCause}
use Rattle.vx_column_machine.proofs.Begins.{can_all, can_taken}
use Rattle.vx_column_machine.proofs.Leading.{outlet, none_picked, cons_none, has_come}

-- ---- what the source told

refused_typed : (p : Phase) (k : ℕ) (t : Ty) (before now : Option (List ChunkData)) (e : WriteError) (a : Answer) → TellsRefused p k t before now e a → TypedAnswer t a
refused_typed p k t before now e unasked h = tt
refused_typed p k t before now e (came b) h = sound_is_typed b t h.2.whole.sound h.2.typed
refused_typed p k t before now e over h = tt

-- what is still to come behind its answer
rest_then : (p : Phase) (k : ℕ) (t : Ty) (chunks taken later : List ChunkData) (heard : Bool) (before now : Option (List ChunkData)) (e : WriteError) (a : Answer) → TellsRefused p k t before now e a → before ≡ Some later
    → chunks ≡ taken ++ later → (heard ≡ true → later ≡ []) → (rest : List ChunkData) × (chunks ≡ taken_by taken a ++ rest) × (heard_by heard a ≡ true → rest ≡ [])
rest_then p k t chunks taken later heard before now e unasked h told is end = (later, is, end)
rest_then p k t chunks taken later heard before now e over h told is end = absurd h
rest_then p k t chunks taken later heard before None e (came b) h told is end = absurd (let f : Some later ≡ None = sym told ∙ h.1 in cc)
rest_then p k t chunks taken later heard before (Some rest) e (came b) h told is end =
    let l : later ≡ b ∷ rest = same (sym told ∙ h.1) in
    (rest, is ∙ ap (λ z. taken ++ z) l ∙ sym (append_assoc taken (b ∷ []) rest), λ i. absurd (cons_none b rest (sym l ∙ end i)))
  where
    same : Some later ≡ Some (b ∷ rest) → later ≡ b ∷ rest
    same f = cc

typed_behind : (t : Ty) (xs ys : List ChunkData) → OfSchema t (xs ++ ys) → OfSchema t ys
typed_behind t [] ys h = h
typed_behind t (x ∷ xs) ys h = typed_behind t xs ys h.1

-- a batch of another type isn't among those that come
no_misfit : (t : Ty) (chunks taken later : List ChunkData) (before now : Option (List ChunkData)) (b : ChunkData) → OfSchema t chunks → chunks ≡ taken ++ later → before ≡ Some later → before ≡ option_map (λ cs. b ∷ cs) now
    → ¬ (piece_type b ≡ t) → ⊥
no_misfit t chunks taken later before None b typed is told gave other = let f : Some later ≡ None = sym told ∙ gave in cc
no_misfit t chunks taken later before (Some rest) b typed is told gave other =
    other (subst (OfSchema t) (same (sym told ∙ gave)) (typed_behind t taken later (subst (OfSchema t) is typed))).0
  where
    same : Some later ≡ Some (b ∷ rest) → later ≡ b ∷ rest
    same f = cc

-- ---- a step

module _ (x : Course) (m : Machine) (to_come : Option (List ChunkData)) (written : ℕ) (paths : List (List ℕ)) (h : StandsAt x m to_come written paths) (causes : CourseHasCause) (misfits : CourseMisfitIsRead)
    (on : CourseGoesOn) (front : CourseIsFront) (now : Option (List ChunkData)) (kept : List (List ℕ)) (k number counts : ℕ) (k_is : k ≡ 0 % whole_ready (machine_ids m) m) (counts_are : counts ≡ reserved_by m.root)
    (e : WriteError) (r : StepRefused x.setting (machine_ids m) k counts x.column.type to_come now (outlet written kept) number m e) (fed : e ≡ SourceFault → ⊥) (kept_whole : e ≡ SinkFault → ⊥) where
  place : nth (whole_steps x.setting (machine_ids h.point.machine) number r.told h.point.machine) k ≡ Some r.step
  place = subst (λ z. nth (whole_steps x.setting (machine_ids z) number r.told z) k ≡ Some r.step) h.machine_is r.place

  tells : TellsRefused h.point.machine.phase k x.column.type to_come now e r.told
  tells = subst (λ (z : Machine). TellsRefused z.phase k x.column.type to_come now e r.told) h.machine_is r.tells

  asks : Asking h.point.machine.phase k r.told
  asks = asking h.point.machine.phase k r.told (subst (λ (z : Machine). AsksAt z.phase k r.told) h.machine_is r.asks)

  once : BeforeEnd h.point.heard r.told
  once = asked_before (write_of x) (outset_of x).names (outset_of x).eof h.notes h.point r.told k (has_come x m to_come written paths h).come asks

  rest : (rest : List ChunkData) × (x.chunks ≡ taken_by h.point.taken r.told ++ rest) × (heard_by h.point.heard r.told ≡ true → rest ≡ [])
  rest = rest_then h.point.machine.phase k x.column.type x.chunks h.point.taken h.later h.point.heard to_come now e r.told tells h.told h.taken h.ended

  abbrev future : Future
  future = record { later = rest.0; fits = true }

  may_come : Open (heard_by h.point.heard r.told) future
  may_come = λ i. (rest.2 i, refl)

  abbrev taken : List ChunkData
  taken = taken_by h.point.taken r.told

  planned_is : planned_at (write_of x) (outset_of x) taken future ≡ plan_of x
  planned_is = ap (λ z. stream_plan x.setting x.column.way x.column.type x.column.mark (outset_of x) z true) (sym rest.1)

  -- ---- of batches of the type
  module _ (fits : r.step.misfit ≡ false) where
    chosen : ChosenAt (write_of x) h.point r.told number k r.step
    chosen = record { place = place; asks = asks; typed = refused_typed h.point.machine.phase k x.column.type to_come now e r.told tells; once = once; fits = fits }

    there : CausedThere (write_of x) (outset_of x) h.notes h.point taken future k r.step
    there = causes (write_of x) (outset_of x).names (outset_of x).eof h.notes h.point r.told number k r.step future (has_come x m to_come written paths h).come chosen may_come (can_all x (taken ++ rest.0) rest.1)

    caused : Caused (plan_of x) r.step
    caused = subst (λ z. Caused z r.step) planned_is there.caused

    counted : (0 + reserved_by h.point.machine.root) + r.step.raises ≡ counts + r.step.raises
    counted = let a : counts ≡ reserved_by h.point.machine.root = counts_are ∙ ap (λ (z : Machine). reserved_by z.root) h.machine_is in omega (arith, a)

    passes : 2 ^ 64 ≤ counts + r.step.raises → Passes x (counts + r.step.raises)
    passes past = record {
      notes = h.notes;
      place = k;
      comes = subst (λ z. Comes (write_of x) (begin_at (write_of x) (outset_of x) x.chunks (record { later = []; fits = true })) h.notes k z) counted
          (subst (λ z. Comes (write_of x) (started_at x.column.way x.column.type x.column.mark (outset_of x) z true) h.notes k ((0 + reserved_by h.point.machine.root) + r.step.raises))
          (sym rest.1 ∙ sym (append-nil x.chunks)) there.comes);
      past = past;
    }

    -- before an append fewer pairs were appended than the plan has
    one_more : Appending r.step.wrote → length h.point.history < length (plan_of x).pairs
    one_more (y, i) = by (whole_few x.setting (machine_ids h.point.machine) number r.told h.point.machine k r.step place)
      where
        by : Few r.step.wrote r.step.refusal → length h.point.history < length (plan_of x).pairs
        by (inl none) = absurd (subst (In y) none i)
        by (inr (p, one, calm)) =
            let n : Note = noted (whole_ready (machine_ids h.point.machine) h.point.machine) k r.step.name r.step.kind in
            let d : Goes (write_of x) h.point (point_after h.point r.told number r.step) n =
            record { told = r.told; number = number; step = r.step; place = place; asks = asks; typed = chosen.typed; once = once; fits = fits; unrefused = calm; note = refl; left = refl } in
            let pick : k ≡ first_pick (picks_after (length h.notes) []) % whole_ready (machine_ids h.point.machine) h.point.machine =
            k_is ∙ ap (λ z. 0 % whole_ready (machine_ids z) z) h.machine_is ∙ ap (λ z. z % whole_ready (machine_ids h.point.machine) h.point.machine) (sym (none_picked (length h.notes))) in
            let led = on (write_of x) (outset_of x).names (outset_of x).eof h.notes h.point (point_after h.point r.told number r.step) n (has_come x m to_come written paths h).come d pick in
            let f = front (write_of x) (outset_of x).names (outset_of x).eof (h.notes ++ (n ∷ [])) (point_after h.point r.told number r.step) led.0 future may_come (can_all x (taken ++ rest.0) rest.1) in
            let all : sorted (plan_of x).pairs ≡ (h.point.history ++ r.step.wrote) ++ f.0 = ap (λ (z : Plan). sorted z.pairs) (sym planned_is) ∙ f.1 in
            let a : length (sorted (plan_of x).pairs) ≡ length (plan_of x).pairs = length-sort_by path_of (plan_of x).pairs in
            let b : length ((h.point.history ++ r.step.wrote) ++ f.0) ≡ length (h.point.history ++ r.step.wrote) + length f.0 = length-append (h.point.history ++ r.step.wrote) f.0 in
            let c : length (h.point.history ++ r.step.wrote) ≡ length h.point.history + length r.step.wrote = length-append h.point.history r.step.wrote in
            let q : length r.step.wrote ≡ 1 = ap length one in
            let s : length (sorted (plan_of x).pairs) ≡ length ((h.point.history ++ r.step.wrote) ++ f.0) = ap length all in
            omega (arith, a, b, c, q, s)

    too_large : (n : ℕ) → Past ((counts + r.step.raises) ∷ r.step.numbers) r.step.indices n ⊎ (Appending r.step.wrote × IsPast (outlet written kept) n) ⊎ (In n r.step.joined × (2 ^ 64 ≤ n))
        → IsNumberPast (plan_of x) n ⊎ valid.IsPast n (plan_of x).numbers ⊎ Passes x n
    too_large n (inl (inl (inl is, big))) = inr (inr (subst (Passes x) (sym is) (passes (subst (λ z. 2 ^ 64 ≤ z) is big))))
    too_large n (inl (inl (inr i, big))) = inr (inl ((past_is_caused (plan_of x) r.step n caused big).numbers i))
    too_large n (inl (inr (j, i, big, is))) = inr (inl (subst (λ z. valid.IsPast z (plan_of x).numbers) (sym is) ((past_is_caused (plan_of x) r.step j caused big).indices i)))
    too_large n (inr (inl (a, q))) =
        let more = one_more a in
        let next : n ≡ written = q.0 in
        let big : 2 ^ 32 ≤ written = q.1 in
        let len : written ≡ 0 + length h.point.history = h.written_is in
        inl (omega (arith, next, big), omega (arith, next, len, more))
    too_large n (inr (inr (i, big))) = inr (inl ((past_is_caused (plan_of x) r.step n caused big).joined i))

    fit_cause : (d : WriteError) → d ≡ e → Refused r.step.refusal r.step.misfit ((counts + r.step.raises) ∷ r.step.numbers) r.step.indices r.step.wrote (IsPast (outlet written kept)) (IsShared (outlet written kept)) r.step.joined d
        → HasCause x d
    fit_cause SourceFault is c = fed (sym is)
    fit_cause SinkFault is c = kept_whole (sym is)
    fit_cause CompressFault is c = tt
    fit_cause (BatchType b) is c = absurd (true≢false (sym c ∙ fits))
    fit_cause NotStruct is c = caused.refusal _ c
    fit_cause (DuplicateField name) is c = caused.refusal _ c
    fit_cause ManyChunks is c = caused.refusal _ c
    fit_cause EmptyList is c = caused.refusal _ c
    fit_cause (ZoneCut n) is c = caused.refusal _ c
    fit_cause (ForbiddenAggregate id) is c = caused.refusal _ c
    fit_cause (ForbiddenEncoding id) is c = caused.refusal _ c
    fit_cause (TooLarge n) is c = too_large n c
    fit_cause OutOfMemory is c = tt
    fit_cause (Stopped by name) is c = absurd c.1

  -- ---- of another type
  read_cause : (d : WriteError) → d ≡ e → ReadsNone to_come now d × SourceMay x.column.type d × NoNumber d → HasCause x d
  read_cause SourceFault is c = fed (sym is)
  read_cause OutOfMemory is c = tt
  read_cause (BatchType b) is c = no_misfit x.column.type x.chunks h.point.taken h.later to_come now b h.typed h.taken h.told c.0 c.1
  read_cause (TooLarge n) is c = absurd c.2
  read_cause SinkFault is c = absurd c.1
  read_cause CompressFault is c = absurd c.1
  read_cause NotStruct is c = absurd c.1
  read_cause (DuplicateField name) is c = absurd c.1
  read_cause ManyChunks is c = absurd c.1
  read_cause EmptyList is c = absurd c.1
  read_cause (ZoneCut n) is c = absurd c.1
  read_cause (ForbiddenAggregate id) is c = absurd c.1
  read_cause (ForbiddenEncoding id) is c = absurd c.1
  read_cause (Stopped by name) is c = absurd c.1

  pub refused_cause : HasCause x e
  refused_cause = by r.step.misfit refl
    where
      by : (b : Bool) → r.step.misfit ≡ b → HasCause x e
      by false fits = fit_cause fits e refl r.cause
      by true is = at_source (misfits (write_of x) (outset_of x).names (outset_of x).eof h.notes h.point r.told number k r.step (has_come x m to_come written paths h).come (can_taken x h.point.taken h.later h.taken) place is)
        where
          at_source : (ns : Names) × (h.point.machine.phase ≡ reading ns) × (k ≡ 0) × (r.told ≡ unasked) → HasCause x e
          at_source (d, p, z, a) = read_cause e refl
              (subst (λ v. TellsRefused v 0 x.column.type to_come now e unasked) p (subst (λ v. TellsRefused h.point.machine.phase v x.column.type to_come now e unasked) z
              (subst (TellsRefused h.point.machine.phase k x.column.type to_come now e) a tells)))

-- ---- the start

module _ (faults : StartFaultStands) (agree : StartFaultsAgree) (counts : CourseStartHasCause) (x : Course) (allowed : Allowed) (allowed_is : x.setting.allowed ≡ allowed) where
  fault_stands : (v : What) → form_fault x.setting (form_at x.column.way x.column.type) x.column.mark ≡ Some v → Has v (plan_of x).faults
  fault_stands v is = faults x.setting x.column.way x.column.type x.column.mark v (sym (agree x.setting x.column.way x.column.type x.column.mark) ∙ is) (named_items (outset_of x).names x.chunks) true (outset_of x).eof

  pub start_cause : (e : WriteError) → FormRefused allowed (form_at x.column.way x.column.type) x.column.mark (outset_of x).eof e → HasCause x e
  start_cause NotStruct h = fault_stands not_struct (h x.setting allowed_is)
  start_cause (DuplicateField name) h = fault_stands (duplicate_field name) (h x.setting allowed_is)
  start_cause (ForbiddenAggregate id) h = fault_stands (forbidden_aggregate id) (h x.setting allowed_is)
  start_cause (TooLarge n) h = inr (inl (subst (λ z. valid.IsPast z (plan_of x).numbers) (sym h.0)
      (counts (write_of x) (outset_of x).names (outset_of x).eof (record { later = x.chunks; fits = true }) h.1.0 (can_all x x.chunks refl) h.1.1 h.1.2)))
  start_cause OutOfMemory h = tt
  start_cause SourceFault h = absurd h
  start_cause SinkFault h = absurd h
  start_cause CompressFault h = absurd h
  start_cause (BatchType b) h = absurd h
  start_cause ManyChunks h = absurd h
  start_cause EmptyList h = absurd h
  start_cause (ZoneCut n) h = absurd h
  start_cause (ForbiddenEncoding id) h = absurd h
  start_cause (Stopped by name) h = absurd h
