-- A run that stopped has written a front of the plan of the batches taken, and has a cause there.
use Rattle.std.proofs.Common.{◌≡◌, ◌+◌, ◌%◌, ◌^◌, ◌<◌, ◌≤◌, ◌⊎◌, ◌∷◌, ◌++◌, ◌∙◌, ℕ, zero, suc, Bool, true, false, List, length, refl, sym, ap, subst, inl, inr, arith, Option, Some, None, if◌then◌else◌, append-nil, length-append, slice_index, []}
use Rattle.std.proofs.lemmas.Bool.{true≢false}
use Rattle.std.proofs.Math.Nat.{mod-lt}
use Rattle.vx_model.specs.Ty.{Ty}
use Rattle.vx_model.specs.ChunkData.{ChunkData}
use Rattle.vx_fault.specs.Told.{before_told, then_told, NoneTold, answers_in}
use Rattle.vx_path.specs.Lists.{In}
use Rattle.vx_path.specs.Path.{root_eof}
use Rattle.vx_named_tasks.specs.Names.{Names}
use Rattle.vx_tasks.specs.Task.{Forest}
use Rattle.vx_tasks.specs.Run.{nth, trace, work}
use Rattle.vx_tasks.proofs.Picks.{nth_there}
use Rattle.vx_cut_laws.specs.Cut.{cut}
use Rattle.vx_strategy_spec.specs.StrategyData.{StrategyData}
use Rattle.vx_plan.specs.PlanData.{Setting, Pair, Plan, What, stored}
use Rattle.vx_plan.specs.Number.{sorted, segments}
use Rattle.vx_plan.specs.SourcePlan.{start_fault, of_schema}
use Rattle.vx_plan.specs.Valid.{OfSchema, IsPast}
use Rattle.vx_order.specs.Outlet.{Outlet, own, shared}
use Rattle.vx_order.specs.Answers.{IsShared, IsPast as PastLast}
use Rattle.vx_sink.specs.declared.context.LayoutWriterContext.{LayoutWriterContext}
use Rattle.vx_sink.specs.ContextView.{is_marked, counted as counted_bytes}
use Rattle.vx_write_answer.specs.declared.step.Step.{Step}
use Rattle.vx_write_answer.specs.declared.error.WriteError.{WriteError}
use Rattle.vx_write_answer.specs.declared.error.WriteError.TheVariants.{SourceFault, SinkFault, CompressFault, BatchType, NotStruct, DuplicateField, ManyChunks, EmptyList, ZoneCut, ForbiddenAggregate, ForbiddenEncoding, TooLarge, OutOfMemory, Stopped}
use Rattle.vx_machine_promises.specs.Write.{Write, Future, Open, Answer, unasked, came, over, scripts, planned, taken_by, heard_by, before, begin}
use Rattle.vx_machine_state.specs.Images.{Careful}
use Rattle.vx_machine_view.specs.Machine.{Phase, reading, giving, closing, finished, Machine, may_source, WholeStep, source_step, whole_steps, is_finished, machine_ids}
use Rattle.vx_machine_steps.specs.Moves.{TreeMove}
use Rattle.vx_machine_view.specs.Steps.{AllPairs}
use Rattle.vx_machine_view.specs.Underway.{ready_steps}
use Rattle.vx_machine_view.proofs.Placing.{source_place, whole_is_ready}
use Rattle.vx_machine_view.proofs.Sounding.{sound_is_typed}
use Rattle.vx_machine_view.proofs.Words.{pairs_length}
use Rattle.vx_machine_runs.specs.Runs.{Stand, outset, tracked, Asking, TypedAnswer, BeforeEnd, Chosen, scheduled, UnderwayAt, RunByIsUnderway, RunIsUnderway}
use Rattle.vx_machine_runs.specs.Ends.{plan_of, StaysReady, Caused, StepsHaveCause}
use Rattle.vx_machine_runs.specs.Steps.{HistoryIsFront, AppendIsOneMore}
use Rattle.vx_machine_runs.specs.Answers.{TakenAlone}
use Rattle.vx_machine_runs.specs.Tracked.{Comes, TrackerComes}
use Rattle.vx_machine_runs.specs.Traces.{NotesAreFirst, ReadyIsMore, RefusalIsLast, MisfitIsLast}
use Rattle.vx_machine_promises.specs.Promises.{StartIsReached, StepIsReached}
use Rattle.vx_machine_state.specs.Start.{first_indices}
use Rattle.vx_machine_view.specs.Whole.{Asks, form_of}
use Rattle.vx_machine_runs.specs.Numbers.{AllBelow}
use Rattle.vx_machine_runs.proofs.Asking.{asked_before_end, taken_are_typed, answer_of_schema, all_of_schema}
use Rattle.vx_machine_runs.proofs.Ending.{none_later, open_none, none_planned}
use Rattle.vx_machine_runs.proofs.Misfits.{misfit_is_read}
use Rattle.vx_machine_runs.proofs.Sounding.{past_is_caused}
use Rattle.vx_machine_runs.proofs.Stepping.{open_before, asks_so, places, some_same, led_so}
use Rattle.vx_machine_runs.proofs.Tracing.{same_scripts}
use Rattle.vx_machine.specs.Calls.{reads_in, misfits}
use Rattle.vx_machine.specs.Context.{setting_of}
use Rattle.vx_machine.specs.Outcome.{Kept, Past, Appending}
use Rattle.vx_machine.specs.Source.{ReadsNone, SourceMay, NoNumber}
use Rattle.vx_machine.specs.SourceActs.{AsksAt, IsElsewhere, TellsNothing, TellsRefused}
use Rattle.vx_machine.specs.Steps.{StepRefused}
use Rattle.vx_machine.specs.TaskActing.{CallFails}
use Rattle.vx_machine.specs.Run.{At, ready_at, tracker_by, Stops}
use Rattle.vx_write.specs.Ran.{write_by, OwnSink, Onward}
use Rattle.vx_write.specs.Runs.{Halts, StoppedHalts}
use Rattle.vx_machine.proofs.StepShows.{asks_not, tells_memory}
use Rattle.vx_write.specs.RefusedAct.{NextAct, IsRead, IsOwn, RefusedThere}
use Rattle.vx_machine.specs.Progress.{ShowsNote}
use Rattle.vx_write.specs.Traced.{tasks_of, IsRefusal, StepsBegin, StepsAreFirst, IsLate}
use Rattle.vx_write.specs.Tracking.{Passes}
use Rattle.vx_write.specs.Written.{AreFirst, NeedsNumber, HasCause, AskedInSteps}
use Rattle.vx_machine.proofs.Fewness.{Few, whole_few}
use Rattle.vx_machine.proofs.Going.{asking}
use Rattle.vx_write.proofs.Leading.{told_one, runs_are_led}
use Rattle.vx_machine_runs.proofs.Bounding.{counts_so}
use Rattle.vx_write.proofs.Joined.{joins_fit}
use Rattle.vx_write.proofs.Refusing.{RefusedBy, SameAct, is_own, own_read, next_act}
use Rattle.vx_write.proofs.Tracing.{reads_are, traced_front, refused_last, misfit_last}
use Rattle.vx_write.proofs.Writing.{stored_length, own_more, under}

stored-append : (xs ys : List Pair) → stored (xs ++ ys) ≡ stored xs ++ stored ys
stored-append [] ys = refl
stored-append (x ∷ xs) ys = ap (λ z. x.1 ∷ z) (stored-append xs ys)

pub kept_own : (x y : Outlet) (P : ℕ → Option (List (List ℕ)) → Type 0) → Kept x y → OwnSink x P → OwnSink y P
kept_own (own a) (own b) P k h = subst (λ z. P z b.segments) (sym k.0) (subst (λ z. P a.next z) (sym k.1) h)
kept_own (own a) (shared b) P k h = absurd k
kept_own (shared a) y P k h = absurd h

past_own : (o : Outlet) (n next : ℕ) (told : Option (List (List ℕ))) → OwnSink o (λ m now. (m ≡ next) × (now ≡ told)) → PastLast o n → (n ≡ next) × (2 ^ 32 ≤ n)
past_own (own s) n next told h p = (p.0 ∙ h.0, (let a = p.0 in let b = p.1 in omega (arith, a, b)))
past_own (shared s) n next told h p = absurd h

unshared : (o : Outlet) (P : ℕ → Option (List (List ℕ)) → Type 0) → OwnSink o P → IsShared o → ⊥
unshared (own s) P h k = k
unshared (shared s) P h k = h

-- ---- what the source told

-- an error that isn't of a batch
abbrev NoBatch : WriteError → Type 0
NoBatch e = misfits e ≡ 0

one_none : ◌≡◌ {A = ℕ} 1 0 → ⊥
one_none h = omega (arith, h)

reads_same : (before now : Option (List ChunkData)) (e : WriteError) → NoBatch e → ReadsNone before now e → now ≡ before
reads_same before now SourceFault n h = h
reads_same before now SinkFault n h = h
reads_same before now CompressFault n h = h
reads_same before now (BatchType c) n h = absurd (one_none n)
reads_same before now NotStruct n h = h
reads_same before now (DuplicateField name) n h = h
reads_same before now ManyChunks n h = h
reads_same before now EmptyList n h = h
reads_same before now (ZoneCut k) n h = h
reads_same before now (ForbiddenAggregate id) n h = h
reads_same before now (ForbiddenEncoding id) n h = h
reads_same before now (TooLarge k) n h = h
reads_same before now OutOfMemory n h = h
reads_same before now (Stopped by name) n h = h

nothing_told : (p : Phase) (k : ℕ) (t : Ty) (before now : Option (List ChunkData)) (e : WriteError) → NoBatch e → TellsNothing p k t before now e → now ≡ before
nothing_told (reading d) zero t before now e n h = reads_same before now e n h.0
nothing_told (reading d) (suc k) t before now e n h = h.0
nothing_told (giving d i) k t before now e n h = h.0
nothing_told closing k t before now e n h = h.0
nothing_told finished k t before now e n h = h.0

-- where it failed, it read
fault_reads : (p : Phase) (k : ℕ) (t : Ty) (before now : Option (List ChunkData)) (a : Answer) → TellsRefused p k t before now SourceFault a → (d : Names) × (p ≡ reading d) × (k ≡ 0) × (a ≡ unasked)
fault_reads (reading d) zero t before now unasked h = (d, refl, refl, refl)
fault_reads (reading d) (suc k) t before now unasked h = absurd h.1
fault_reads (giving d i) k t before now unasked h = absurd h.1
fault_reads closing k t before now unasked h = absurd h.1
fault_reads finished k t before now unasked h = absurd h.1
fault_reads p k t before now (came b) h = absurd h.0
fault_reads p k t before now over h = absurd h

refused_typed : (p : Phase) (k : ℕ) (t : Ty) (before now : Option (List ChunkData)) (e : WriteError) (a : Answer) → TellsRefused p k t before now e a → TypedAnswer t a
refused_typed p k t before now e unasked h = tt
refused_typed p k t before now e (came b) h = sound_is_typed b t h.2.whole.sound h.2.typed
refused_typed p k t before now e over h = tt

refused_came : (p : Phase) (k : ℕ) (t : Ty) (first before now : Option (List ChunkData)) (taken : List ChunkData) (e : WriteError) (a : Answer) → NoBatch e → TellsRefused p k t before now e a
    → first ≡ before_told taken before → first ≡ before_told (taken_by taken a) now
refused_came p k t first before now taken e unasked n h i = i ∙ ap (before_told taken) (sym (nothing_told p k t before now e n h))
refused_came p k t first before now taken e (came b) n h i = i ∙ ap (before_told taken) h.1 ∙ told_one taken b now
refused_came p k t first before now taken e over n h i = absurd h

refused_ended : (p : Phase) (k : ℕ) (t : Ty) (before now : Option (List ChunkData)) (heard : Bool) (e : WriteError) (a : Answer) → NoBatch e → TellsRefused p k t before now e a → BeforeEnd heard a
    → (heard ≡ true → NoneTold before) → heard_by heard a ≡ true → NoneTold now
refused_ended p k t before now heard e unasked n h once end i = subst (λ z. NoneTold z) (sym (nothing_told p k t before now e n h)) (end i)
refused_ended p k t before now heard e (came b) n h once end i = absurd (true≢false (sym i ∙ once))
refused_ended p k t before now heard e over n h once end i = absurd h

-- how often it answered in an act
abbrev answers_of : Answer → ℕ
answers_of unasked = 0
answers_of (came b) = 1
answers_of over = 1

abbrev flag : Bool → ℕ
flag b = if b then 1 else 0

-- behind an answer an act is late
refused_late : (p : Phase) (k : ℕ) (t : Ty) (before now : Option (List ChunkData)) (e : WriteError) (a : Answer) → TellsRefused p k t before now e a → (a ≡ unasked) ⊎ (IsLate e × (answers_of a ≡ 1))
refused_late p k t before now e unasked h = inl refl
refused_late p k t before now e (came b) h = inr (h.0, refl)
refused_late p k t before now e over h = absurd h

more_answers : (taken : List ChunkData) (heard : Bool) (a : Answer) → BeforeEnd heard a → answers_in (taken_by taken a) (heard_by heard a) ≡ answers_in taken heard + answers_of a
more_answers taken heard unasked once = omega arith
more_answers taken heard (came b) once = let n : length (taken ++ (b ∷ [])) ≡ length taken + 1 = length-append taken (b ∷ []) in omega (arith, n)
more_answers taken heard over once = let n : flag heard ≡ 0 = ap flag once in omega (arith, n)

-- ---- causes

module _ (t : Ty) (passes : ℕ → Type 0) (p : Plan) (taken : List ChunkData) (next stand : ℕ) where
  abbrev Cause : WriteError → Type 0
  Cause e = HasCause t passes p taken next stand e

  -- of a step that is no batch of another type
  module _ (w : WholeStep) (c : Caused p w) (o : Outlet) (mine : IsShared o → ⊥) (fits : w.misfit ≡ false) (more : (x : Pair) → In x w.wrote → stand < length p.pairs)
      (last : (n : ℕ) → PastLast o n → (n ≡ next) × (2 ^ 32 ≤ n)) (counts : ℕ) (tracked_past : 2 ^ 64 ≤ counts + w.raises → passes (counts + w.raises)) where
    too_large : (n : ℕ) → Past ((counts + w.raises) ∷ w.numbers) w.indices n ⊎ (Appending w.wrote × PastLast o n) ⊎ (In n w.joined × (2 ^ 64 ≤ n)) → NeedsNumber p next stand n ⊎ IsPast n p.numbers ⊎ passes n
    too_large n (inl (inl (inl is, big))) = inr (inr (subst passes (sym is) (tracked_past (subst (λ z. 2 ^ 64 ≤ z) is big))))
    too_large n (inl (inl (inr i, big))) = inr (inl ((past_is_caused p w n c big).numbers i))
    too_large n (inl (inr (k, i, big, is))) = inr (inl (subst (λ z. IsPast z p.numbers) (sym is) ((past_is_caused p w k c big).indices i)))
    too_large n (inr (inl (x, q))) = inl ((last n q).0, (last n q).1, more x.0 x.1)
    too_large n (inr (inr (i, big))) = inr (inl ((past_is_caused p w n c big).joined i))

    step_cause : (e : WriteError) → RefusedBy counts w o e → Cause e
    step_cause SourceFault h = tt
    step_cause SinkFault h = tt
    step_cause CompressFault h = tt
    step_cause (BatchType b) h = absurd (true≢false (sym h ∙ fits))
    step_cause NotStruct h = c.refusal _ h
    step_cause (DuplicateField name) h = c.refusal _ h
    step_cause ManyChunks h = c.refusal _ h
    step_cause EmptyList h = c.refusal _ h
    step_cause (ZoneCut n) h = c.refusal _ h
    step_cause (ForbiddenAggregate id) h = c.refusal _ h
    step_cause (ForbiddenEncoding id) h = c.refusal _ h
    step_cause (TooLarge n) h = too_large n h
    step_cause OutOfMemory h = tt
    step_cause (Stopped by name) h = absurd (mine h.1)

module _ (counts : ℕ) (w : WholeStep) (o : Outlet) (fits : w.misfit ≡ false) where
  fits_no_batch : (e : WriteError) → RefusedBy counts w o e → NoBatch e
  fits_no_batch SourceFault h = refl
  fits_no_batch SinkFault h = refl
  fits_no_batch CompressFault h = refl
  fits_no_batch (BatchType b) h = absurd (true≢false (sym h ∙ fits))
  fits_no_batch NotStruct h = refl
  fits_no_batch (DuplicateField name) h = refl
  fits_no_batch ManyChunks h = refl
  fits_no_batch EmptyList h = refl
  fits_no_batch (ZoneCut n) h = refl
  fits_no_batch (ForbiddenAggregate id) h = refl
  fits_no_batch (ForbiddenEncoding id) h = refl
  fits_no_batch (TooLarge n) h = refl
  fits_no_batch OutOfMemory h = refl
  fits_no_batch (Stopped by name) h = refl

  -- the word of the plan by which it is refused
  word_of : (e : WriteError) → IsRefusal e → RefusedBy counts w o e → (v : What) × (w.refusal ≡ Some v)
  word_of SourceFault i h = absurd i
  word_of SinkFault i h = absurd i
  word_of CompressFault i h = absurd i
  word_of (BatchType b) i h = absurd (true≢false (sym h ∙ fits))
  word_of NotStruct i h = (_, h)
  word_of (DuplicateField name) i h = (_, h)
  word_of ManyChunks i h = (_, h)
  word_of EmptyList i h = (_, h)
  word_of (ZoneCut n) i h = (_, h)
  word_of (ForbiddenAggregate id) i h = (_, h)
  word_of (ForbiddenEncoding id) i h = (_, h)
  word_of (TooLarge n) i h = absurd i
  word_of OutOfMemory i h = absurd i
  word_of (Stopped by name) i h = absurd i

-- ---- the step in which the source reads

read_is : (s : Setting) (all : List (List ℕ)) (number : ℕ) (a : Answer) (m : Machine) (d : Names) (w : WholeStep) → m.phase ≡ reading d → nth (whole_steps s all number a m) 0 ≡ Some w
    → w ≡ source_step a (reading d) m.root
read_is s all number a m d w is at =
    some_same w (source_step a m.phase m.root) (sym at ∙ source_place s all number a m (ap (λ z. may_source z m.root) is)) ∙ ap (λ z. source_step a z m.root) is

-- ---- where a run stopped

module _ (ctx : LayoutWriterContext) (image : ℕ → ChunkData → ChunkData) (way : StrategyData) (t : Ty) (to_come : Option (List ChunkData)) (borrow first : ℕ) (before_it : Option (List (List ℕ)))
    (law : Careful (setting_of ctx image)) (clean : start_fault (setting_of ctx image) way t (is_marked ctx) ≡ None)
    (starts : AllBelow (2 ^ 64) (first_indices (form_of (write_by ctx image way t)) (is_marked ctx) root_eof))
    (schedule : List ℕ) (steps : List Step) (y : At) (o : Onward (write_by ctx image way t) to_come borrow first before_it schedule 0 (outset (write_by ctx image way t)) steps y)
    (began : StartIsReached) (reached : StepIsReached) (run : RunIsUnderway) (by : RunByIsUnderway) (front : HistoryIsFront) (causes : StepsHaveCause) (append : AppendIsOneMore) (firsts : NotesAreFirst) (refused_at : RefusalIsLast) (misfit_at : MisfitIsLast) (more_at : ReadyIsMore) (stays : StaysReady) (tracks : TrackerComes)
    (to_come_now : Option (List ChunkData)) (next : ℕ) (now : Option (List (List ℕ))) (sink : (next ≡ first + length o.stand.history) × (now ≡ then_told before_it (stored o.stand.history))) where
  abbrev g : Write
  g = write_by ctx image way t

  -- the same write by the places that were picked
  abbrev h : Write
  h = scheduled g (places o.notes)

  abbrev x : Stand
  x = o.stand

  u : UnderwayAt h first o.notes x
  u = under ctx image way t to_come borrow first before_it law clean schedule steps y o run

  -- the rows that are joined next fit 64 bits
  joined_fit : (told : Answer) (k : ℕ) (w : WholeStep) → nth (ready_steps h first x.history told x.machine) k ≡ Some w → (n : ℕ) → In n w.joined → n < 2 ^ 64
  joined_fit told k w at n i = joins_fit began reached (scheduled g schedule) first o.notes x law clean starts o.picked (led_so g first schedule (outset g) x o.notes o.led)
      (counts_so (2 ^ 64) g first schedule (outset g) x o.notes o.led o.counts) told k w at n i

  -- what the tracker counts there
  abbrev counts : ℕ
  counts = tracker_by ctx y.machine

  counts_are : tracked h x ≡ counts
  counts_are = ap (λ m. tracker_by ctx m) (sym o.same.machine_is)

  alone : TakenAlone t x.taken
  alone = taken_are_typed g first o.notes x o.led

  reads : answers_in x.taken x.heard ≡ reads_in steps
  reads = sym (reads_are ctx image way t to_come borrow first before_it law clean schedule steps y o)

  abbrev Halting : WriteError → Type 0
  Halting e = Halts g first next to_come to_come_now before_it now schedule steps e

  abbrev There : List ChunkData → Bool → WriteError → Type 0
  There bs heard e = RefusedThere (setting_of ctx image) way t (is_marked ctx) (counted_bytes ctx) bs heard next schedule steps e

  abbrev tasks : List ChunkData → Bool → Forest
  tasks bs heard = tasks_of (setting_of ctx image) way t (is_marked ctx) bs heard

  -- the tasks of the batches taken by then, where no more comes
  tasks_are : (told : Answer) → cut (scripts g (taken_by x.taken told) (none_later (heard_by x.heard told))) ≡ tasks (taken_by x.taken told) (heard_by x.heard told)
  tasks_are told = ap (λ z. tasks z (heard_by x.heard told)) (append-nil (taken_by x.taken told))

  -- where something is ready, the steps are fewer than the work of all that may come, and the first of its trace
  begins : (told : Answer) → BeforeEnd x.heard told → 0 < ready_at y.machine → (f : Future) → Open (heard_by x.heard told) f → StepsBegin (cut (scripts g (taken_by x.taken told) f)) schedule steps
  begins told once some f may =
      let size : length (ready_steps h first x.history told x.machine) ≡ ready_at x.machine = whole_is_ready (setting_of ctx image) (machine_ids x.machine) (first + length x.history) told x.machine in
      let ready : 0 < length (ready_steps h first x.history told x.machine) = subst (λ z. 0 < z) (sym size) (subst (λ (m : Machine). 0 < ready_at m) o.same.machine_is some) in
      let less : length o.notes < work (cut (scripts g x.taken (before told f))) = more_at h first o.notes x told (before told f) law u (open_before x.heard told f once may) ready in
      subst (λ z. StepsBegin (cut z) schedule steps) (same_scripts g x.taken told f) (record {
        fewer = subst (λ z. z < work (cut (scripts g x.taken (before told f)))) (sym (pairs_length ShowsNote steps o.notes o.shown)) less;
        first = traced_front ctx image way t to_come borrow first before_it law clean schedule steps y o by firsts (before told f) (open_before x.heard told f once may);
      })

  -- so where no more comes
  begun : (told : Answer) → BeforeEnd x.heard told → 0 < ready_at y.machine → StepsBegin (tasks (taken_by x.taken told) (heard_by x.heard told)) schedule steps
  begun told once some = subst (λ z. StepsBegin z schedule steps) (tasks_are told) (begins told once some (none_later (heard_by x.heard told)) (open_none (heard_by x.heard told)))

  -- and all of them, where the next one refuses
  ends : (told : Answer) → (k : ℕ) → k ≡ slice_index schedule (length steps) % ready_at y.machine → (w : WholeStep) (v : What) → Chosen (scheduled g schedule) first x told k w
      → w.refusal ≡ Some v → AllPairs ShowsNote steps (trace (tasks (taken_by x.taken told) (heard_by x.heard told)) schedule)
  ends told k pick w v c e =
      let f : Future = none_later (heard_by x.heard told) in
      subst (λ z. AllPairs ShowsNote steps (trace z schedule)) (tasks_are told)
      (refused_last ctx image way t to_come borrow first before_it law clean schedule steps y o by told k pick refused_at f (open_none (heard_by x.heard told)) w v c e)

  -- what stands, by the plan of these batches
  halts : (e : WriteError) (taken bs : List ChunkData) (heard : Bool) → of_schema t taken ≡ bs → to_come ≡ before_told taken to_come_now → (heard ≡ true → NoneTold to_come_now)
      → (heard ≡ true → OfSchema t taken) → ((f : Future) → Open heard f → (more : List Pair) × (sorted (planned g bs f).pairs ≡ x.history ++ more)) → ((f : Future) → Open heard f → StepsBegin (cut (scripts g bs f)) schedule steps) → StepsAreFirst (tasks bs heard) schedule steps e → AskedInSteps taken heard steps e
      → ((f : Future) → Open heard f → HasCause t (Passes g bs f steps) (planned g bs f) taken next (length x.history) e) → There bs heard e → Halting e
  halts e taken bs heard is told end typed stood begun traced asked c there = record {
    heard = heard;
    stand = record {
      taken = taken;
      came = told;
      appended = stored x.history;
      more = (now_first (none_later heard) (open_none heard)).0;
      prefix = ap (λ z. segments (plan_of g z heard)) is ∙ ap segments (sym (none_planned g bs heard)) ∙ (now_first (none_later heard) (open_none heard)).1;
      stands = sink.1;
      numbers = sink.0 ∙ ap (λ z. first + z) (sym (stored_length x.history));
    };
    front = λ f may. subst (λ z. AreFirst (stored x.history) (planned g z f)) (sym is) (now_first f may);
    typed = typed;
    ended = end;
    cause = λ f may. subst (λ z. HasCause t (Passes g z f steps) (planned g z f) taken next (length (stored x.history)) e) (sym is)
        (subst (λ z. HasCause t (Passes g bs f steps) (planned g bs f) taken next z e) (sym (stored_length x.history)) (c f may));
    begun = λ f may. subst (λ z. StepsBegin (cut (scripts g z f)) schedule steps) (sym is) (begun f may);
    traced = subst (λ z. StepsAreFirst (tasks z heard) schedule steps e) (sym is) traced;
    asked = asked;
    refused = subst (λ z. There z heard e) (sym is) there;
  }
    where
      now_first : (f : Future) → Open heard f → AreFirst (stored x.history) (planned g bs f)
      now_first f may = let m : (more : List Pair) × (sorted (planned g bs f).pairs ≡ x.history ++ more) = stood f may in (stored m.0, ap stored m.1 ∙ stored-append x.history m.0)

  -- each answer was asked in a step
  all_asked : (e : WriteError) → NoBatch e → AskedInSteps x.taken x.heard steps e
  all_asked e n = inl (let a = reads in omega (arith, a, n))

  -- by the batches taken so far
  so_far : (e : WriteError) → NoBatch e → (IsRefusal e → ⊥) → 0 < ready_at y.machine → to_come_now ≡ y.to_come → ((passes : ℕ → Type 0) (p : Plan) → HasCause t passes p x.taken next (length x.history) e)
      → There x.taken x.heard e → Halting e
  so_far e n plain some same c there = halts e x.taken x.taken x.heard alone.all (o.same.came ∙ ap (before_told x.taken) (sym same)) (λ k. subst (λ z. NoneTold z) (sym same) (o.same.ended k))
      (λ k. alone.typed) (λ f may. front h first o.notes x unasked f tt may u) (begins unasked tt some) (record { begin = begun unasked tt some; all = λ i. absurd (plain i) }) (all_asked e n) (λ f may. c (Passes g x.taken f steps) (planned g x.taken f)) there

  -- where it reads, the end isn't told
  unheard : (d : Names) → x.machine.phase ≡ reading d → x.heard ≡ false
  unheard d is = asked_before_end g first o.notes x over 0 o.led (subst (λ z. Asking z 0 over) (sym is) tt)

  -- nobody else uses the sink
  mine : IsShared y.outlet → ⊥
  mine = unshared y.outlet _ o.same.sink

  module _ (some : 0 < ready_at y.machine) (k : ℕ) (pick : k ≡ slice_index schedule (length steps) % ready_at y.machine) where
    pick_at : k ≡ slice_index schedule (length steps) % ready_at x.machine
    pick_at = pick ∙ ap (λ m. slice_index schedule (length steps) % ready_at m) o.same.machine_is

    -- where it reads and nothing more of the type comes, that is the act
    read_there : (w : WholeStep) (d : Names) → k ≡ 0 → nth (ready_steps h first x.history unasked x.machine) 0 ≡ Some w → x.machine.phase ≡ reading d → w ≡ source_step unasked (reading d) x.machine.root → (e : WriteError)
        → ((m : TreeMove) (n : ℕ) → IsRead m.act x.heard → IsOwn m n x.heard next e) → There x.taken x.heard e
    read_there w d z at p is e whose = inr (n.0, whose n.0.move n.0.counts (own_read w n.0.move n.2 y.outlet mine x.heard next d x.machine.root is (unheard d p)))
      where
        asks : Asks t (none_later x.heard) x.machine.phase k unasked
        asks = subst (λ v. Asks t (none_later x.heard) v k unasked) (sym p) (subst (λ v. Asks t (none_later x.heard) (reading d) v unasked) (sym z) (refl, unheard d p))

        n : (a : NextAct (setting_of ctx image) way t (is_marked ctx) (counted_bytes ctx) x.taken x.heard schedule steps) × (a.counts ≡ tracked h x) × SameAct w a.move
        n = next_act h first o.notes x law u schedule steps o.shown unasked tt k w (subst (λ v. nth (ready_steps h first x.history unasked x.machine) v ≡ Some w) (sym z) at) asks pick_at

    -- the source told nothing where it read
    read_halts : (w : WholeStep) (d : Names) → k ≡ 0 → nth (ready_steps h first x.history unasked x.machine) 0 ≡ Some w → x.machine.phase ≡ reading d → w ≡ source_step unasked (reading d) x.machine.root → (e : WriteError) → ReadsNone y.to_come to_come_now e → SourceMay t e
        → NoNumber e → Halting e
    read_halts w d z at p is SourceFault r m c = so_far SourceFault refl (λ i. i) some r (λ q p. tt) (read_there w d z at p is SourceFault (λ v q i. i))
    read_halts w d z at p is OutOfMemory r m c = so_far OutOfMemory refl (λ i. i) some r (λ q p. tt) (read_there w d z at p is OutOfMemory (λ v q i. tt))
    read_halts w d z at p is (BatchType b) r m c =
        halts (BatchType b) (x.taken ++ (b ∷ [])) x.taken x.heard (alone.without b m) (o.same.came ∙ ap (before_told x.taken) r ∙ told_one x.taken b to_come_now)
        (λ i. absurd (true≢false (sym i ∙ unheard d p))) (λ i. absurd (true≢false (sym i ∙ unheard d p))) (λ f may. front h first o.notes x unasked f tt may u) (begins unasked tt some) (record { begin = begun unasked tt some; all = λ i. inr all }) (inl one) (λ f may. (m, (x.taken, refl)))
        (read_there w d z at p is (BatchType b) (λ v q i. i))
      where
        one : answers_in (x.taken ++ (b ∷ [])) x.heard ≡ reads_in steps + 1
        one = let a = reads in let n : length (x.taken ++ (b ∷ [])) ≡ length x.taken + 1 = length-append x.taken (b ∷ []) in omega (arith, a, n)

        all : AllPairs ShowsNote steps (trace (tasks x.taken x.heard) schedule)
        all = subst (λ (v : Bool). AllPairs ShowsNote steps (trace (tasks x.taken v) schedule)) (sym (unheard d p))
            (misfit_last ctx image way t to_come borrow first before_it law clean schedule steps y o by misfit_at k pick (unheard d p) w
            (subst (λ v. nth (ready_steps h first x.history unasked x.machine) v ≡ Some w) (sym z) at) (ap (λ (v : WholeStep). v.misfit) is))
    read_halts w d z at p is (TooLarge n) r m c = absurd c
    read_halts w d z at p is SinkFault r m c = absurd m
    read_halts w d z at p is CompressFault r m c = absurd m
    read_halts w d z at p is NotStruct r m c = absurd m
    read_halts w d z at p is (DuplicateField name) r m c = absurd m
    read_halts w d z at p is ManyChunks r m c = absurd m
    read_halts w d z at p is EmptyList r m c = absurd m
    read_halts w d z at p is (ZoneCut n) r m c = absurd m
    read_halts w d z at p is (ForbiddenAggregate id) r m c = absurd m
    read_halts w d z at p is (ForbiddenEncoding id) r m c = absurd m
    read_halts w d z at p is (Stopped by_it name) r m c = absurd m

    module _ (told : Answer) (w : WholeStep) (at : nth (ready_steps h first x.history told x.machine) k ≡ Some w) (asks : Asking x.machine.phase k told) (e : WriteError)
        (tells : TellsRefused x.machine.phase k t y.to_come to_come_now e told) (cause : RefusedBy counts w y.outlet e) (called : CallFails w.kind e) where
      abbrev taken : List ChunkData
      taken = taken_by x.taken told

      abbrev heard : Bool
      heard = heard_by x.heard told

      typed : TypedAnswer t told
      typed = refused_typed x.machine.phase k t y.to_come to_come_now e told tells

      once : BeforeEnd x.heard told
      once = asked_before_end g first o.notes x told k o.led asks

      last : (n : ℕ) → PastLast y.outlet n → (n ≡ next) × (2 ^ 32 ≤ n)
      last n q =
          let r : (n ≡ first + length x.history) × (2 ^ 32 ≤ n) = past_own y.outlet n (first + length x.history) (then_told before_it (stored x.history)) o.same.sink q in
          (r.0 ∙ sym sink.0, r.1)

      -- a step of batches of the type
      module _ (fits : w.misfit ≡ false) where
        n : NoBatch e
        n = fits_no_batch counts w y.outlet fits e cause

        chosen : Chosen h first x told k w
        chosen = record { place = at; asks = asks; typed = typed; once = once; fits = fits }

        more : (f : Future) → Open heard f → (z : Pair) → In z w.wrote → length x.history < length (planned g taken f).pairs
        more f may z i = by_few (whole_few (setting_of ctx image) (machine_ids x.machine) (first + length x.history) told x.machine k w at)
          where
            by_few : Few w.wrote w.refusal → length x.history < length (planned g taken f).pairs
            by_few (inl none) = absurd (subst (In z) none i)
            by_few (inr (v, one, calm)) = append h first o.notes x told f k w v law u may chosen calm one

        passes : (f : Future) → Open heard f → 2 ^ 64 ≤ counts + w.raises → Passes g taken f steps (counts + w.raises)
        passes f may past = record {
          picks = places o.notes;
          notes = o.notes;
          shown = o.shown;
          place = k;
          comes = subst (λ z. Comes h (begin g taken f) o.notes k (z + w.raises)) counts_are (tracks h first o.notes x told f k w law u may chosen);
          past = past;
        }

        fit_asked : AskedInSteps taken heard steps e
        fit_asked = by_answer (refused_late x.machine.phase k t y.to_come to_come_now e told tells)
          where
            answers : answers_in taken heard ≡ answers_in x.taken x.heard + answers_of told
            answers = more_answers x.taken x.heard told once

            by_answer : (told ≡ unasked) ⊎ (IsLate e × (answers_of told ≡ 1)) → AskedInSteps taken heard steps e
            by_answer (inl i) = inl (let a = reads in let b = answers in let c : answers_of told ≡ 0 = ap answers_of i in let m = n in omega (arith, a, b, c, m))
            by_answer (inr (late, one)) = inr (late, (let a = reads in let b = answers in omega (arith, a, b, one)))

        there : IsElsewhere e → There taken heard e
        there far = inr (
          found.0,
          subst (λ z. IsOwn found.0.move z heard next e) (sym (found.1 ∙ counts_are)) (is_own w found.0.move found.2 y.outlet mine heard next fits (joined_fit told k w at) last counts e far called cause),
        )
          where
            found : (a : NextAct (setting_of ctx image) way t (is_marked ctx) (counted_bytes ctx) taken heard schedule steps) × (a.counts ≡ tracked h x) × SameAct w a.move
            found = next_act h first o.notes x law u schedule steps o.shown told once k w at (asks_so h first x told k w (none_later heard) chosen) pick_at

        refused : (v : What) × (w.refusal ≡ Some v) → AllPairs ShowsNote steps (trace (tasks taken heard) schedule)
        refused (v, i) = ends told k pick w v (record { place = at; asks = asks; typed = typed; once = once; fits = fits }) i

        fit_halts : IsElsewhere e → Halting e
        fit_halts far = halts e taken taken heard (all_of_schema t taken (answer_of_schema t x.taken told alone.typed typed)) (refused_came x.machine.phase k t to_come y.to_come to_come_now x.taken e told n tells o.same.came)
            (refused_ended x.machine.phase k t y.to_come to_come_now x.heard e told n tells once o.same.ended) (λ k. answer_of_schema t x.taken told alone.typed typed) (λ f may. front h first o.notes x told f once may u) (begins told once some) (record { begin = begun told once some; all = λ i. inr (refused (word_of counts w y.outlet fits e i cause)) }) fit_asked
            (λ f may. step_cause t (Passes g taken f steps) (planned g taken f) taken next (length x.history) w (causes h first o.notes x told f k w law u may chosen) y.outlet
            mine fits (more f may) last counts (passes f may) e cause)
            (there far)

      -- where the source reads and is told nothing
      read_place : k ≡ 0 → told ≡ unasked → nth (ready_steps h first x.history unasked x.machine) 0 ≡ Some w
      read_place z a = subst (λ v. nth (ready_steps h first x.history v x.machine) 0 ≡ Some w) a (subst (λ v. nth (ready_steps h first x.history told x.machine) v ≡ Some w) z at)

      -- another error than the source's, or no batch of the type comes
      elsewhere : w.misfit ≡ false → IsElsewhere e
      elsewhere fits = by_error e tells
        where
          read_none : (d : Names) × (x.machine.phase ≡ reading d) × (k ≡ 0) × (told ≡ unasked) → w.misfit ≡ true
          read_none (d, p, z, a) = ap (λ (v : WholeStep). v.misfit) (read_is (setting_of ctx image) (machine_ids x.machine) (first + length x.history) unasked x.machine d w p (read_place z a))

          by_error : (e : WriteError) → TellsRefused x.machine.phase k t y.to_come to_come_now e told → IsElsewhere e
          by_error SourceFault r = absurd (true≢false (sym (read_none (fault_reads x.machine.phase k t y.to_come to_come_now told r)) ∙ fits))
          by_error e r = tt

      -- a batch of another type
      misfit_halts : (d : Names) × (x.machine.phase ≡ reading d) × (k ≡ 0) × (told ≡ unasked) → Halting e
      misfit_halts (d, p, z, a) =
          let r : ReadsNone y.to_come to_come_now e × SourceMay t e × NoNumber e
          = subst (λ v. TellsRefused v 0 t y.to_come to_come_now e unasked) p (subst (λ v. TellsRefused x.machine.phase v t y.to_come to_come_now e unasked) z (subst (TellsRefused x.machine.phase k t y.to_come to_come_now e) a tells)) in
          let q : nth (ready_steps h first x.history unasked x.machine) 0 ≡ Some w = read_place z a in
          read_halts w d z q p (read_is (setting_of ctx image) (machine_ids x.machine) (first + length x.history) unasked x.machine d w p q) e r.0 r.1 r.2

      step_halts : Halting e
      step_halts = by_misfit w.misfit refl
        where
          by_misfit : (b : Bool) → w.misfit ≡ b → Halting e
          by_misfit false is = fit_halts is (elsewhere is)
          by_misfit true is = misfit_halts (misfit_is_read h first o.notes x told k w u at is)

    refused_halts : (e : WriteError) → StepRefused (setting_of ctx image) (machine_ids y.machine) k counts t y.to_come to_come_now y.outlet (first + length x.history) y.machine e → Halting e
    refused_halts e r = step_halts r.told r.step
        (subst (λ m. nth (whole_steps (setting_of ctx image) (machine_ids m) (first + length x.history) r.told m) k ≡ Some r.step) o.same.machine_is r.place)
        (asking x.machine.phase k r.told (subst (λ (m : Machine). AsksAt m.phase k r.told) o.same.machine_is r.asks)) e
        (subst (λ (m : Machine). TellsRefused m.phase k t y.to_come to_come_now e r.told) o.same.machine_is r.tells) r.cause r.called

  -- memory ran out before a step: whatever step it would have been
  memory_halts : to_come_now ≡ y.to_come → is_finished y.machine ≡ false → Halting OutOfMemory
  memory_halts same going = refused_halts some k refl OutOfMemory (record {
    told = unasked;
    step = there.0;
    place = there.1;
    asks = asks_not y.machine.phase k;
    tells = tells_memory y.machine.phase k t y.to_come to_come_now same;
    cause = tt;
    called = tt;
  })
    where
      some : 0 < ready_at y.machine
      some =
          let ready : 0 < length (ready_steps h first x.history unasked x.machine) = stays h first o.notes x unasked law u (subst (λ m. is_finished m ≡ false) o.same.machine_is going) in
          let size : length (ready_steps h first x.history unasked x.machine) ≡ ready_at x.machine = whole_is_ready (setting_of ctx image) (machine_ids x.machine) (first + length x.history) unasked x.machine in
          subst (λ m. 0 < ready_at m) (sym o.same.machine_is) (subst (λ z. 0 < z) size ready)

      k : ℕ
      k = slice_index schedule (length steps) % ready_at y.machine

      all : List WholeStep
      all = whole_steps (setting_of ctx image) (machine_ids y.machine) (first + length x.history) unasked y.machine

      there : (w : WholeStep) × (nth all k ≡ Some w)
      there =
          let less : k < ready_at y.machine = mod-lt (slice_index schedule (length steps)) (omega (arith, some)) in
          let are : length all ≡ ready_at y.machine = whole_is_ready (setting_of ctx image) (machine_ids y.machine) (first + length x.history) unasked y.machine in
          nth_there all k (omega (arith, less, are))

  stops_halt : (e : WriteError) → Stops ctx image t schedule (length steps) y to_come_now e → Halting e
  stops_halt e (inl (is, same, going)) = subst Halting (sym is) (memory_halts same going)
  stops_halt e (inr (some, fails)) = refused_halts some _ refl e (fails (first + length x.history))

pub stopped_halts : StartIsReached → StepIsReached → RunIsUnderway → RunByIsUnderway → HistoryIsFront → StepsHaveCause → AppendIsOneMore → NotesAreFirst → RefusalIsLast → MisfitIsLast → ReadyIsMore → StaysReady → TrackerComes → StoppedHalts
stopped_halts began reached run by front causes append firsts refused misfit more stays tracks ctx image w t schedule to_come to_come_now borrow first before steps outlet e law clean starts r =
    own_more outlet (λ next now. (next ≡ first + length o.stand.history) × (now ≡ then_told before (stored o.stand.history)))
    (λ next now. Halts (write_by ctx image w t) first next to_come to_come_now before now schedule steps e)
    (kept_own r.end.outlet outlet (λ next now. (next ≡ first + length o.stand.history) × (now ≡ then_told before (stored o.stand.history))) r.kept o.same.sink)
    (λ next now s. stops_halt ctx image w t to_come borrow first before law clean starts schedule steps r.end o began reached run by front causes append firsts refused misfit more stays tracks to_come_now next now s e r.stops)
  where
    o : Onward (write_by ctx image w t) to_come borrow first before schedule 0 (outset (write_by ctx image w t)) steps r.end
    o = runs_are_led ctx image w t schedule to_come borrow first before steps r.end r.ran
