-- A run that is done has written the plan of all batches.
use Rattle.std.proofs.Common.{◌≡◌, ◌+◌, ◌^◌, ◌≤◌, ◌⊎◌, ◌∷◌, ◌++◌, ◌∙◌, ℕ, suc, max, true, false, List, length, refl, sym, ap, subst, inl, inr, arith, Option, Some, None, append-nil, []}
use Rattle.std.proofs.lemmas.Bool.{true≢false}
use Rattle.vx_model.specs.Ty.{Ty}
use Rattle.vx_model.specs.ChunkData.{ChunkData}
use Rattle.vx_fault.specs.Told.{before_told, then_told, NoneTold}
use Rattle.vx_path.specs.Path.{root_eof}
use Rattle.vx_path.proofs.Sort.{length-sort_by}
use Rattle.vx_layout_spec.specs.LayoutTree.{LayoutData}
use Rattle.vx_layout_spec.specs.Rows.{rows}
use Rattle.vx_layout_tree.specs.declared.layout.Layout.{Layout}
use Rattle.vx_layout_tree.specs.LayoutView.{layout_data}
use Rattle.vx_strategy_spec.specs.StrategyData.{StrategyData}
use Rattle.vx_plan.specs.PlanData.{Pair, Plan, stored}
use Rattle.vx_plan.specs.Number.{path_of, segments, numbered, segment_at}
use Rattle.vx_plan.specs.SourcePlan.{start_fault, source_plan}
use Rattle.vx_plan.specs.Statements.{RowsComeBack}
use Rattle.vx_plan.specs.Valid.{Fit, AllOf, Keeps}
use Rattle.vx_order.specs.Outlet.{Outlet, own, shared}
use Rattle.vx_sink.specs.declared.context.LayoutWriterContext.{LayoutWriterContext}
use Rattle.vx_sink.specs.ContextView.{is_marked}
use Rattle.vx_write_answer.specs.declared.step.Step.{Step}
use Rattle.vx_machine_promises.specs.Write.{Write}
use Rattle.vx_machine_state.specs.Images.{Careful}
use Rattle.vx_machine_state.specs.Acts.{layouts_in}
use Rattle.vx_machine_state.specs.Start.{first_indices}
use Rattle.vx_machine_view.specs.Machine.{Machine, is_finished}
use Rattle.vx_machine_view.specs.Whole.{form_of}
use Rattle.vx_machine_runs.specs.Runs.{outset, scheduled, UnderwayAt, RunByIsUnderway, RunIsUnderway}
use Rattle.vx_machine_runs.specs.Ends.{plan_of, Whole, EndsWhole}
use Rattle.vx_machine_runs.specs.Numbers.{AllBelow, NumbersFit}
use Rattle.vx_machine_runs.specs.Traces.{NotesAreWhole}
use Rattle.vx_machine_runs.proofs.Asking.{taken_are_whole}
use Rattle.vx_machine_runs.proofs.Sounding.{idle_is_finished}
use Rattle.vx_machine_runs.proofs.Stepping.{places, schedule_is_free}
use Rattle.vx_machine.specs.Calls.{appends_in}
use Rattle.vx_machine.specs.Context.{setting_of}
use Rattle.vx_machine.specs.Run.{At, Ends, ready_at}
use Rattle.vx_write.specs.Ran.{write_by, OwnSink, Onward}
use Rattle.vx_write.specs.Runs.{AllDone, DoneIsWritten, RunsLeaveSinks}
use Rattle.vx_write.specs.Traced.{IsTraced, Traced}
use Rattle.vx_write.specs.Written.{Planned, Wrote}
use Rattle.vx_write.proofs.Imaging.{keeps_careful}
use Rattle.vx_write.proofs.Leading.{runs_are_led}
use Rattle.vx_write.proofs.Tracing.{appends_are, traced_whole}

-- ---- lists and sinks

pub stored_length : (ps : List Pair) → length (stored ps) ≡ length ps
stored_length [] = refl
stored_length (p ∷ ps) = ap suc (stored_length ps)

pub own_more : (o : Outlet) (P Q : ℕ → Option (List (List ℕ)) → Type 0) → OwnSink o P → ((n : ℕ) (told : Option (List (List ℕ))) → P n told → Q n told) → OwnSink o Q
own_more (own s) P Q h f = f s.next s.segments h
own_more (shared s) P Q h f = h

-- where nothing is left, all was taken
all_taken : (taken xs : List ChunkData) (now : Option (List ChunkData)) → Some xs ≡ before_told taken now → NoneTold now → taken ≡ xs
all_taken taken xs None e n = absurd (let f : Some xs ≡ None = e in cc)
all_taken taken xs (Some ys) e n = sym (append-nil taken) ∙ ap (λ z. taken ++ z) (sym n) ∙ sym (same e)
  where
    same : Some xs ≡ Some (taken ++ ys) → xs ≡ taken ++ ys
    same f = cc

at_most : (first n : ℕ) → (n ≡ 0) ⊎ (first + n ≤ 2 ^ 32) → first + n ≤ max first (2 ^ 32)
at_most first n (inl e) = omega (arith, e)
at_most first n (inr l) = omega (arith, l)

module _ (ctx : LayoutWriterContext) (image : ℕ → ChunkData → ChunkData) (w : StrategyData) (t : Ty) (to_come : Option (List ChunkData)) (borrow first : ℕ) (before : Option (List (List ℕ))) where
  abbrev g : Write
  g = write_by ctx image w t

  module _ (law : Careful (setting_of ctx image)) (clean : start_fault (setting_of ctx image) w t (is_marked ctx) ≡ None)
      (schedule : List ℕ) (steps : List Step) (y : At) (o : Onward g to_come borrow first before schedule 0 (outset g) steps y) where
    -- the write is under way there, by the places that were picked
    pub under : RunIsUnderway → UnderwayAt (scheduled g (places o.notes)) first o.notes o.stand
    under run = run (scheduled g (places o.notes)) first o.notes o.stand law clean refl (schedule_is_free g first (places o.notes) (outset g) o.stand o.notes o.led)

    abbrev End : Layout → Type 0
    End layout = Whole (scheduled g (places o.notes)) first o.stand × (is_finished o.stand.machine ≡ true) × (layout_data layout ≡ numbered (plan_of g o.stand.taken true) first)

    -- it ends with the layout of the plan
    end_is : RunIsUnderway → EndsWhole → (l : Option Layout) → Ends y.machine l → (layout : Layout) × (l ≡ Some layout) × End layout
    end_is run ends None e =
        let q : ready_at o.stand.machine ≡ 0 = subst (λ m. ready_at m ≡ 0) o.same.machine_is e.1 in
        let f : is_finished o.stand.machine ≡ true = idle_is_finished (scheduled g (places o.notes)) first o.notes o.stand law (under run) q in
        absurd (true≢false (sym f ∙ subst (λ m. is_finished m ≡ false) o.same.machine_is e.0))
    end_is run ends (Some layout) e =
        let f : is_finished o.stand.machine ≡ true = subst (λ m. is_finished m ≡ true) o.same.machine_is e.0 in
        let h : Whole (scheduled g (places o.notes)) first o.stand = ends (scheduled g (places o.notes)) first o.notes o.stand (under run) clean f in
        let l : layouts_in o.stand.machine.root ≡ layout_data layout ∷ [] = subst (λ (m : Machine). layouts_in m.root ≡ layout_data layout ∷ []) o.same.machine_is e.1 in
        (layout, refl, (h, f, one (layout_data layout) (numbered (plan_of g o.stand.taken true) first) (sym l ∙ h.layout)))
      where
        one : (a b : LayoutData ℕ) → a ∷ [] ≡ b ∷ [] → a ≡ b
        one a b e = cc

    -- by the plan of the batches that were taken
    wrote_taken : NumbersFit → RowsComeBack → Keeps (setting_of ctx image) → AllBelow (2 ^ 64) (first_indices (form_of g) (is_marked ctx) root_eof) → (layout : Layout) → End layout
        → (next : ℕ) (now : Option (List (List ℕ))) → (next ≡ first + length o.stand.history) × (now ≡ then_told before (stored o.stand.history))
        → Wrote t first next before now (layout_data layout) o.stand.taken (plan_of g o.stand.taken true)
    wrote_taken fit back keeps starts layout (h, fin, laid) next now s =
        let p : Plan = plan_of g o.stand.taken true in
        let all : AllOf t o.stand.taken = taken_are_whole g first o.notes o.stand o.led o.whole in
        let numbers : Fit p.numbers = fit g first o.notes o.stand law clean o.led fin starts o.counts in
        let some : length o.stand.history ≡ length p.pairs = ap length h.appended ∙ length-sort_by path_of p.pairs in
        record {
          laid = laid;
          appended = s.1 ∙ ap (λ z. then_told before (stored z)) h.appended;
          counted = s.0 ∙ ap (λ z. first + z) (sym (stored_length o.stand.history)) ∙ ap (λ z. first + length (stored z)) h.appended;
          read_back = ap (rows (setting_of ctx image).codec (segment_at first (segments p))) laid ∙ back (setting_of ctx image) w t (is_marked ctx) o.stand.taken first keeps all h.faultless numbers;
          valid = record {
            faultless = h.faultless;
            whole = all;
            numbered = subst (λ z. first + z ≤ max first (2 ^ 32)) some (at_most first (length o.stand.history) o.same.numbered);
            fit = numbers;
          };
        }

pub done_is_written : RunIsUnderway → RunByIsUnderway → EndsWhole → NotesAreWhole → NumbersFit → RowsComeBack → DoneIsWritten
done_is_written run by ends traces fit back ctx image w t schedule to_come to_come_now borrow first before steps outlet l keeps clean starts r =
    ended (end_is ctx image w t to_come borrow first before law clean schedule steps r.end o run ends l r.left)
  where
    g : Write
    g = write_by ctx image w t

    law : Careful (setting_of ctx image)
    law = keeps_careful ctx image keeps

    o : Onward g to_come borrow first before schedule 0 (outset g) steps r.end
    o = runs_are_led ctx image w t schedule to_come borrow first before steps r.end r.ran

    ended : (layout : Layout) × (l ≡ Some layout) × End ctx image w t to_come borrow first before law clean schedule steps r.end o layout
        → (layout : Layout) × (l ≡ Some layout) × NoneTold to_come_now × AllDone g to_come schedule first before steps outlet layout
    ended (layout, is, e) = (layout, is, none, (written, traced))
      where
        nothing : NoneTold r.end.to_come
        nothing = o.same.ended e.0.heard

        none : NoneTold to_come_now
        none = subst (λ z. NoneTold z) (sym r.told) nothing

        taken_is : (xs : List ChunkData) → to_come ≡ Some xs → o.stand.taken ≡ xs
        taken_is xs told = all_taken o.stand.taken xs r.end.to_come (sym told ∙ o.same.came) nothing

        all : (next : ℕ) (now : Option (List (List ℕ))) → (next ≡ first + length o.stand.history) × (now ≡ then_told before (stored o.stand.history))
            → Planned (setting_of ctx image) w t (is_marked ctx) to_come (Wrote t first next before now (layout_data layout))
        all next now s xs told =
            subst (λ z. Wrote t first next before now (layout_data layout) z (source_plan (setting_of ctx image) w t (is_marked ctx) z true)) (taken_is xs told)
            (wrote_taken ctx image w t to_come borrow first before law clean schedule steps r.end o fit back keeps starts layout e next now s)

        written : OwnSink outlet (λ next now. Planned (setting_of ctx image) w t (is_marked ctx) to_come (Wrote t first next before now (layout_data layout)))
        written =
            subst (λ z. OwnSink z (λ next now. Planned (setting_of ctx image) w t (is_marked ctx) to_come (Wrote t first next before now (layout_data layout)))) (sym r.sink)
            (own_more r.end.outlet (λ next now. (next ≡ first + length o.stand.history) × (now ≡ then_told before (stored o.stand.history)))
            (λ next now. Planned (setting_of ctx image) w t (is_marked ctx) to_come (Wrote t first next before now (layout_data layout))) o.same.sink all)

        traced : Traced (setting_of ctx image) w t (is_marked ctx) to_come schedule steps
        traced xs told = subst (λ z. IsTraced (setting_of ctx image) w t (is_marked ctx) schedule z steps) (taken_is xs told)
            (traced_whole ctx image w t to_come borrow first before law clean schedule steps r.end o by traces e.1 e.0.heard)

-- ---- what is left of the sink

pub runs_leave_sinks : RunIsUnderway → RunsLeaveSinks
runs_leave_sinks run ctx image w t schedule to_come borrow first before steps y law clean r = (
  own_more y.outlet (λ next now. (next ≡ first + length o.stand.history) × (now ≡ then_told before (stored o.stand.history))) (λ next now. (next ≤ max first (2 ^ 32)) × (next ≡ first + appends_in steps))
      o.same.sink (λ next now s. (
        subst (λ z. z ≤ max first (2 ^ 32)) (sym s.0) (at_most first (length o.stand.history) o.same.numbered),
        s.0 ∙ ap (λ z. first + z) (appends_are ctx image w t to_come borrow first before law clean schedule steps y o u),
      )),
  o.same.borrowed,
)
  where
    o : Onward (write_by ctx image w t) to_come borrow first before schedule 0 (outset (write_by ctx image w t)) steps y
    o = runs_are_led ctx image w t schedule to_come borrow first before steps y r

    u : UnderwayAt (scheduled (write_by ctx image w t) (places o.notes)) first o.notes o.stand
    u = under ctx image w t to_come borrow first before law clean schedule steps y o run
