-- A write by tasks from before its start: what is started, and what its answer is then.
use Rattle.std.proofs.Common.{◌≡◌, ◌⊎◌, ◌∙◌, ◌+◌, ℕ, Bool, true, List, sym, ap, subst, inl, inr, arith, add-zero, Option, None, Result, Ok, Err}
use Rattle.std.specs.Prelude.{MatchResult}
use Rattle.vx_fault.specs.Counts.{Counts, IsCalm}
use Rattle.vx_model.specs.Ty.{Ty}
use Rattle.vx_model.specs.ChunkData.{ChunkData}
use Rattle.vx_model.specs.Distinct.{first_repeat}
use Rattle.vx_layout_spec.specs.Real.{Whole, SameRows}
use Rattle.vx_setting.specs.Setting.{RealKeeps}
use Rattle.vx_path.specs.Path.{Eof, inside, next, root_eof}
use Rattle.vx_named_tasks.specs.Names.{onward}
use Rattle.vx_sequence.specs.Universe.{Active, root, only}
use Rattle.vx_strategy_spec.specs.StrategyData.{StrategyData}
use Rattle.vx_tasks.specs.Runs.{first_batch}
use Rattle.vx_layout_tree.specs.declared.layout.Layout.{Layout}
use Rattle.vx_order.specs.Outlet.{Outlet}
use Rattle.vx_sink.specs.declared.context.LayoutWriterContext.{LayoutWriterContext}
use Rattle.vx_sink.specs.ContextView.{listed, allowed_in, is_marked}
use Rattle.vx_write_answer.specs.declared.step.Step.{Step}
use Rattle.vx_write_answer.specs.declared.error.WriteError.{WriteError}
use Rattle.vx_machine_ids.specs.Stock.{Stock, both, end_stock}
use Rattle.vx_machine_ids.specs.Balance.{Exact, Moved}
use Rattle.vx_machine_state.specs.Images.{images_of}
use Rattle.vx_machine_state.specs.Start.{first_indices}
use Rattle.vx_machine_view.specs.Machine.{Machine, start}
use Rattle.vx_machine.specs.Outcome.{AllFit}
use Rattle.vx_machine.specs.TaskStarting.{IsAllowed, Counted, FormRefused}
use Rattle.vx_machine.specs.Starting.{machine_at}
use Rattle.vx_plan.specs.Valid.{Keeps}
use Rattle.vx_fault.specs.Faults.{FaultsTold}
use Rattle.vx_machine.specs.Calls.{reads_in, misfits}
use Rattle.vx_machine.specs.Context.{Allowed, setting_of}
use Rattle.vx_machine.specs.Run.{at, RunDone, RunTold}
use Rattle.vx_fault.proofs.Answering.{answer_more}
use Rattle.vx_write.specs.Ran.{own_sink}
use Rattle.vx_write.proofs.Imaging.{images_keep}
use Rattle.vx_write_answer.specs.declared.error.WriteError.TheVariants as errors
use Rattle.vx_write_answer.specs.Causes.{is_source_fault, is_sink_fault, is_compress_fault}
use Rattle.vx_machine.specs.TaskView.{form_at}
use Rattle.vx_write.specs.Answered.{IsStarted, IsOutside, MisfitsAreRead}
use Rattle.vx_write.specs.Answer.{StoppedTold, AnsweredTold}
use Rattle.vx_machine_ids.proofs.Roots.{only_held}

-- all that is active is held by the machine
pub all_held : (u v z : Active) (e d stream : Eof) (s : Stock) → Exact u (end_stock e) → Moved u v (end_stock e) (both (end_stock d) (end_stock stream)) → Moved v z (both (end_stock stream) (end_stock d)) s → Exact z s
all_held u v z e d stream s h m n = λ p. omega (arith, h p, m.balance p, n.balance p)

module _ (ctx : LayoutWriterContext) (image : ℕ → ChunkData → ChunkData) (w : StrategyData) (t : Ty) (schedule : List ℕ) (to_come : Option (List ChunkData)) (x : Outlet) (trace : List Step) where
  module _ (e d stream : Eof) (u : Ty) (m : Machine) (is : e ≡ root) (goes : d ≡ next e) (below : stream ≡ inside e) (type : u ≡ t) where
    -- the machine begins there
    begins : m ≡ machine_at (onward stream) (form_at w u) (is_marked ctx) d → m ≡ start (form_at w t) (is_marked ctx)
    begins h = h ∙ ap (λ z. machine_at (onward z) (form_at w u) (is_marked ctx) d) (below ∙ ap inside is) ∙ ap (λ z. machine_at (onward first_batch) (form_at w u) (is_marked ctx) z) (goes ∙ ap next is)
        ∙ ap (λ z. machine_at (onward first_batch) (form_at w z) (is_marked ctx) root_eof) type

    starts : IsAllowed (allowed_in ctx) (form_at w u) (is_marked ctx) → Counted d (first_indices (form_at w u) (is_marked ctx) d) → IsStarted (allowed_in ctx) w t (is_marked ctx)
    starts a c = record {
      allowed = subst (λ z. IsAllowed (allowed_in ctx) (form_at w z) (is_marked ctx)) type a;
      counted = subst (λ z. AllFit (first_indices (form_at w z) (is_marked ctx) root_eof)) type (subst (λ z. Counted z (first_indices (form_at w u) (is_marked ctx) z)) (goes ∙ ap next is) c (omega arith));
    }

    -- it ran
    pub has_run : (y z v : Outlet) (to_come_now : Option (List ChunkData)) (must : ℕ → Type 0) (r : Result (Option Layout) WriteError) → y ≡ x → z ≡ y → IsAllowed (allowed_in ctx) (form_at w u) (is_marked ctx)
        → Counted d (first_indices (form_at w u) (is_marked ctx) d) → m ≡ machine_at (onward stream) (form_at w u) (is_marked ctx) d
        → MatchResult r (RunDone ctx image t schedule (at m to_come z) trace to_come_now v) (RunTold ctx image t schedule (at m to_come z) trace to_come_now v must)
        → AnsweredTold ctx image w t schedule to_come x trace to_come_now v must r
    has_run y z v to_come_now must (Ok l) same again a c h r = (
      starts a c,
      subst (λ k. RunDone ctx image t schedule (at k to_come x) trace to_come_now v l) (begins h)
          (subst (λ o. RunDone ctx image t schedule (at m to_come o) trace to_come_now v l) (again ∙ same) r),
    )
    has_run y z v to_come_now must (Err error) same again a c h r = inr (
      starts a c,
      subst (λ k. RunTold ctx image t schedule (at k to_come x) trace to_come_now v must error) (begins h)
          (subst (λ o. RunTold ctx image t schedule (at m to_come o) trace to_come_now v must error) (again ∙ same) r),
    )

-- ---- what it is given

-- what a context and a compressor tell keeps what plans' laws ask for
pub setting_keeps : RealKeeps → (ctx : LayoutWriterContext) (image : ℕ → ChunkData → ChunkData) → first_repeat (listed ctx) ≡ None → ((which : ℕ) (p : ChunkData) → Whole p → SameRows p (image which p)) → Keeps (setting_of ctx image)
setting_keeps law ctx image distinct keeps = law (listed ctx) (allowed_in ctx) (images_of image) distinct (images_keep image keeps)

-- ---- over a sink that nobody else uses

-- what an order of its own tells of a sink
abbrev pub outlet_of : {S : Type 0} → (S → ℕ) → (S → ℕ) → (S → Option (List (List ℕ))) → S → Outlet
outlet_of borrow next segments z = own_sink (borrow z) (next z) (segments z)

-- what is so of the sinks in an order is so of the one that was handed in, and of the one that is handed back
pub handed : {S : Type 0} (borrow next : S → ℕ) (segments : S → Option (List (List ℕ))) (P : Outlet → Outlet → Type 0) (given held left back : S) → held ≡ given → back ≡ left
    → P (outlet_of borrow next segments held) (outlet_of borrow next segments left) → P (outlet_of borrow next segments given) (outlet_of borrow next segments back)
handed borrow next segments P given held left back a b h =
    subst (λ z. P (outlet_of borrow next segments z) (outlet_of borrow next segments back)) a (subst (λ z. P (outlet_of borrow next segments held) (outlet_of borrow next segments z)) (sym b) h)

-- no start gives a batch of another type
none_starts : (a : Allowed) (w : StrategyData) (t : Ty) (m : Bool) (c : ChunkData) → (errors.BatchType c ≡ errors.OutOfMemory) ⊎ FormRefused a (form_at w t) m root_eof (errors.BatchType c) → ⊥
none_starts a w t m c (inl e) = let f : errors.BatchType c ≡ errors.OutOfMemory = e in cc
none_starts a w t m c (inr h) = h

-- the source's answers, with a batch of another type among them
pub answers_told : (law : MisfitsAreRead) (ctx : LayoutWriterContext) (image : ℕ → ChunkData → ChunkData) (w : StrategyData) (t : Ty) (schedule : List ℕ) (to_come to_come_now : Option (List ChunkData)) (borrow first : ℕ)
    (before : Option (List (List ℕ))) (steps : List Step) (after : Outlet) (e : WriteError) (b n : ℕ) (may must : ℕ → Type 0) → Keeps (setting_of ctx image)
    → StoppedTold ctx image w t schedule to_come (own_sink borrow first before) steps to_come_now after must e
    → FaultsTold b n may must (reads_in steps) (is_source_fault e) → FaultsTold b n may must (reads_in steps + misfits e) (is_source_fault e)
answers_told law ctx image w t schedule to_come to_come_now borrow first before steps after (errors.BatchType c) b n may must keeps (inl u) told = absurd (none_starts (allowed_in ctx) w t (is_marked ctx) c u.cause)
answers_told law ctx image w t schedule to_come to_come_now borrow first before steps after (errors.BatchType c) b n may must keeps (inr (started, r)) told =
    answer_more b n may must (reads_in steps) told (r.passed (law ctx image w t schedule to_come to_come_now borrow first before steps after c keeps started r.stop))
answers_told law ctx image w t schedule to_come to_come_now borrow first before steps after e b n may must keeps stops told =
    subst (λ k. FaultsTold b n may must k (is_source_fault e)) (sym (add-zero (reads_in steps))) told

-- where nothing fails, what comes from outside is want of memory
no_fault : (before now : ℕ) → Counts before now true → IsCalm before now → ⊥
no_fault before now rose calm = absurd (omega (arith, rose.0, rose.1, calm.0, calm.1))

module _ (e : WriteError) (before now before_sink now_sink before_image now_image : ℕ) where
  pub outside_memory : IsOutside e → Counts before now (is_source_fault e) → Counts before_sink now_sink (is_sink_fault e) → Counts before_image now_image (is_compress_fault e)
      → IsCalm before now → IsCalm before_sink now_sink → IsCalm before_image now_image → e ≡ errors.OutOfMemory
  outside_memory (inl is) source sink image calm still quiet = is
  outside_memory (inr (inl is)) source sink image calm still quiet = absurd (no_fault before now (subst (λ v. Counts before now v) (ap is_source_fault is) source) calm)
  outside_memory (inr (inr (inl is))) source sink image calm still quiet = absurd (no_fault before_sink now_sink (subst (λ v. Counts before_sink now_sink v) (ap is_sink_fault is) sink) still)
  outside_memory (inr (inr (inr is))) source sink image calm still quiet = absurd (no_fault before_image now_image (subst (λ v. Counts before_image now_image v) (ap is_compress_fault is) image) quiet)

-- at the start all that is active is held
pub first_held : (v u : Active) (e : Eof) → v ≡ u → u ≡ only root → e ≡ root → Exact v (end_stock e)
first_held v u e i j k = subst (λ (x : Eof). Exact v (end_stock x)) (sym k) (subst (λ (x : Active). Exact x (end_stock root)) (sym (i ∙ j)) (only_held root))
