-- Calls of a run, one after the other.
use Rattle.std.proofs.Common.{◌≡◌, ◌⊎◌, ℕ, ◌+◌, ◌<◌, Bool, true, false, List, [], ◌∷◌, ◌++◌, IsTrue, inl, inr, refl, sym, subst, ◌∙◌, arith}
use Rattle.std.proofs.lemmas.Bool.{true≢false}
use Rattle.vx_fault.specs.Faults.{Called, FaultsTold}
use Rattle.vx_fault.proofs.Answering.{Answered, unforced, then_called, then_left, then_failed}
use Rattle.vx_order.specs.Answers.{Unasked}
use Rattle.vx_write_answer.specs.Causes.{is_source_fault, is_sink_fault, is_compress_fault}
use Rattle.vx_write_answer.specs.declared.step.Step.{Step}
use Rattle.vx_write_answer.specs.declared.step.ActionKind.{ActionKind}
use Rattle.vx_write_answer.specs.declared.step.ActionKind.TheVariants as actions
use Rattle.vx_write_answer.specs.declared.error.WriteError.{WriteError}
use Rattle.vx_write_answer.specs.declared.error.WriteError.TheVariants.{SourceFault, SinkFault, CompressFault, BatchType, NotStruct, DuplicateField, ManyChunks, EmptyList, ZoneCut, ForbiddenAggregate, ForbiddenEncoding, TooLarge, OutOfMemory, Stopped}
use Rattle.vx_machine_nodes.specs.Calls.{reads_action, append_action, call_action, CalledTimes, MaybeCalled, SinkStops, PressStops}
use Rattle.vx_machine.specs.Calls.{reads_in, appends_in, calls_in, MisfitTold, SourceStops}
use Rattle.vx_machine.specs.Run.{OfMisfit}

-- ---- how often

pub reads_once : (x : ActionKind) → (reads_action x ≡ 0) ⊎ (reads_action x ≡ 1)
reads_once actions.Batch = inr refl
reads_once actions.End = inr refl
reads_once actions.Take = inl refl
reads_once actions.Put = inl refl
reads_once actions.Close = inl refl
reads_once actions.Call = inl refl
reads_once actions.Append = inl refl
reads_once actions.Join = inl refl

pub appends_once : (x : ActionKind) → (append_action x ≡ 0) ⊎ (append_action x ≡ 1)
appends_once actions.Append = inr refl
appends_once actions.Batch = inl refl
appends_once actions.End = inl refl
appends_once actions.Take = inl refl
appends_once actions.Put = inl refl
appends_once actions.Close = inl refl
appends_once actions.Call = inl refl
appends_once actions.Join = inl refl

pub calls_once : (x : ActionKind) → (call_action x ≡ 0) ⊎ (call_action x ≡ 1)
calls_once actions.Call = inr refl
calls_once actions.Batch = inl refl
calls_once actions.End = inl refl
calls_once actions.Take = inl refl
calls_once actions.Put = inl refl
calls_once actions.Close = inl refl
calls_once actions.Append = inl refl
calls_once actions.Join = inl refl

pub reads_more : (ss : List Step) (s : Step) → reads_in (ss ++ (s ∷ [])) ≡ reads_in ss + reads_action s.action
reads_more [] s = omega arith
reads_more (q ∷ qs) s = let h = reads_more qs s in omega (arith, h)

pub appends_more : (ss : List Step) (s : Step) → appends_in (ss ++ (s ∷ [])) ≡ appends_in ss + append_action s.action
appends_more [] s = omega arith
appends_more (q ∷ qs) s = let h = appends_more qs s in omega (arith, h)

pub calls_more : (ss : List Step) (s : Step) → calls_in (ss ++ (s ∷ [])) ≡ calls_in ss + call_action s.action
calls_more [] s = omega arith
calls_more (q ∷ qs) s = let h = calls_more qs s in omega (arith, h)

-- ---- what is told of so many calls, none of which failed

not_yet : IsTrue false → ⊥
not_yet h = true≢false (sym h)

module _ {S : Type 0} (faults : S → ℕ) (may must : S → ℕ → Type 0) where
  module _ (a b c : S) (n : ℕ) (t : Answered faults may must a b n) where
    then_unasked : Unasked (faults b) (faults c) (may b) (may c) (must b) (must c) → Answered faults may must a c n
    then_unasked u = record {
      counted = u.counted ∙ t.counted;
      fewer = λ k h. t.fewer k (u.may_later k h);
      more = λ k h. u.must_later k (t.more k h);
      passed = t.passed;
    }

    pub then_answered : (m p : ℕ) → p ≡ n + m → (m ≡ 0) ⊎ (m ≡ 1) → CalledTimes (faults b) (faults c) (may b) (may c) (must b) (must c) m → Answered faults may must a c p
    then_answered m p is (inl e) h =
        let same : n ≡ p = omega (arith, is, e) in
        subst (λ z. Answered faults may must a c z) same (then_unasked (subst (λ z. CalledTimes (faults b) (faults c) (may b) (may c) (must b) (must c) z) e h))
    then_answered m p is (inr e) h =
        let same : n + 1 ≡ p = omega (arith, is, e) in
        subst (λ z. Answered faults may must a c z) same (then_called faults may must a b c n t (subst (λ z. CalledTimes (faults b) (faults c) (may b) (may c) (must b) (must c) z) e h))

    -- ---- the end of a run

    quietly : MaybeCalled (faults b) (faults c) (may b) (may c) (must b) (must c) → FaultsTold (faults a) (faults c) (may a) (must a) n false
    quietly (inl u) = record { counted = u.counted ∙ t.counted; allowed = λ f. absurd (not_yet f); passed = t.passed }
    quietly (inr x) = then_left faults may must a b c n t x

    failing : Called (faults b) (faults c) (may b) (may c) (must b) (must c) true → FaultsTold (faults a) (faults c) (may a) (must a) n true
    failing x = then_failed faults may must a b c n t x

    pub sink_ends : (e : WriteError) → SinkStops (faults b) (faults c) (may b) (may c) (must b) (must c) e → FaultsTold (faults a) (faults c) (may a) (must a) n (is_sink_fault e)
    sink_ends SourceFault h = quietly h
    sink_ends SinkFault h = failing h
    sink_ends CompressFault h = quietly h
    sink_ends (BatchType x) h = quietly h
    sink_ends NotStruct h = quietly h
    sink_ends (DuplicateField name) h = quietly h
    sink_ends ManyChunks h = quietly h
    sink_ends EmptyList h = quietly h
    sink_ends (ZoneCut k) h = quietly h
    sink_ends (ForbiddenAggregate id) h = quietly h
    sink_ends (ForbiddenEncoding id) h = quietly h
    sink_ends (TooLarge k) h = quietly h
    sink_ends OutOfMemory h = quietly h
    sink_ends (Stopped by name) h = quietly h

    pub press_ends : (e : WriteError) → PressStops (faults b) (faults c) (may b) (may c) (must b) (must c) e → FaultsTold (faults a) (faults c) (may a) (must a) n (is_compress_fault e)
    press_ends SourceFault h = quietly h
    press_ends SinkFault h = quietly h
    press_ends CompressFault h = failing h
    press_ends (BatchType x) h = quietly h
    press_ends NotStruct h = quietly h
    press_ends (DuplicateField name) h = quietly h
    press_ends ManyChunks h = quietly h
    press_ends EmptyList h = quietly h
    press_ends (ZoneCut k) h = quietly h
    press_ends (ForbiddenAggregate id) h = quietly h
    press_ends (ForbiddenEncoding id) h = quietly h
    press_ends (TooLarge k) h = quietly h
    press_ends OutOfMemory h = quietly h
    press_ends (Stopped by name) h = quietly h

    misfit_ends : (reads : Bool) → MisfitTold (faults b) (faults c) (may b) (may c) (must b) (must c) reads → FaultsTold (faults a) (faults c) (may a) (must a) n false
    misfit_ends true h = quietly (inr h)
    misfit_ends false h = quietly h

    pub source_ends : (reads : Bool) (e : WriteError) → SourceStops (faults b) (faults c) (may b) (may c) (must b) (must c) reads e → FaultsTold (faults a) (faults c) (may a) (must a) n (is_source_fault e)
    source_ends reads SourceFault h = failing h.1
    source_ends reads SinkFault h = quietly h
    source_ends reads CompressFault h = quietly h
    source_ends reads (BatchType x) h = misfit_ends reads h
    source_ends reads NotStruct h = quietly h
    source_ends reads (DuplicateField name) h = quietly h
    source_ends reads ManyChunks h = quietly h
    source_ends reads EmptyList h = quietly h
    source_ends reads (ZoneCut k) h = quietly h
    source_ends reads (ForbiddenAggregate id) h = quietly h
    source_ends reads (ForbiddenEncoding id) h = quietly h
    source_ends reads (TooLarge k) h = quietly h
    source_ends reads OutOfMemory h = quietly h
    source_ends reads (Stopped by name) h = quietly h

    -- a read that gave a batch of another type
    read_passed : (reads : Bool) → MisfitTold (faults b) (faults c) (may b) (may c) (must b) (must c) reads → reads ≡ true → ¬ must a n
    read_passed true h is = unforced faults may must a b c n t h
    read_passed false h is = absurd (true≢false (sym is))

    -- of a batch of another type, where the step reads
    pub misfit_passed : (x y : Bool) (e : WriteError) → y ≡ x → SourceStops (faults b) (faults c) (may b) (may c) (must b) (must c) x e → OfMisfit e (y ≡ true → ¬ must a n)
    misfit_passed x y (BatchType p) is h = λ r. read_passed x h (sym is ∙ r)
    misfit_passed x y e is h = tt
