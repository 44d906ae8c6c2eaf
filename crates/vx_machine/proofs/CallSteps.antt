-- What is told of calls of the source, of the sink and of the compressor, step by step.
use Rattle.std.proofs.Common.{◌≡◌, ℕ, suc, ◌+◌, Bool, true, false, List, Option, Result, Err, inl, inr, refl, sym, subst, arith}
use Rattle.vx_model.specs.Ty.{Ty}
use Rattle.vx_model.specs.ChunkData.{ChunkData}
use Rattle.vx_fault.specs.Faults.{Called}
use Rattle.vx_order_answer.specs.declared.errors.OrderError.{OrderError}
use Rattle.vx_order_answer.specs.declared.errors.OrderError.TheVariants as order
use Rattle.vx_order.specs.Answers.{FullAt}
use Rattle.vx_sink.specs.Source.{source_failed}
use Rattle.vx_sink.specs.declared.source.SourceError.{SourceError}
use Rattle.vx_sink.specs.declared.source.SourceError.TheVariants as source
use Rattle.vx_machine_promises.specs.Write.{Answer, unasked, came, over}
use Rattle.vx_machine_state.specs.State.{Tasks}
use Rattle.vx_machine_view.specs.Machine.{Phase, reading, giving, closing, finished, may_source, source_step}
use Rattle.vx_machine_state.specs.Places.{one_if}
use Rattle.vx_write_answer.specs.Causes.{of_source, of_order}
use Rattle.vx_write_answer.specs.declared.step.ActionKind.{ActionKind}
use Rattle.vx_write_answer.specs.declared.step.ActionKind.TheVariants as actions
use Rattle.vx_write_answer.specs.declared.error.WriteError.{WriteError}
use Rattle.vx_write_answer.specs.declared.error.WriteError.TheVariants.{SourceFault, SinkFault, CompressFault, BatchType, NotStruct, DuplicateField, ManyChunks, EmptyList, ZoneCut, ForbiddenAggregate, ForbiddenEncoding, TooLarge, OutOfMemory, Stopped}
use Rattle.vx_machine_nodes.specs.Calls.{reads_action, append_action, call_action, CalledTimes, SinkStops, PressStops}
use Rattle.vx_machine.specs.Calls.{LeavesFewer, reads_at, SourceStops, SourceTold}
use Rattle.vx_machine_node.specs.Causes.{ActMay}
use Rattle.vx_machine_node.specs.Outcome.{action_of}
use Rattle.vx_machine.specs.Source.{SourceMay}
use Rattle.vx_machine.specs.SourceActs.{SourceActed}
use Rattle.vx_machine_nodes.proofs.CallSteps.{unasked_by, unasked_self}

-- what tells of faults is as before: so behind the source's act, which asks no sink
module _ {S : Type 0} (faults : S → ℕ) (may must : S → ℕ → Type 0) (a b : S) (same : b ≡ a) where
  pub source_quiet : (t : Ty) (e : WriteError) → SourceMay t e → SinkStops (faults a) (faults b) (may a) (may b) (must a) (must b) e
  source_quiet t SourceFault h = inl (unasked_by faults may must a b same)
  source_quiet t SinkFault h = absurd h
  source_quiet t CompressFault h = inl (unasked_by faults may must a b same)
  source_quiet t (BatchType c) h = inl (unasked_by faults may must a b same)
  source_quiet t NotStruct h = inl (unasked_by faults may must a b same)
  source_quiet t (DuplicateField name) h = inl (unasked_by faults may must a b same)
  source_quiet t ManyChunks h = inl (unasked_by faults may must a b same)
  source_quiet t EmptyList h = inl (unasked_by faults may must a b same)
  source_quiet t (ZoneCut n) h = inl (unasked_by faults may must a b same)
  source_quiet t (ForbiddenAggregate id) h = inl (unasked_by faults may must a b same)
  source_quiet t (ForbiddenEncoding id) h = inl (unasked_by faults may must a b same)
  source_quiet t (TooLarge n) h = inl (unasked_by faults may must a b same)
  source_quiet t OutOfMemory h = inl (unasked_by faults may must a b same)
  source_quiet t (Stopped by name) h = inl (unasked_by faults may must a b same)

  pub source_act : (x : ActionKind) → append_action x ≡ 0 → CalledTimes (faults a) (faults b) (may a) (may b) (must a) (must b) (append_action x)
  source_act x n = subst (λ z. CalledTimes (faults a) (faults b) (may a) (may b) (must a) (must b) z) (sym n) (unasked_by faults may must a b same)

-- ---- of a read

module _ {S : Type 0} (faults : S → ℕ) (may must : S → ℕ → Type 0) (a b : S) where
  failed_told : (e : SourceError) → Called (faults a) (faults b) (may a) (may b) (must a) (must b) (source_failed (Err e)) → SourceStops (faults a) (faults b) (may a) (may b) (must a) (must b) true (of_source e)
  failed_told source.Failed h = (refl, h)
  failed_told source.OutOfMemory h = inr h

  pub failed_stops : (e : SourceError) (x : WriteError) → x ≡ of_source e → Called (faults a) (faults b) (may a) (may b) (must a) (must b) (source_failed (Err e))
      → SourceStops (faults a) (faults b) (may a) (may b) (must a) (must b) true x
  failed_stops e x is h = subst (λ z. SourceStops (faults a) (faults b) (may a) (may b) (must a) (must b) true z) (sym is) (failed_told e h)

  -- a batch came, and it can have no path
  full_told : (last : ℕ) (e : OrderError) → FullAt last e → Called (faults a) (faults b) (may a) (may b) (must a) (must b) false → SourceStops (faults a) (faults b) (may a) (may b) (must a) (must b) true (of_order e)
  full_told last (order.TooLarge k) f h = inr h
  full_told last order.SinkFault f h = absurd f
  full_told last order.OutOfMemory f h = inr h
  full_told last (order.Stopped by name) f h = absurd f

  pub full_stops : (last : ℕ) (e : OrderError) (x : WriteError) → x ≡ of_order e → FullAt last e → Called (faults a) (faults b) (may a) (may b) (must a) (must b) false
      → SourceStops (faults a) (faults b) (may a) (may b) (must a) (must b) true x
  full_stops last e x is f h = subst (λ z. SourceStops (faults a) (faults b) (may a) (may b) (must a) (must b) true z) (sym is) (full_told last e f h)

  -- whether the source reads, said otherwise
  pub told_as : (x y : Bool) (r : Result ActionKind WriteError) → y ≡ x → SourceTold (faults a) (faults b) (may a) (may b) (must a) (must b) x r (λ k. k)
      → SourceTold (faults a) (faults b) (may a) (may b) (must a) (must b) y r (λ k. k)
  told_as x y r is = subst (λ z. SourceTold (faults a) (faults b) (may a) (may b) (must a) (must b) z r (λ k. k)) (sym is)

  pub stops_as : (x y : Bool) (e : WriteError) → y ≡ x → SourceStops (faults a) (faults b) (may a) (may b) (must a) (must b) x e → SourceStops (faults a) (faults b) (may a) (may b) (must a) (must b) y e
  stops_as x y e is = subst (λ z. SourceStops (faults a) (faults b) (may a) (may b) (must a) (must b) z e) (sym is)

-- ---- of the source, by a task's act

module _ (n : ℕ) (may must : ℕ → Type 0) where
  by_task : (e : WriteError) → ActMay e → SourceStops n n may may must must false e
  by_task SourceFault h = absurd h
  by_task SinkFault h = inl (unasked_self n may must)
  by_task CompressFault h = inl (unasked_self n may must)
  by_task (BatchType c) h = inl (unasked_self n may must)
  by_task NotStruct h = inl (unasked_self n may must)
  by_task (DuplicateField name) h = inl (unasked_self n may must)
  by_task ManyChunks h = inl (unasked_self n may must)
  by_task EmptyList h = inl (unasked_self n may must)
  by_task (ZoneCut k) h = inl (unasked_self n may must)
  by_task (ForbiddenAggregate id) h = inl (unasked_self n may must)
  by_task (ForbiddenEncoding id) h = inl (unasked_self n may must)
  by_task (TooLarge k) h = inl (unasked_self n may must)
  by_task OutOfMemory h = inl (unasked_self n may must)
  by_task (Stopped by name) h = inl (unasked_self n may must)

  pub task_stops : (reads : Bool) → reads ≡ false → (e : WriteError) → ActMay e → SourceStops n n may may must must reads e
  task_stops reads is e h = subst (λ z. SourceStops n n may may must must z e) (sym is) (by_task e h)

  pub task_reads : (x : ActionKind) → reads_action x ≡ 0 → CalledTimes n n may may must must (reads_action x)
  task_reads x is = subst (λ z. CalledTimes n n may may must must z) (sym is) (unasked_self n may must)

-- an act that doesn't read
pub none_fewer : (n : ℕ) (a : ActionKind) → reads_action a ≡ 0 → LeavesFewer n n a
none_fewer n actions.Batch e = absurd (omega (arith, e))
none_fewer n a e = omega arith

-- behind the source's own place
pub reads_behind : (p : Phase) (root : Tasks) (k j : ℕ) → k ≡ one_if (may_source p root) + j → reads_at p k ≡ false
reads_behind (reading ns) root k j is =
    let next : k ≡ suc j = omega (arith, is) in
    subst (λ z. reads_at (reading ns) z ≡ false) (sym next) refl
reads_behind (giving ns i) root k j is = refl
reads_behind closing root k j is = refl
reads_behind finished root k j is = refl

-- no act of the source appends
step_appends : (a : Answer) (p : Phase) (root : Tasks) → append_action (action_of (source_step a p root).kind) ≡ 0
step_appends (came b) (reading ns) root = refl
step_appends over (reading ns) root = refl
step_appends unasked (reading ns) root = refl
step_appends a (giving ns i) root = refl
step_appends a closing root = refl
step_appends a finished root = refl

pub source_appends : (t : Ty) (before now : Option (List ChunkData)) (p q : Phase) (root new : Tasks) (x : ActionKind) → SourceActed t before now p q root new x → append_action x ≡ 0
source_appends t before now p q root new x d = subst (λ z. append_action z ≡ 0) (sym d.kind) (step_appends d.told p root)

-- ---- of the compressor, by the source's act

module _ (n : ℕ) (may must : ℕ → Type 0) where
  pub source_unpressed : (t : Ty) (e : WriteError) → SourceMay t e → PressStops n n may may must must e
  source_unpressed t CompressFault h = absurd h
  source_unpressed t e h = inl (unasked_self n may must)

  pub none_pressed : (x : ActionKind) → call_action x ≡ 0 → CalledTimes n n may may must must (call_action x)
  none_pressed x is = subst (λ z. CalledTimes n n may may must must z) (sym is) (unasked_self n may must)

step_calls : (a : Answer) (p : Phase) (root : Tasks) → call_action (action_of (source_step a p root).kind) ≡ 0
step_calls (came b) (reading ns) root = refl
step_calls over (reading ns) root = refl
step_calls unasked (reading ns) root = refl
step_calls a (giving ns i) root = refl
step_calls a closing root = refl
step_calls a finished root = refl

pub source_calls : (t : Ty) (before now : Option (List ChunkData)) (p q : Phase) (root new : Tasks) (x : ActionKind) → SourceActed t before now p q root new x → call_action x ≡ 0
source_calls t before now p q root new x d = subst (λ z. call_action z ≡ 0) (sym d.kind) (step_calls d.told p root)
