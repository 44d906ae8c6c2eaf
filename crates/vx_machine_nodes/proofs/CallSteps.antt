-- What is told of calls of the sink, act by act.
use Rattle.std.proofs.Common.{◌≡◌, ℕ, false, Result, Ok, Err, IfOk, IfErr, inl, refl, sym, subst}
use Rattle.vx_fault.specs.Faults.{Called}
use Rattle.vx_order_answer.specs.declared.receipt.Receipt.{Receipt}
use Rattle.vx_order_answer.specs.declared.errors.OrderError.{OrderError}
use Rattle.vx_order_answer.specs.declared.errors.OrderError.TheVariants as order
use Rattle.vx_order.specs.Answers.{Tried, Tells, TellsRefused, Unasked}
use Rattle.vx_order.specs.declared.attempt.Attempt.TheVariants.{Written}
use Rattle.vx_write_answer.specs.Causes.{of_order}
use Rattle.vx_write_answer.specs.declared.step.ActionKind.{ActionKind}
use Rattle.vx_write_answer.specs.declared.error.WriteError.{WriteError}
use Rattle.vx_write_answer.specs.declared.error.WriteError.TheVariants.{SourceFault, SinkFault, CompressFault, BatchType, NotStruct, DuplicateField, ManyChunks, EmptyList, ZoneCut, ForbiddenAggregate, ForbiddenEncoding, TooLarge, OutOfMemory, Stopped}
use Rattle.vx_machine_nodes.specs.Calls.{reads_action, append_action, call_action, CalledTimes, SinkStops, TaskTold, PressStops, PressTold}
use Rattle.vx_machine_node.specs.Causes.{MayCome, AppendMay, PressMay}

-- ---- of the sink

pub unasked_self : (n : ℕ) (may must : ℕ → Type 0) → Unasked n n may may must must
unasked_self n may must = record { counted = refl; may_later = λ k h. h; must_later = λ k h. h }

-- what tells of faults is as before
module _ {S : Type 0} (faults : S → ℕ) (may must : S → ℕ → Type 0) (a b : S) (same : b ≡ a) where
  pub unasked_by : Unasked (faults a) (faults b) (may a) (may b) (must a) (must b)
  unasked_by = subst (λ z. Unasked (faults a) (faults z) (may a) (may z) (must a) (must z)) (sym same) (unasked_self (faults a) (may a) (must a))

  -- of an act that asks no sink
  pub quiet_stops : (e : WriteError) → MayCome e → SinkStops (faults a) (faults b) (may a) (may b) (must a) (must b) e
  quiet_stops SourceFault h = inl unasked_by
  quiet_stops SinkFault h = absurd h
  quiet_stops CompressFault h = inl unasked_by
  quiet_stops (BatchType c) h = inl unasked_by
  quiet_stops NotStruct h = inl unasked_by
  quiet_stops (DuplicateField name) h = inl unasked_by
  quiet_stops ManyChunks h = inl unasked_by
  quiet_stops EmptyList h = inl unasked_by
  quiet_stops (ZoneCut n) h = inl unasked_by
  quiet_stops (ForbiddenAggregate id) h = inl unasked_by
  quiet_stops (ForbiddenEncoding id) h = inl unasked_by
  quiet_stops (TooLarge n) h = inl unasked_by
  quiet_stops OutOfMemory h = inl unasked_by
  quiet_stops (Stopped by name) h = inl unasked_by

  pub quiet_told : (k : ActionKind) → reads_action k ≡ 0 → append_action k ≡ 0 → (r : Result ActionKind WriteError) → IfOk r (λ x. x ≡ k) → IfErr r MayCome
      → TaskTold (faults a) (faults b) (may a) (may b) (must a) (must b) r (λ x. x)
  quiet_told k m n (Ok x) is h = subst (λ z. TaskTold (faults a) (faults b) (may a) (may b) (must a) (must b) (Ok z) (λ x. x)) (sym is)
      (m, subst (λ z. CalledTimes (faults a) (faults b) (may a) (may b) (must a) (must b) z) (sym n) unasked_by)
  quiet_told k m n (Err e) is h = quiet_stops e h

  -- of a call of the compressor
  pub pressed_stops : (e : WriteError) → PressMay e → SinkStops (faults a) (faults b) (may a) (may b) (must a) (must b) e
  pressed_stops SourceFault h = absurd h
  pressed_stops SinkFault h = absurd h
  pressed_stops CompressFault h = inl unasked_by
  pressed_stops (BatchType c) h = absurd h
  pressed_stops NotStruct h = absurd h
  pressed_stops (DuplicateField name) h = absurd h
  pressed_stops ManyChunks h = absurd h
  pressed_stops EmptyList h = absurd h
  pressed_stops (ZoneCut n) h = absurd h
  pressed_stops (ForbiddenAggregate id) h = absurd h
  pressed_stops (ForbiddenEncoding id) h = absurd h
  pressed_stops (TooLarge n) h = absurd h
  pressed_stops OutOfMemory h = inl unasked_by
  pressed_stops (Stopped by name) h = absurd h

  pub pressed_told : (k : ActionKind) → reads_action k ≡ 0 → append_action k ≡ 0 → (r : Result ActionKind WriteError) → IfOk r (λ x. x ≡ k) → IfErr r PressMay
      → TaskTold (faults a) (faults b) (may a) (may b) (must a) (must b) r (λ x. x)
  pressed_told k m n (Ok x) is h = quiet_told k m n (Ok x) is tt
  pressed_told k m n (Err e) is h = pressed_stops e h

  -- of an act that compresses nothing
  pub uncalled_stops : (e : WriteError) → AppendMay e → PressStops (faults a) (faults b) (may a) (may b) (must a) (must b) e
  uncalled_stops SourceFault h = inl unasked_by
  uncalled_stops SinkFault h = inl unasked_by
  uncalled_stops CompressFault h = absurd h
  uncalled_stops (BatchType c) h = inl unasked_by
  uncalled_stops NotStruct h = inl unasked_by
  uncalled_stops (DuplicateField name) h = inl unasked_by
  uncalled_stops ManyChunks h = inl unasked_by
  uncalled_stops EmptyList h = inl unasked_by
  uncalled_stops (ZoneCut n) h = inl unasked_by
  uncalled_stops (ForbiddenAggregate id) h = inl unasked_by
  uncalled_stops (ForbiddenEncoding id) h = inl unasked_by
  uncalled_stops (TooLarge n) h = inl unasked_by
  uncalled_stops OutOfMemory h = inl unasked_by
  uncalled_stops (Stopped by name) h = inl unasked_by

  pub uncalled : (k : ActionKind) → call_action k ≡ 0 → (r : Result ActionKind WriteError) → IfOk r (λ x. x ≡ k) → IfErr r AppendMay → PressTold (faults a) (faults b) (may a) (may b) (must a) (must b) r (λ x. x)
  uncalled k n (Ok x) is h = subst (λ z. PressTold (faults a) (faults b) (may a) (may b) (must a) (must b) (Ok z) (λ x. x)) (sym is)
      (subst (λ z. CalledTimes (faults a) (faults b) (may a) (may b) (must a) (must b) z) (sym n) unasked_by)
  uncalled k n (Err e) is h = uncalled_stops e h

-- and so behind a call
module _ {S : Type 0} (faults : S → ℕ) (may must : S → ℕ → Type 0) (a b c : S) (same : c ≡ b) where
  pub then_called : Called (faults a) (faults b) (may a) (may b) (must a) (must b) false → Called (faults a) (faults c) (may a) (may c) (must a) (must c) false
  then_called = subst (λ z. Called (faults a) (faults z) (may a) (may z) (must a) (must z) false) (sym same)

  refused_told : (e : OrderError) → TellsRefused (faults a) (faults b) (may a) (may b) (must a) (must b) e → SinkStops (faults a) (faults b) (may a) (may b) (must a) (must b) (of_order e)
  refused_told (order.TooLarge k) h = inl h
  refused_told order.SinkFault h = h
  refused_told order.OutOfMemory h = h
  refused_told (order.Stopped by name) h = inl h

  pub refused_stops : (e : OrderError) (x : WriteError) → x ≡ of_order e → TellsRefused (faults a) (faults b) (may a) (may b) (must a) (must b) e
      → SinkStops (faults a) (faults c) (may a) (may c) (must a) (must c) x
  refused_stops e x is h =
      subst (λ z. SinkStops (faults a) (faults z) (may a) (may z) (must a) (must z) x) (sym same)
      (subst (λ z. SinkStops (faults a) (faults b) (may a) (may b) (must a) (must b) z) (sym is) (refused_told e h))

-- ---- of a call

module _ {S : Type 0} (faults : S → ℕ) (may must : S → ℕ → Type 0) (a b : S) where
  pub written_called : (r : Tried) (x : Receipt) → r ≡ Ok (Written x) → Tells (faults a) (faults b) (may a) (may b) (must a) (must b) r → Called (faults a) (faults b) (may a) (may b) (must a) (must b) false
  written_called r x is h = subst (λ z. Tells (faults a) (faults b) (may a) (may b) (must a) (must b) z) is h
