-- Why a column is refused, and what its seat and its compressor count then.
use Rattle.std.proofs.Common.{◌≡◌, ◌∙◌, ◌+◌, ℕ, false, refl, sym, ap, subst, inl, inr, arith, Result, Ok, Err}
use Rattle.std.proofs.lemmas.Bool.{true≢false}
use Rattle.std.proofs.lemmas.Result.{IfErr-weaker}
use Rattle.std.specs.Prelude.{IfErr, OnOk, if◌then◌else◌}
use Rattle.vx_order_answer.specs.declared.errors.OrderError.{OrderError}
use Rattle.vx_order_answer.specs.declared.errors.OrderError.TheVariants as order
use Rattle.vx_order_answer.specs.Refusal.{is_fault, is_stop, once}
use Rattle.vx_fault.specs.Counts.{Rose}
use Rattle.vx_seats.specs.Turns.{NeverFails, NumberFits}
use Rattle.vx_write_answer.specs.declared.error.WriteError.{WriteError}
use Rattle.vx_write_answer.specs.declared.error.WriteError.TheVariants.{SinkFault, CompressFault, TooLarge, OutOfMemory, Stopped}
use Rattle.vx_write_answer.specs.Causes.{of_order, is_sink_fault, is_compress_fault}
use Rattle.vx_column_machine.specs.Course.{Course}
use Rattle.vx_column_machine.specs.Causes.{HasCause, StepPressed}
use Rattle.vx_column_worker.specs.Worked.{WorkerCause, SharedPast, SinkCause, SeatTold, PressedOnly, is_stopped, made_after}

-- ---- by its own machine

pub own_cause : (shared : ℕ → Type 0) (x : Course) (e : WriteError) → HasCause x e → WorkerCause shared x e
own_cause shared x (TooLarge n) h = inl h
own_cause shared x SinkFault h = tt
own_cause shared x (Stopped by name) h = tt
own_cause shared x e h = h

own_kept : (x : Course) (e : WriteError) → HasCause x e → (is_sink_fault e ≡ false) × (is_stopped e ≡ false)
own_kept x SinkFault h = absurd h
own_kept x (Stopped by name) h = absurd h
own_kept x e h = (refl, refl)

-- the seat counts nothing of it
pub own_told : {A : Type 0} (x : Course) (e : WriteError) → HasCause x e → (faults faults_now made made_now seen seen_now : ℕ)
    → faults_now ≡ faults → made_now ≡ made → seen_now ≡ seen → SeatTold {A = A} (Err e) faults faults_now made made_now seen seen_now
own_told x e h faults faults_now made made_now seen seen_now f m s =
    let k = own_kept x e h in record {
      fault = f ∙ sym (ap (once faults) k.0);
      unmade = m;
      saw = s ∙ sym (ap (once seen) k.1);
    }

-- ---- by the shared sink

pub sink_cause : (shared : ℕ → Type 0) (x : Course) (e : WriteError) → SinkCause shared e → WorkerCause shared x e
sink_cause shared x (TooLarge n) h = inr h
sink_cause shared x SinkFault h = tt
sink_cause shared x OutOfMemory h = tt
sink_cause shared x (Stopped by name) h = tt
sink_cause shared x e h = absurd h

pub order_cause : (first pairs : ℕ) (e : OrderError) → NumberFits first pairs e → SinkCause (SharedPast first pairs) (of_order e)
order_cause first pairs (order.TooLarge n) h = h
order_cause first pairs order.SinkFault h = tt
order_cause first pairs order.OutOfMemory h = tt
order_cause first pairs (order.Stopped by name) h = tt

order_fault : (e : OrderError) → is_sink_fault (of_order e) ≡ is_fault e
order_fault (order.TooLarge n) = refl
order_fault order.SinkFault = refl
order_fault order.OutOfMemory = refl
order_fault (order.Stopped by name) = refl

order_stop : (e : OrderError) → is_stopped (of_order e) ≡ is_stop e
order_stop (order.TooLarge n) = refl
order_stop order.SinkFault = refl
order_stop order.OutOfMemory = refl
order_stop (order.Stopped by name) = refl

-- the seat counts a fault and a stop
pub order_told : {A : Type 0} (e : OrderError) (faults faults_now made made_now seen seen_now : ℕ)
    → faults_now ≡ once faults (is_fault e) → made_now ≡ made → seen_now ≡ once seen (is_stop e) → SeatTold {A = A} (Err (of_order e)) faults faults_now made made_now seen seen_now
order_told e faults faults_now made made_now seen seen_now f m s = record {
  fault = f ∙ sym (ap (once faults) (order_fault e));
  unmade = m;
  saw = s ∙ sym (ap (once seen) (order_stop e));
}

-- ---- of a step that was done, whatever came of its segment

pub handed_cause : {A : Type 0} (shared : ℕ → Type 0) (Q : Course → Type 0) (r : Result A WriteError) → IfErr r (SinkCause shared) → IfErr r (λ e. (x : Course) → Q x → WorkerCause shared x e)
handed_cause shared Q r h = IfErr-weaker r (SinkCause shared) (λ e. (x : Course) → Q x → WorkerCause shared x e) (λ e k x q. sink_cause shared x e k) h

unpressed : (A : Type 0) (shared : ℕ → Type 0) (before now : ℕ) (may may_then : ℕ → Type 0) (e : WriteError) → SinkCause shared e → now ≡ before → StepPressed {A = A} before now may may_then (Err e)
unpressed A shared before now may may_then CompressFault h k = absurd h
unpressed A shared before now may may_then e h k = k

pub handed_pressed : {A : Type 0} (shared : ℕ → Type 0) (before now : ℕ) (may may_then : ℕ → Type 0) (r : Result A WriteError) → IfErr r (SinkCause shared) → now ≡ before
    → (NeverFails may → NeverFails may_then) → StepPressed before now may may_then r
handed_pressed {A} shared before now may may_then (Ok v) h k n = (k, n)
handed_pressed {A} shared before now may may_then (Err e) h k n = unpressed A shared before now may may_then e h k

pub handed_on : {A : Type 0} (P : Type 0) (r : Result A WriteError) → P → OnOk r P
handed_on P (Ok v) p = p
handed_on P (Err e) p = tt

pub handed_writes : {A : Type 0} (r : Result A WriteError) (before now old new : ℕ) → new ≡ old + 1 → OnOk r (now ≡ before + 1) → OnOk r (now + old ≡ before + new)
handed_writes (Ok v) before now old new n w = omega arith
handed_writes (Err e) before now old new n w = tt

-- ---- its compressor

-- a refusal of a step, behind steps that were done
pub pressed_last : (A B : Type 0) (first before now : ℕ) (may_first may may_then : ℕ → Type 0) (e : WriteError) → before ≡ first → (NeverFails may_first → NeverFails may)
    → StepPressed {A = A} before now may may_then (Err e) → PressedOnly {A = B} first now may_first (Err e)
pressed_last A B first before now may_first may may_then CompressFault b n h = (subst (λ z. Rose z now) b h.0, λ never. h.1 (n never))
pressed_last A B first before now may_first may may_then e b n h = h ∙ b

-- a refusal before the first
pub pressed_none : (A : Type 0) (count : ℕ) (may : ℕ → Type 0) (e : WriteError) → is_compress_fault e ≡ false → PressedOnly {A = A} count count may (Err e)
pressed_none A count may CompressFault h = absurd (true≢false h)
pressed_none A count may e h = refl

-- ---- its seat, over steps

-- behind steps of which it counted nothing, and the stop that it made, if it made one
pub told_stopping : {A B : Type 0} (e : WriteError) (faults faults_then faults_now faults_last made made_then made_now made_last seen seen_then seen_now seen_last : ℕ)
    → faults_then ≡ faults → made_then ≡ made → seen_then ≡ seen → SeatTold {A = A} (Err e) faults_then faults_now made_then made_now seen_then seen_now
    → faults_last ≡ faults_now → made_last ≡ (if is_stopped e then made_now else 1) → seen_last ≡ seen_now
    → SeatTold {A = B} (Err e) faults faults_last (made_after {A = B} (Err e) made) made_last seen seen_last
told_stopping e faults faults_then faults_now faults_last made made_then made_now made_last seen seen_then seen_now seen_last f m s t fl ml sl = record {
  fault = fl ∙ t.fault ∙ ap (λ z. once z (is_sink_fault e)) f;
  unmade = ml ∙ ap (λ z. if is_stopped e then z else 1) (t.unmade ∙ m);
  saw = sl ∙ t.saw ∙ ap (λ z. once z (is_stopped e)) s;
}
