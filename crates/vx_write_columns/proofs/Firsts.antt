-- The first refusal of columns: where it is, and whatever else is told of their ends.
use Rattle.std.proofs.Common.{◌≡◌, ◌∷◌, ◌∙◌, ℕ, suc, Bool, false, List, Option, Some, None, slice_get, refl, sym, ap, subst, inl, inr, ⊎_elim, []}
use Rattle.std.specs.Prelude.{if◌then◌else◌}
use Rattle.std.proofs.lemmas.Bool.{cases_Bool}
use Rattle.vx_model.specs.Ty.{Ty}
use Rattle.vx_model.specs.ChunkData.{ChunkData}
use Rattle.vx_fault.specs.Counts.{Rose}
use Rattle.vx_seats.specs.Turns.{NeverFails}
use Rattle.vx_strategy_spec.specs.StrategyData.{StrategyData}
use Rattle.vx_plan.specs.PlanData.{Setting}
use Rattle.vx_write_answer.specs.declared.error.WriteError.{WriteError}
use Rattle.vx_column_worker.specs.Course.{Course}
use Rattle.vx_column_worker.specs.Worked.{WorkerCause}
use Rattle.vx_column_layouts.proofs.Joining.{own_is}
use Rattle.vx_write_columns.specs.Ends.{End, AllEnd, first_refusal, IsFirstOf, AllPressed, EndsTell}
use Rattle.vx_write_columns.specs.Numbers.{IsOwn, is_stop}
use Rattle.vx_write_columns.specs.Stopped.{ColumnsHalted}

no_error : (e : WriteError) → None ≡ Some e → ⊥
no_error e h = cc

same_error : (e f : WriteError) → Some e ≡ Some f → e ≡ f
same_error e f h = cc

-- ---- its column

module _ (shared : ℕ → Type 0) (e : WriteError) where
  abbrev pub HasAt : List Course → Type 0
  HasAt xs = (k : ℕ) × (x : Course) × (slice_get xs k ≡ Some x) × IsOwn e × WorkerCause shared x e

  pub first_at : (xs : List Course) (ends : List End) → AllEnd shared xs ends → first_refusal ends ≡ Some e → HasAt xs
  first_at [] [] h f = absurd (no_error e f)
  first_at [] (o ∷ ends) h f = absurd h
  first_at (x ∷ xs) [] h f = absurd h
  first_at (x ∷ xs) (None ∷ ends) h f = later (first_at xs ends h.1 f)
    where
      later : HasAt xs → HasAt (x ∷ xs)
      later (k, y, there, own, cause) = (suc k, y, there, own, cause)
  first_at (x ∷ xs) (Some g ∷ ends) h f = ⊎_elim
      (λ stop. later (first_at xs ends h.1 (sym (ap (λ b. if b then first_refusal ends else Some g) stop) ∙ f)))
      (λ other. here other (same_error g e (sym (ap (λ b. if b then first_refusal ends else Some g) other) ∙ f)))
      (cases_Bool (is_stop g))
    where
      later : HasAt xs → HasAt (x ∷ xs)
      later (k, y, there, own, cause) = (suc k, y, there, own, cause)

      here : is_stop g ≡ false → g ≡ e → HasAt (x ∷ xs)
      here other is = (0, x, refl, subst (λ (z : WriteError). IsOwn z) is (own_is g other), subst (λ (z : WriteError). WorkerCause shared x z) is h.0)

-- ---- by another name

pub first_weaker : (shared : ℕ → Type 0) (f g : List End → Type 0) (xs : List Course) (e : WriteError) → ((ends : List End) → f ends → g ends) → IsFirstOf shared f xs e → IsFirstOf shared g xs e
first_weaker shared f g xs e more h = record { ends = h.ends; all = h.all; told = more h.ends h.told; first_is = h.first_is }

-- of a sink that may fail where the other may
pub tells_by : {C : Type 0} (a b now : ℕ) (may may_too : ℕ → Type 0) (faults : C → ℕ) (fails : C → ℕ → Type 0) (lent given back : List C) → a ≡ b → lent ≡ given → (NeverFails may_too → NeverFails may)
    → (ends : List End) → EndsTell a now may faults fails lent back ends → EndsTell b now may_too faults fails given back ends
tells_by a b now may may_too faults fails lent given back same handed never ends h = record {
  sink_failed = λ i. (subst (λ z. Rose z now) same (h.sink_failed i).0, λ n. (h.sink_failed i).1 (never n));
  sink_kept = ⊎_elim (λ i. inl i) (λ k. inr (k ∙ same)) h.sink_kept;
  pressed = subst (λ z. AllPressed faults fails z back ends) handed h.pressed;
}

-- of a refused write
pub halted_weaker : (s : Setting) (w : StrategyData) (t : Ty) (m : Bool) (passes : List ChunkData → ℕ → Type 0) (f g : List ChunkData → WriteError → Type 0) (first next : ℕ) (faults faults_now : ℕ) (may must : ℕ → Type 0)
    (to_come to_come_now : Option (List ChunkData)) (before now : Option (List (List ℕ))) (e : WriteError) → ((taken : List ChunkData) → f taken e → g taken e)
    → ColumnsHalted s w t m passes f first next faults faults_now may must to_come to_come_now before now e → ColumnsHalted s w t m passes g first next faults faults_now may must to_come to_come_now before now e
halted_weaker s w t m passes f g first next faults faults_now may must to_come to_come_now before now e more h = record {
  taken = h.taken;
  heard = h.heard;
  told = h.told;
  stood = h.stood;
  early = h.early;
  reads = h.reads;
  some = h.some;
  stands = h.stands;
  numbers = h.numbers;
  last = h.last;
  cause = h.cause;
  whose = λ i. ⊎_elim (λ a. inl a) (λ b. inr (⊎_elim (λ c. inl c) (λ d. inr (more h.taken d)) b)) (h.whose i);
}
