-- How each column of a write by columns ended, and which refusal is told.
use Rattle.std.specs.Prelude.{◌≡◌, ◌⊎◌, ℕ, Bool, true, if◌then◌else◌, List, [], ◌∷◌, length, Option, Some, None, slice_get}
use Rattle.vx_model.specs.Ty.{Ty}
use Rattle.vx_model.specs.ChunkData.{ChunkData}
use Rattle.vx_fault.specs.Counts.{Rose}
use Rattle.vx_seats.specs.Turns.{NeverFails}
use Rattle.vx_strategy_spec.specs.StrategyData.{StrategyData}
use Rattle.vx_plan.specs.PlanData.{Setting}
use Rattle.vx_plan.specs.SourcePlan.{source_plan}
use Rattle.vx_plan.specs.Valid.{Fit}
use Rattle.vx_column_worker.specs.Course.{Course, plan_of}
use Rattle.vx_column_worker.specs.Worked.{WorkerCause, SharedPast}
use Rattle.vx_write_answer.specs.declared.error.WriteError.{WriteError}
use Rattle.vx_write_answer.specs.declared.error.WriteError.TheVariants.{SinkFault, CompressFault}
use Rattle.vx_write_columns.specs.Beside.{courses_at}
use Rattle.vx_write_columns.specs.Numbers.{is_stop}

-- nothing where the column was written to its end; else its refusal, which is a stop where another's refusal ended it
abbrev pub End : Type 0
End = Option WriteError

-- Written, its plan has no fault and all that it counts fits; refused, the refusal has its cause there. `shared` tells of a number that
-- is too large for the sink.
abbrev pub MayEnd : (ℕ → Type 0) → Course → End → Type 0
MayEnd shared x None = ((plan_of x).faults ≡ []) × Fit (plan_of x).numbers
MayEnd shared x (Some e) = WorkerCause shared x e

-- each column ended so, in order
abbrev pub AllEnd : (ℕ → Type 0) → List Course → List End → Type 0
AllEnd shared [] [] = Unit {0}
AllEnd shared (x ∷ xs) (o ∷ ends) = MayEnd shared x o × AllEnd shared xs ends
AllEnd shared xs ends = ⊥

-- the first refusal, in order, that isn't a stop
abbrev pub first_refusal : List End → Option WriteError
first_refusal [] = None
first_refusal (None ∷ ends) = first_refusal ends
first_refusal (Some e ∷ ends) = if is_stop e then first_refusal ends else Some e

-- These columns ended so, and their first refusal is told. `tells` says what else there is of their ends.
pub record IsFirstOf (shared : ℕ → Type 0) (tells : List End → Type 0) (xs : List Course) (e : WriteError) : Type 0 where
  pub ends : List End
  pub all : AllEnd shared xs ends
  pub told : tells ends
  pub first_is : first_refusal ends ≡ Some e

-- of the columns of all batches, once they were taken
abbrev pub IsFirstRefusal : Setting → StrategyData → Ty → Bool → ℕ → (List End → Type 0) → List ChunkData → WriteError → Type 0
IsFirstRefusal s w t m first tells taken e = IsFirstOf (SharedPast first (length (source_plan s w t m taken true).pairs)) tells (courses_at s w t m taken) e

-- ---- what failed

-- some column ended with this refusal
abbrev pub IsEnd : WriteError → List End → Type 0
IsEnd e ends = (k : ℕ) × (slice_get ends k ≡ Some (Some e))

-- the column's compressor failed where its end says so, and only there
abbrev pub EndPressed : ℕ → ℕ → (ℕ → Type 0) → End → Type 0
EndPressed before now may (Some CompressFault) = Rose before now × ¬ (NeverFails may)
EndPressed before now may o = now ≡ before

abbrev pub AllPressed : {C : Type 0} → (C → ℕ) → (C → ℕ → Type 0) → List C → List C → List End → Type 0
AllPressed faults may [] [] [] = Unit {0}
AllPressed faults may (b ∷ bs) (n ∷ ns) (o ∷ ends) = EndPressed (faults b) (faults n) (may b) o × AllPressed faults may bs ns ends
AllPressed faults may bs ns ends = ⊥

-- Whether the sink failed, and which of the compressors did, of those that are handed back.
pub record EndsTell {C : Type 0} (sink sink_now : ℕ) (sink_may : ℕ → Type 0) (faults : C → ℕ) (may : C → ℕ → Type 0) (lent returned : List C) (ends : List End) : Type 0 where
  pub sink_failed : IsEnd SinkFault ends → Rose sink sink_now × ¬ (NeverFails sink_may)
  pub sink_kept : IsEnd SinkFault ends ⊎ (sink_now ≡ sink)
  pub pressed : AllPressed faults may lent returned ends
