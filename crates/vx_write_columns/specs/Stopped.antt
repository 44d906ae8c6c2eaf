-- What a refused write by columns leaves, and why it was refused.
use Rattle.std.specs.Prelude.{◌≡◌, ◌⊎◌, ℕ, ◌+◌, ◌^◌, ◌<◌, ◌≤◌, max, Bool, true, false, List, [], ◌∷◌, map, length, Option, Some, slice_get}
use Rattle.vx_model.specs.Ty.{Ty}
use Rattle.vx_model.specs.ChunkData.{ChunkData, piece_type}
use Rattle.vx_path.specs.Lists.{In}
use Rattle.vx_fault.specs.Counts.{Rose, IsCalm}
use Rattle.vx_fault.specs.Faults.{FaultsTold}
use Rattle.vx_fault.specs.Told.{before_told, then_told, NoneTold}
use Rattle.vx_seats.specs.Turns.{NeverFails}
use Rattle.vx_strategy_spec.specs.StrategyData.{StrategyData}
use Rattle.vx_plan.specs.PlanData.{Setting, Plan, row_totals}
use Rattle.vx_plan.specs.SourcePlan.{batch_items, taken_plan}
use Rattle.vx_plan.specs.Valid.{IsPast}
use Rattle.vx_column_plan.specs.Shared.{AreSome}
use Rattle.vx_write_answer.specs.declared.error.WriteError.{WriteError}
use Rattle.vx_write_answer.specs.declared.error.WriteError.TheVariants.{SourceFault, SinkFault, CompressFault, BatchType, TooLarge, OutOfMemory}
use Rattle.vx_write_answer.specs.Causes.{is_source_fault}
use Rattle.vx_write.specs.Written.{HasCause}
use Rattle.vx_column_inputs.specs.Reading.{SourceTold}
use Rattle.vx_column_inputs.specs.Prepared.{SplitStops}

-- a number that doesn't fit 32 bits, and is below the first number and as many as the plan has segments
abbrev pub IsNumberPast : ℕ → Plan → ℕ → Type 0
IsNumberPast first p n = (2 ^ 32 ≤ n) × (n < first + length p.pairs)

-- The cause of an error, by the plan of the batches taken: as of a write by one machine, but for numbers. `passes` says what the
-- tracker of a column's worker would count, past 64 bits.
abbrev pub HasColumnsCause : Ty → (ℕ → Type 0) → Plan → List ChunkData → ℕ → WriteError → Type 0
HasColumnsCause t passes p taken first (TooLarge n) = IsNumberPast first p n ⊎ IsPast n p.numbers ⊎ passes n
HasColumnsCause t passes p taken first e = HasCause t passes p taken first 0 e

-- the reading of the source was refused
abbrev pub StopsReading : WriteError → Type 0
StopsReading SourceFault = Unit {0}
StopsReading (BatchType c) = Unit {0}
StopsReading OutOfMemory = Unit {0}
StopsReading e = ⊥

-- the source's own refusal, which comes before its end
abbrev pub OfReading : WriteError → Type 0
OfReading SourceFault = Unit {0}
OfReading (BatchType c) = Unit {0}
OfReading e = ⊥

-- after Ok all was read
abbrev pub ReadWhole : ℕ → ℕ → (ℕ → Type 0) → (ℕ → Type 0) → Option (List ChunkData) → Option (List ChunkData) → Type 0
ReadWhole faults faults_now may must to_come to_come_now = (taken : List ChunkData) × SourceTold faults faults_now may must to_come to_come_now taken true false

-- What stands: segments of the plan of the batches taken, in ascending order of their paths; and the cause. Before the source's end
-- nothing is written, and all that is refused then is the reading. `columns` says of the batches taken whose the refusal is.
pub record ColumnsHalted (s : Setting) (w : StrategyData) (t : Ty) (m : Bool) (passes : List ChunkData → ℕ → Type 0) (columns : List ChunkData → WriteError → Type 0) (first next : ℕ)
    (faults faults_now : ℕ) (may must : ℕ → Type 0) (to_come to_come_now : Option (List ChunkData)) (before now : Option (List (List ℕ))) (e : WriteError) : Type 0 where
  pub taken : List ChunkData
  pub heard : Bool
  pub told : SourceTold faults faults_now may must to_come to_come_now taken heard (is_source_fault e)
  pub stood : List (List ℕ)
  pub early : heard ≡ false → StopsReading e × (stood ≡ [])
  pub reads : OfReading e → heard ≡ false
  pub some : AreSome (taken_plan s w t m taken heard) stood
  pub stands : now ≡ then_told before stood
  pub numbers : next ≡ first + length stood
  -- no segment has a number past 32 bits
  pub last : next ≤ max first (2 ^ 32)
  pub cause : HasColumnsCause t (passes taken) (taken_plan s w t m taken heard) taken first e
  -- behind the source's end: want of memory, a refusal of all batches before any is written, or that of a column
  pub whose : heard ≡ true → (e ≡ OutOfMemory) ⊎ (SplitStops t taken e × (stood ≡ [])) ⊎ columns taken e

-- ---- faults

-- a sink that is handed back failed
abbrev pub SinkFailed : ℕ → ℕ → (ℕ → Type 0) → Type 0
SinkFailed before now may = Rose before now × ¬ (NeverFails may)

-- one of the compressors that are handed back did
pub record CompressorFailed {C : Type 0} (faults : C → ℕ) (may : C → ℕ → Type 0) (before now : List C) : Type 0 where
  pub place : ℕ
  pub was : C
  pub is : C
  pub lent : slice_get before place ≡ Some was
  pub back : slice_get now place ≡ Some is
  pub rose : Rose (faults was) (faults is)
  pub may_fail : ¬ (NeverFails (may was))

-- its count is as before, or it failed where it might
abbrev pub KeptOrFailed : ℕ → ℕ → (ℕ → Type 0) → Type 0
KeptOrFailed before now may = (now ≡ before) ⊎ (Rose before now × ¬ (NeverFails may))

abbrev pub AllKeptOrFailed : {C : Type 0} → (C → ℕ) → (C → ℕ → Type 0) → List C → List C → Type 0
AllKeptOrFailed faults may [] [] = Unit {0}
AllKeptOrFailed faults may (b ∷ bs) (n ∷ ns) = KeptOrFailed (faults b) (faults n) (may b) × AllKeptOrFailed faults may bs ns
AllKeptOrFailed faults may bs ns = ⊥

-- none of them did, nor stands at its last value
abbrev pub AllCalm : {C : Type 0} → (C → ℕ) → List C → List C → Type 0
AllCalm faults [] [] = Unit {0}
AllCalm faults (b ∷ bs) (n ∷ ns) = IsCalm (faults b) (faults n) × AllCalm faults bs ns
AllCalm faults bs ns = ⊥

-- no count of theirs changed
abbrev pub AllKept : {C : Type 0} → (C → ℕ) → List C → List C → Type 0
AllKept faults before now = map faults now ≡ map faults before

-- What failed of sink and compressors, of those that are handed back: that which the error says, and no other but where it might.
pub record Failed {C : Type 0} (before now : ℕ) (may_fail : ℕ → Type 0) (faults : C → ℕ) (may : C → ℕ → Type 0) (lent returned : List C) (e : WriteError) : Type 0 where
  pub sink : e ≡ SinkFault → SinkFailed before now may_fail
  pub sink_told : KeptOrFailed before now may_fail
  pub compressor : e ≡ CompressFault → CompressorFailed faults may lent returned
  pub compressors_told : AllKeptOrFailed faults may lent returned

-- ---- what is handed back

-- the sink on the same borrow, and as many compressors, each of its kind
pub record IsBack {S C : Type 0} (borrow : S → ℕ) (kind : C → ℕ) (sink back : S) (lent returned : List C) : Type 0 where
  pub borrow_is : borrow back ≡ borrow sink
  pub kinds_are : map kind returned ≡ map kind lent
