-- What came of a column's worker, and what its seat then counts.
use Rattle.std.specs.Prelude.{◌≡◌, ◌⊎◌, ◌^◌, ◌<◌, ◌≤◌, ℕ, ◌+◌, ◌-◌, Bool, true, false, if◌then◌else◌, List, length, slice_get, Some, Result, Ok, Err}
use Rattle.vx_order_answer.specs.declared.errors.WriteErrorName.{WriteErrorName}
use Rattle.vx_order_answer.specs.Refusal.{once}
use Rattle.vx_fault.specs.Counts.{Rose}
use Rattle.vx_seats.specs.History as seats
use Rattle.vx_seats.specs.Turns.{NeverFails}
use Rattle.vx_write_answer.specs.declared.error.WriteError.{WriteError}
use Rattle.vx_write_answer.specs.declared.error.WriteError.TheVariants.{SinkFault, CompressFault, TooLarge, OutOfMemory, Stopped}
use Rattle.vx_write_answer.specs.Causes.{is_sink_fault, errs}
use Rattle.vx_column_machine.specs.Course.{Course}
use Rattle.vx_column_machine.specs.Causes.{HasCause}

-- ---- why it was refused

-- Why a column was refused: by its own machine, by the shared sink, or since another's refusal ended the write. `shared` tells of a number
-- that is too large for the sink.
abbrev pub WorkerCause : (ℕ → Type 0) → Course → WriteError → Type 0
WorkerCause shared x (TooLarge n) = HasCause x (TooLarge n) ⊎ shared n
WorkerCause shared x SinkFault = Unit {0}
WorkerCause shared x (Stopped by name) = Unit {0}
WorkerCause shared x e = HasCause x e

-- some segment of all columns would have this number, past 32 bits
abbrev pub SharedPast : ℕ → ℕ → ℕ → Type 0
SharedPast first pairs n = (2 ^ 32 ≤ n) × (n < first + pairs)

-- refusals by the shared sink
abbrev pub SinkCause : (ℕ → Type 0) → WriteError → Type 0
SinkCause shared (TooLarge n) = shared n
SinkCause shared SinkFault = Unit {0}
SinkCause shared OutOfMemory = Unit {0}
SinkCause shared (Stopped by name) = Unit {0}
SinkCause shared e = ⊥

-- another's refusal ended the write
abbrev pub is_stopped : WriteError → Bool
is_stopped (Stopped by name) = true
is_stopped e = false

-- ---- what its seat counts

-- the last of the paths may be written, with these bytes
pub record MayWrite (allowed : List seats.Pair) (paths : List (List ℕ)) (bytes : List ℕ) : Type 0 where
  pub path : List ℕ
  pub last : slice_get paths (length paths - 1) ≡ Some path
  pub may : seats.bytes_for allowed path ≡ Some bytes

-- What the seat counts behind a step or all of them: whether the sink failed and whether a stop was seen. It makes none.
pub record SeatTold {A : Type 0} (r : Result A WriteError) (faults faults_now made made_now seen seen_now : ℕ) : Type 0 where
  pub fault : faults_now ≡ once faults (errs is_sink_fault r)
  pub unmade : made_now ≡ made
  pub saw : seen_now ≡ once seen (errs is_stopped r)

-- whether it made a stop: one of its own refusal
abbrev pub made_after : {A : Type 0} → Result A WriteError → ℕ → ℕ
made_after (Ok x) n = n
made_after (Err e) n = if is_stopped e then n else 1

-- What the seat of a refused column counts, where it counted none before: the stop that it saw, or the one that it made, and the sink's
-- fault.
pub record SeatStopped (e : WriteError) (is_fault : Bool) (faults faults_now made made_now seen seen_now : ℕ) : Type 0 where
  pub stopped : (by : ℕ) (name : WriteErrorName) → e ≡ Stopped by name → seen ≡ 0 → seen_now ≡ 1
  pub unmade : (by : ℕ) (name : WriteErrorName) → e ≡ Stopped by name → made_now ≡ made
  pub made_one : ((by : ℕ) (name : WriteErrorName) → e ≡ Stopped by name → ⊥) → made_now ≡ 1
  pub unseen : ((by : ℕ) (name : WriteErrorName) → e ≡ Stopped by name → ⊥) → seen_now ≡ seen
  pub fault : is_fault ≡ true → faults ≡ 0 → faults_now ≡ 1
  pub calm : is_fault ≡ false → faults_now ≡ faults

-- ---- what its compressor counts

-- the compressor failed where the outcome says so, and only there
abbrev pub PressedOnly : {A : Type 0} → ℕ → ℕ → (ℕ → Type 0) → Result A WriteError → Type 0
PressedOnly before now may (Ok x) = now ≡ before
PressedOnly before now may (Err CompressFault) = Rose before now × ¬ (NeverFails may)
PressedOnly before now may (Err e) = now ≡ before
