-- What a try to write answers.
use Rattle.std.specs.Prelude.{◌≡◌, ℕ, ◌+◌, ◌^◌, ◌<◌, ◌≤◌, ◌⊎◌, Bool, false, List, [], ◌∷◌, ◌++◌, Option, Some, None, IsTrue, Result, Ok, Err}
use Rattle.vx_path.specs.Path.{path_le, path_lt}
use Rattle.vx_fault.specs.Faults.{Called}
use Rattle.vx_order_answer.specs.Refusal.{is_fault, is_stop}
use Rattle.vx_order_answer.specs.declared.errors.OrderError.{OrderError}
use Rattle.vx_order_answer.specs.declared.errors.OrderError.TheVariants.{TooLarge, SinkFault, OutOfMemory, Stopped}
use Rattle.vx_order_answer.specs.declared.errors.WriteErrorName.{WriteErrorName}
use Rattle.vx_order_answer.specs.declared.receipt.Receipt.{Receipt}
use Rattle.vx_order.specs.Answers.{Unasked, TellsRefused, IsLarge}
use Rattle.vx_seats.specs.declared.turn.Turn.{Turn}
use Rattle.vx_seats.specs.declared.turn.Turn.TheVariants.{Written, Waiting}
use Rattle.vx_seats.specs.Fronts.{Fronts, NoneAhead, IsAhead}

-- the column that was refused first, and the name of its refusal
abbrev pub Stop : Type 0
Stop = Option (ℕ × WriteErrorName)

abbrev pub Tried : Type 0
Tried = Result Turn OrderError

-- q is the last path of the history
abbrev pub IsLast : List (List ℕ) → List ℕ → Type 0
IsLast [] q = ⊥
IsLast (p ∷ []) q = q ≡ p
IsLast (p ∷ o ∷ ps) q = IsLast (o ∷ ps) q

-- the path is above the last of the history
abbrev pub IsNew : List (List ℕ) → List ℕ → Type 0
IsNew ps path = (q : List ℕ) → IsLast ps q → IsTrue (path_lt q path)

-- nothing stands in the way of the path
pub record IsFree (stop : Stop) (fronts : Fronts) (written : List (List ℕ)) (column : ℕ) (path : List ℕ) : Type 0 where
  pub goes_on : stop ≡ None
  pub none_ahead : NoneAhead fronts column path
  pub is_new : IsNew written path

-- the path waits for q: the least front of another column, or the last path of the history
abbrev pub WaitsFor : Fronts → List (List ℕ) → ℕ → List ℕ → List ℕ → Type 0
WaitsFor fronts written column path q = IsAhead fronts column path q ⊎ (NoneAhead fronts column path × IsLast written q × IsTrue (path_le path q))

-- the cause of a refusal
abbrev pub Refuses : Stop → Fronts → List (List ℕ) → ℕ → ℕ → List ℕ → OrderError → Type 0
Refuses stop fronts written next column path (TooLarge n) = IsFree stop fronts written column path × (n ≡ next) × (2 ^ 32 ≤ next)
Refuses stop fronts written next column path SinkFault = IsFree stop fronts written column path × (next < 2 ^ 32)
Refuses stop fronts written next column path OutOfMemory = stop ≡ None
Refuses stop fronts written next column path (Stopped by name) = stop ≡ Some (by, name)

-- the cause of each answer; want of memory aside each excludes all others
abbrev pub Answers : Stop → Fronts → List (List ℕ) → ℕ → ℕ → List ℕ → Tried → Type 0
Answers stop fronts written next column path (Ok (Written r)) = IsFree stop fronts written column path × (next < 2 ^ 32) × (r.path ≡ path) × (r.number ≡ next)
Answers stop fronts written next column path (Ok (Waiting q)) = (stop ≡ None) × WaitsFor fronts written column path q
Answers stop fronts written next column path (Err e) = Refuses stop fronts written next column path e

-- the path waits, its number is too large, or it is written; or there was no memory
abbrev pub IsWaiting : Tried → Type 0
IsWaiting (Ok (Written r)) = ⊥
IsWaiting (Ok (Waiting q)) = Unit {0}
IsWaiting (Err e) = e ≡ OutOfMemory

abbrev pub IsTooLarge : Tried → Type 0
IsTooLarge (Ok a) = ⊥
IsTooLarge (Err e) = IsLarge e

abbrev pub IsWritten : Tried → Type 0
IsWritten (Ok (Written r)) = Unit {0}
IsWritten (Ok (Waiting q)) = ⊥
IsWritten (Err e) = e ≡ OutOfMemory

-- whether the sink failed, and whether a stop was seen
abbrev pub is_sink_fault : Tried → Bool
is_sink_fault (Ok a) = false
is_sink_fault (Err e) = is_fault e

abbrev pub is_stopped : Tried → Bool
is_stopped (Ok a) = false
is_stopped (Err e) = is_stop e

-- only what is written ends the history ..
abbrev pub history_after : List Receipt → Tried → List Receipt
history_after rs (Ok (Written r)) = rs ++ r ∷ []
history_after rs (Ok (Waiting q)) = rs
history_after rs (Err e) = rs

-- .. and is counted
abbrev pub writes_after : ℕ → Tried → ℕ
writes_after n (Ok (Written r)) = n + 1
writes_after n (Ok (Waiting q)) = n
writes_after n (Err e) = n

-- a number that is too large is that of a pair
abbrev pub NumberFits : ℕ → ℕ → OrderError → Type 0
NumberFits first pairs (TooLarge n) = (2 ^ 32 ≤ n) × (n < first + pairs)
NumberFits first pairs SinkFault = Unit {0}
NumberFits first pairs OutOfMemory = Unit {0}
NumberFits first pairs (Stopped by name) = Unit {0}

-- no append may fail
abbrev pub NeverFails : (ℕ → Type 0) → Type 0
NeverFails may = (k : ℕ) → ¬ (may k)

-- A try asks the sink where it writes or the sink fails. Where memory ran out it may have.
abbrev pub Tells : ℕ → ℕ → (ℕ → Type 0) → (ℕ → Type 0) → (ℕ → Type 0) → (ℕ → Type 0) → Tried → Type 0
Tells before now may may_then must must_then (Ok (Written r)) = Called before now may may_then must must_then false
Tells before now may may_then must must_then (Ok (Waiting q)) = Unasked before now may may_then must must_then
Tells before now may may_then must must_then (Err e) = TellsRefused before now may may_then must must_then e
