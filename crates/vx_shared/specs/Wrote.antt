-- What a write counts.
use Rattle.std.specs.Prelude.{ℕ, ◌+◌, Bool, false, Result, Ok, Err}
use Rattle.vx_order_answer.specs.Refusal.{is_fault, is_stop}
use Rattle.vx_order_answer.specs.declared.errors.OrderError.{OrderError}
use Rattle.vx_order_answer.specs.declared.receipt.Receipt.{Receipt}

-- only a receipt counts as a write
abbrev pub wrote : ℕ → Result Receipt OrderError → ℕ
wrote n (Ok r) = n + 1
wrote n (Err e) = n

-- whether the sink failed
abbrev pub faulted : Result Receipt OrderError → Bool
faulted (Ok r) = false
faulted (Err e) = is_fault e

-- whether a stop was seen
abbrev pub stopped : Result Receipt OrderError → Bool
stopped (Ok r) = false
stopped (Err e) = is_stop e
