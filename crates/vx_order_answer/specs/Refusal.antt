-- What a refusal tells.
use Rattle.std.specs.Prelude.{ℕ, Bool, true, false}
use Rattle.vx_order_answer.specs.declared.errors.OrderError.{OrderError}
use Rattle.vx_order_answer.specs.declared.errors.OrderError.TheVariants.{TooLarge, SinkFault, OutOfMemory, Stopped}

-- whether the sink failed
abbrev pub is_fault : OrderError → Bool
is_fault (TooLarge n) = false
is_fault SinkFault = true
is_fault OutOfMemory = false
is_fault (Stopped by name) = false

-- whether another's refusal ended the whole write
abbrev pub is_stop : OrderError → Bool
is_stop (TooLarge n) = false
is_stop SinkFault = false
is_stop OutOfMemory = false
is_stop (Stopped by name) = true

-- a count of 0 or 1 after an event that may have happened
abbrev pub once : ℕ → Bool → ℕ
once n true = 1
once n false = n
