-- The first of two faults.
use Rattle.std.specs.Prelude.{Option, Some, None}

-- the first of two that there is
abbrev pub first_of : {A : Type 0} → Option A → Option A → Option A
first_of None later = later
first_of (Some x) later = Some x
