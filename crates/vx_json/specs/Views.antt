-- What the readers return, as contracts see it.
use Rattle.std.specs.Prelude.{◌≡◌, Option, Some, None, Result, Ok, Err}
use Rattle.vx_json.specs.declared.error.JsonError.{JsonError}
use Rattle.vx_json.specs.declared.error.JsonError.TheVariants as errors

-- there is nothing to read; memory may run out
abbrev pub Fails : {Y : Type 0} → JsonError → Option Y → Type 0
Fails errors.Wrong read = read ≡ None
Fails errors.OutOfMemory read = Unit {0}

-- What a function returned, seen by `view`, is what reading gives, unless memory ran out.
abbrev pub Gives : {X Y : Type 0} → (X → Y) → Result X JsonError → Option Y → Type 0
Gives view (Ok x) read = read ≡ Some (view x)
Gives view (Err e) read = Fails e read
