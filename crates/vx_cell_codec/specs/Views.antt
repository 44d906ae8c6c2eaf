-- What the readers return, as contracts see it.
use Rattle.std.specs.Prelude.{◌≡◌, Option, Some, None, Result, Ok, Err}
use Rattle.vx_cell_codec.specs.declared.error.CellError.{CellError}
use Rattle.vx_cell_codec.specs.declared.error.CellError.TheVariants as errors

-- there is nothing to read; memory may run out
abbrev pub Fails : {Y : Type 0} → CellError → Option Y → Type 0
Fails errors.NoCells read = read ≡ None
Fails errors.OutOfMemory read = Unit {0}

-- What a function returned, seen by `view`, is what reading gives, unless memory ran out.
abbrev pub Gives : {X Y : Type 0} → (X → Y) → Result X CellError → Option Y → Type 0
Gives view (Ok x) read = read ≡ Some (view x)
Gives view (Err e) read = Fails e read
