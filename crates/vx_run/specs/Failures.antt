-- Failures of inputs and outputs.
use Rattle.std.specs.Prelude.{Bool, true, false, Result, Ok, Err}
use Rattle.vx_run.specs.declared.input.InputFailure.{InputFailure}
use Rattle.vx_run.specs.declared.input.InputFailure.TheVariants as input
use Rattle.vx_run.specs.declared.output.OutputFailure.{OutputFailure}
use Rattle.vx_run.specs.declared.output.OutputFailure.TheVariants as output

abbrev pub input_failed : {A : Type 0} → Result A InputFailure → Bool
input_failed (Ok n) = false
input_failed (Err input.Failed) = true
input_failed (Err input.OutOfMemory) = false

abbrev pub output_failed : {A : Type 0} → Result A OutputFailure → Bool
output_failed (Ok n) = false
output_failed (Err output.Failed) = true
output_failed (Err output.OutOfMemory) = false
