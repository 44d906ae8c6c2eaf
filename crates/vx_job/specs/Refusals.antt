-- A wrong value as a wrong key.
use Rattle.std.specs.Prelude.{Result, Ok, Err}
use Rattle.vx_json.specs.declared.error.JsonError.{JsonError}
use Rattle.vx_json.specs.declared.error.JsonError.TheVariants as values
use Rattle.vx_job.specs.declared.error.Key.{Key}
use Rattle.vx_job.specs.declared.error.JobError.{JobError}
use Rattle.vx_job.specs.declared.error.JobError.TheVariants.{Wrong, OutOfMemory}

-- what was read at a key
abbrev pub at_key : {X : Type 0} → Key → Result X JsonError → Result X JobError
at_key key (Ok x) = Ok x
at_key key (Err values.Wrong) = Err (Wrong key)
at_key key (Err values.OutOfMemory) = Err OutOfMemory
