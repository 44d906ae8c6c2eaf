-- What the reader of jobs answers, as contracts see it.
use Rattle.std.specs.Prelude.{◌≡◌, List, ℕ, Result, Ok, Err, Option, Some, None}
use Rattle.std.proofs.Common.{Vec}
use Rattle.std.specs.Global.{Global}
use Rattle.vx_model.specs.declared.text.Text.{Text}
use Rattle.vx_model.specs.TyView.{ty}
use Rattle.vx_strategy.specs.StrategyView.{strategy_data}
use Rattle.vx_job.specs.JobParts.{FailingCalls, failing}
use Rattle.vx_job.specs.JobText.{JobData, JobOptions}
use Rattle.vx_job.specs.declared.error.Key.{Key}
use Rattle.vx_job.specs.declared.error.JobError.{JobError}
use Rattle.vx_job.specs.declared.error.JobError.TheVariants as errors
use Rattle.vx_job.specs.declared.faults.Faults.{Faults}
use Rattle.vx_job.specs.declared.options.Options.{Options}
use Rattle.vx_job.specs.declared.job.Job.{Job}

abbrev pub faults_view : Faults → FailingCalls
faults_view f = failing f.source.items f.sink.items f.compress.items

abbrev pub ids_view : Option (Vec Text Global) → Option (List (List ℕ))
ids_view None = None
ids_view (Some v) = Some v.items

abbrev pub read_view : Options → JobOptions
read_view o = record { schedule = o.schedule.items; encodings = o.encodings; aggregates = ids_view o.aggregates; marked = o.marked; next = o.next; faults = faults_view o.faults }

abbrev pub options_view : Job → JobOptions
options_view j = record { schedule = j.schedule.items; encodings = j.encodings; aggregates = ids_view j.aggregates; marked = j.marked; next = j.next; faults = faults_view j.faults }

abbrev pub job_view : Job → JobData
job_view j = record { schema = ty j.schema; strategy = strategy_data j.strategy; batches = j.batches.items; options = options_view j }

-- the same key at fault; memory may run out
abbrev pub Fails : {Y : Type 0} → JobError → Result Y Key → Type 0
Fails (errors.Wrong key) read = read ≡ Err key
Fails errors.OutOfMemory read = Unit {0}

-- What a function returned, seen by `view`, is what reading gives, unless memory ran out.
abbrev pub Gives : {X Y : Type 0} → (X → Y) → Result X JobError → Result Y Key → Type 0
Gives view (Ok x) read = read ≡ Ok (view x)
Gives view (Err e) read = Fails e read
