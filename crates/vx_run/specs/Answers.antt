-- Which text belongs to which status.
use Rattle.std.specs.Prelude.{◌≡◌, ℕ, ◌+◌, ◌++◌, ◌≤◌, ◌<◌, true, false, List, [], length, codes, Some, IsTrue, Result, Ok, Err}
use Rattle.vx_model.specs.ChunkData.{ChunkData}
use Rattle.vx_model.specs.ValueData.{ValueData}
use Rattle.vx_layout_spec.specs.LayoutTree.{LayoutData}
use Rattle.vx_layout_spec.specs.Rows.{all_there}
use Rattle.vx_plan.specs.PlanData.{Setting, Plan}
use Rattle.vx_plan.specs.SourcePlan.{source_plan, source_values}
use Rattle.vx_plan.specs.Number.{segment_at}
use Rattle.vx_plan.specs.Valid.{Valid}
use Rattle.vx_fault.specs.Fails.{fails_at}
use Rattle.vx_setting.specs.Setting.{real}
use Rattle.vx_compressor_spec.specs.TableImage.{table_image}
use Rattle.vx_machine_state.specs.Images.{images_of}
use Rattle.vx_write.specs.Calls.{reads_in, appends_in, calls_in, misfits}
use Rattle.vx_write.specs.Readable.{IsReadable}
use Rattle.vx_write.specs.Traced.{IsTraced}
use Rattle.vx_write.specs.Written.{Wrote, Halted}
use Rattle.vx_write_answer.specs.declared.step.Step.{Step}
use Rattle.vx_write_answer.specs.declared.error.WriteError.{WriteError}
use Rattle.vx_write_answer.specs.declared.error.WriteError.TheVariants as errors
use Rattle.vx_job.specs.declared.error.Key.{Key}
use Rattle.vx_job.specs.JobParts.{failing}
use Rattle.vx_job.specs.JobText.{JobData}
use Rattle.vx_job.specs.KeyNames.{key_name}
use Rattle.vx_report.specs.Report.{report, refused_report}
use Rattle.vx_report.specs.ZoneText.{zone_tables}
use Rattle.vx_run.specs.Tables.{table_rows}
use Rattle.vx_run.specs.RefusalNames.{refusal_name, is_memory}
use Rattle.vx_run.specs.declared.status.Status.{Status}
use Rattle.vx_run.specs.declared.status.Status.TheVariants.{Done, Usage, BadJob, Refused, InputFault, OutputFault, OutOfMemory}

-- ---- a job

-- what the job lists and allows, with the table of images
abbrev pub job_setting : JobData → Setting
job_setting j = real j.options.encodings j.options.aggregates (images_of table_image)

-- the plan of the job's batches
abbrev pub job_plan : JobData → Plan
job_plan j = source_plan (job_setting j) j.strategy j.schema j.options.marked j.batches true

-- the job's batches are valid, where nothing is held back yet
abbrev pub IsValid : JobData → Type 0
IsValid j = Valid (job_setting j) j.strategy j.schema j.options.marked j.options.next 0 j.batches

-- the job lets no call fail
abbrev pub SetsNoFaults : JobData → Type 0
SetsNoFaults j = j.options.faults ≡ failing [] [] []

-- The job lets none of these calls fail: so many first ones of the source, of the sink, and of the compressor.
pub record NoneFails (j : JobData) (asked appended called : ℕ) : Type 0 where
  pub source : (k : ℕ) → k < asked → ¬ (IsTrue (fails_at j.options.faults.source k))
  pub sink : (k : ℕ) → k < appended → ¬ (IsTrue (fails_at j.options.faults.sink k))
  pub compressor : (k : ℕ) → k < called → ¬ (IsTrue (fails_at j.options.faults.compress k))

-- ---- a job that is written

-- A write of the job came to its end, with this layout, these segments and these steps: those of the plan of the job's batches,
-- numbered from the job's first number, and of their tasks under the job's schedule.
pub record IsWritten (j : JobData) (l : LayoutData ℕ) (stored : List (List ℕ)) (steps : List Step) : Type 0 where
  pub wrote : Wrote j.schema j.options.next (j.options.next + length stored) (Some []) (Some stored) l j.batches (job_plan j)
  -- readers build the layout again, and prune by its zone tables without a loss
  pub readable : IsReadable (job_setting j) j.schema j.options.next stored l
  pub traced : IsTraced (job_setting j) j.strategy j.schema j.options.marked j.options.schedule j.batches steps
  -- a segment each append
  pub appended : length stored ≡ appends_in steps
  -- the source was asked for each batch and for the end, the sink for each segment, and the compressor at each call
  pub calls : NoneFails j (length j.batches + 1) (length stored) (calls_in steps)

-- The report of such a write, with the batches' rows, and the rows of its zone tables, read from the segments.
pub record IsReport (j : JobData) (text : List ℕ) : Type 0 where
  pub layout : LayoutData ℕ
  pub stored : List (List ℕ)
  pub steps : List Step
  pub written : IsWritten j layout stored steps
  pub tables : List (List ValueData)
  pub tables_read : all_there (table_rows (segment_at j.options.next stored) (zone_tables layout)) ≡ Some tables
  pub shown : text ≡ report j.options.next layout stored tables steps (source_values j.batches)

-- ---- a job whose write is refused

-- A fault is that of a call that the job lets fail, the one behind those that were answered; of the source one that would have given a
-- batch, or told the end. Want of memory isn't reported.
abbrev pub IsLet : JobData → ℕ → ℕ → ℕ → WriteError → Type 0
IsLet j asked appended called errors.SourceFault = IsTrue (fails_at j.options.faults.source asked) × (asked ≤ length j.batches)
IsLet j asked appended called errors.SinkFault = IsTrue (fails_at j.options.faults.sink appended)
IsLet j asked appended called errors.CompressFault = IsTrue (fails_at j.options.faults.compress called)
IsLet j asked appended called errors.OutOfMemory = ⊥
IsLet j asked appended called e = Unit {0}

-- A write of the job was refused by this error: these segments stand, behind these steps, and it has its cause in the plan of
-- the batches taken, at the act that the job's schedule picks next.
pub record IsRefused (j : JobData) (e : WriteError) (stand : List (List ℕ)) (steps : List Step) : Type 0 where
  -- the batches that weren't taken
  pub later : List ChunkData
  pub halted : Halted (job_setting j) j.strategy j.schema j.options.marked 0 j.options.next (j.options.next + length stand) (Some j.batches) (Some later) (Some []) (Some stand)
      j.options.schedule steps e
  -- a segment each append
  pub appended : length stand ≡ appends_in steps
  pub calls : NoneFails j (reads_in steps + misfits e) (length stand) (calls_in steps)
  pub let_fail : IsLet j (reads_in steps + misfits e) (length stand) (calls_in steps) e
  pub not_valid : SetsNoFaults j → ¬ (IsValid j)

-- the report of such a write: the refusal's name, the segments that stand, and the steps before
pub record IsRefusal (j : JobData) (text : List ℕ) : Type 0 where
  pub error : WriteError
  pub stand : List (List ℕ)
  pub steps : List Step
  pub refused : IsRefused j error stand steps
  pub shown : text ≡ refused_report (refusal_name error) j.options.next stand steps

-- A write of the job ended early, refused or out of memory.
abbrev pub Halts : JobData → WriteError → List (List ℕ) → List Step → Type 0
Halts j e stand steps = is_memory e ≡ false → IsRefused j e stand steps

-- ---- what is printed

-- what is printed of a job
abbrev pub JobAnswer : JobData → Status → List ℕ → Type 0
JobAnswer j Done text = IsReport j text
JobAnswer j Refused text = IsRefusal j text
JobAnswer j Usage text = ⊥
JobAnswer j BadJob text = ⊥
JobAnswer j InputFault text = ⊥
JobAnswer j OutputFault text = ⊥
JobAnswer j OutOfMemory text = ⊥

abbrev pub bad_job : Key → List ℕ
bad_job key = codes "bad job at " ++ (key_name key ++ codes "\n")

-- one text for one status
abbrev pub IsText : Status → List ℕ → Status → List ℕ → Type 0
IsText wanted line status text = (status ≡ wanted) × (text ≡ line)

-- which text belongs to which status of the command `write`, by the job that the input is or its first key at fault
abbrev pub IsAnswer : Result JobData Key → Status → List ℕ → Type 0
IsAnswer (Err key) status text = IsText BadJob (bad_job key) status text
IsAnswer (Ok j) status text = JobAnswer j status text
