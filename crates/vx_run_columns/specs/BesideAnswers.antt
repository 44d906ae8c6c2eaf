-- Which text belongs to which status of the command `columns`.
use Rattle.std.specs.Prelude.{◌≡◌, ℕ, ◌+◌, ◌<◌, ◌≤◌, false, List, [], ◌∷◌, length, Some, IsTrue, Result, Ok, Err}
use Rattle.vx_model.specs.ChunkData.{ChunkData}
use Rattle.vx_model.specs.ValueData.{ValueData}
use Rattle.vx_layout_spec.specs.LayoutTree.{LayoutData}
use Rattle.vx_layout_spec.specs.Rows.{all_there}
use Rattle.vx_plan.specs.SourcePlan.{source_values}
use Rattle.vx_plan.specs.Number.{segment_at}
use Rattle.vx_fault.specs.Fails.{fails_at}
use Rattle.vx_job.specs.declared.error.Key.{Key}
use Rattle.vx_job.specs.declared.error.Key.TheVariants as keys
use Rattle.vx_job.specs.JobText.{JobData}
use Rattle.vx_report.specs.Report.{columns_report, refused_columns}
use Rattle.vx_report.specs.ZoneText.{zone_tables}
use Rattle.vx_write_columns.specs.ColumnCount.{column_count}
use Rattle.vx_write_columns.specs.Readable.{IsReadable}
use Rattle.vx_write_columns.specs.Written.{Wrote}
use Rattle.vx_write_answer.specs.declared.error.WriteError.{WriteError}
use Rattle.vx_write_answer.specs.declared.error.WriteError.TheVariants as errors
use Rattle.vx_write_columns.specs.Beside.{PassesBeside}
use Rattle.vx_write_columns.specs.Ends.{End, IsFirstRefusal}
use Rattle.vx_write_columns.specs.Stopped.{ColumnsHalted}
use Rattle.vx_run.specs.Answers.{job_setting, job_plan, IsValid, SetsNoFaults, IsText, bad_job}
use Rattle.vx_run.specs.RefusalNames.{refusal_name, is_memory}
use Rattle.vx_run.specs.Tables.{table_rows}
use Rattle.vx_run.specs.declared.status.Status.{Status}
use Rattle.vx_run.specs.declared.status.Status.TheVariants.{Done, Usage, BadJob, Refused, InputFault, OutputFault, OutOfMemory}

-- a job whose strategy writes its schema column by column, at least one
abbrev pub HasColumns : JobData → Type 0
HasColumns j = (n : ℕ) × (0 < n) × (column_count j.strategy j.schema ≡ Some n)

-- the source fails at this call
abbrev pub FailsReading : JobData → ℕ → Type 0
FailsReading j k = IsTrue (fails_at j.options.faults.source k)

-- ---- a job that is written

-- A write by columns of the job came to its end, with this layout and these segments: those of the plan of the job's batches, numbered
-- from the job's first number.
pub record IsWrittenBeside (j : JobData) (l : LayoutData ℕ) (stored : List (List ℕ)) : Type 0 where
  pub wrote : Wrote j.schema j.options.next (j.options.next + length stored) (Some []) (Some stored) l j.batches (job_plan j)
  -- readers build the layout again, and prune by its zone tables without a loss
  pub readable : IsReadable (job_setting j) j.schema j.options.next stored l
  -- the source was asked for each batch and for the end
  pub asked : (k : ℕ) → k < length j.batches + 1 → ¬ (FailsReading j k)

-- The report of such a write, with the batches' rows, and the rows of its zone tables, read from the segments.
pub record IsReportBeside (j : JobData) (text : List ℕ) : Type 0 where
  pub layout : LayoutData ℕ
  pub stored : List (List ℕ)
  pub written : IsWrittenBeside j layout stored
  pub tables : List (List ValueData)
  pub tables_read : all_there (table_rows (segment_at j.options.next stored) (zone_tables layout)) ≡ Some tables
  pub shown : text ≡ columns_report j.options.next layout stored tables (source_values j.batches)

-- ---- a job whose write is refused

-- A fault is that of an object that the job lets fail: of the source at the call behind the batches taken, of the sink and of a
-- compressor at some call. Want of memory isn't reported.
abbrev pub IsLetBeside : JobData → ℕ → WriteError → Type 0
IsLetBeside j taken errors.SourceFault = FailsReading j taken × (taken ≤ length j.batches)
IsLetBeside j taken errors.SinkFault = (k : ℕ) × IsTrue (fails_at j.options.faults.sink k)
IsLetBeside j taken errors.CompressFault = (k : ℕ) × IsTrue (fails_at j.options.faults.compress k)
IsLetBeside j taken errors.OutOfMemory = ⊥
IsLetBeside j taken e = Unit {0}

-- so is a fault that ended a column
abbrev pub IsLetEnd : JobData → End → Type 0
IsLetEnd j (Some errors.SinkFault) = (k : ℕ) × IsTrue (fails_at j.options.faults.sink k)
IsLetEnd j (Some errors.CompressFault) = (k : ℕ) × IsTrue (fails_at j.options.faults.compress k)
IsLetEnd j o = Unit {0}

abbrev pub AllLetEnd : JobData → List End → Type 0
AllLetEnd j [] = Unit {0}
AllLetEnd j (o ∷ ends) = IsLetEnd j o × AllLetEnd j ends

-- the refusal is the first of the columns of these batches
abbrev pub IsFirstBeside : JobData → List ChunkData → WriteError → Type 0
IsFirstBeside j taken e = IsFirstRefusal (job_setting j) j.strategy j.schema j.options.marked j.options.next (AllLetEnd j) taken e

-- A write by columns of the job was refused by this error, which has its cause in the plan of the batches taken; these segments of it
-- stand. A column's refusal is the first, in order, that isn't a stop by another's.
pub record IsRefusedBeside (j : JobData) (e : WriteError) (stand : List (List ℕ)) : Type 0 where
  -- the batches that weren't taken
  pub later : List ChunkData
  -- how often the source failed
  pub faults : ℕ
  pub halted : ColumnsHalted (job_setting j) j.strategy j.schema j.options.marked (PassesBeside (job_setting j) j.strategy j.schema j.options.marked) (IsFirstBeside j)
      j.options.next (j.options.next + length stand) 0 faults (FailsReading j) (FailsReading j) (Some j.batches) (Some later) (Some []) (Some stand) e
  pub let_fail : IsLetBeside j (length halted.taken) e
  pub not_valid : SetsNoFaults j → ¬ (IsValid j)

-- A write by columns ended early, refused or out of memory.
abbrev pub HaltsBeside : JobData → WriteError → List (List ℕ) → Type 0
HaltsBeside j e stand = is_memory e ≡ false → IsRefusedBeside j e stand

-- the report of such a write: the error's name, and the segments that stand
pub record IsRefusalBeside (j : JobData) (text : List ℕ) : Type 0 where
  pub error : WriteError
  pub stand : List (List ℕ)
  pub refused : IsRefusedBeside j error stand
  pub shown : text ≡ refused_columns (refusal_name error) j.options.next stand

-- ---- what is printed

-- what is printed of a job
abbrev pub JobAnswerBeside : JobData → Status → List ℕ → Type 0
JobAnswerBeside j Done text = HasColumns j × IsReportBeside j text
JobAnswerBeside j Refused text = HasColumns j × IsRefusalBeside j text
JobAnswerBeside j BadJob text = (HasColumns j → ⊥) × (text ≡ bad_job keys.Strategy)
JobAnswerBeside j Usage text = ⊥
JobAnswerBeside j InputFault text = ⊥
JobAnswerBeside j OutputFault text = ⊥
JobAnswerBeside j OutOfMemory text = ⊥

-- by the job that the input is, or its first key at fault
abbrev pub IsAnswerBeside : Result JobData Key → Status → List ℕ → Type 0
IsAnswerBeside (Err key) status text = IsText BadJob (bad_job key) status text
IsAnswerBeside (Ok j) status text = JobAnswerBeside j status text
