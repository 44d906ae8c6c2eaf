-- What is printed of a job that is written by columns, and how such a run ends.
use Rattle.std.proofs.Common.{◌≡◌, ℕ, ◌+◌, true, false, List, Option, Some, Ok, Err, Result, refl, ap, subst, ◌⊎◌}
use Rattle.std.specs.Io.KnownBytes.{IsAtEnd}
use Rattle.serde_json.specs.Data.{Data}
use Rattle.vx_fault.specs.Counts.{Counts, IsCalm}
use Rattle.vx_job.specs.declared.error.Key.{Key}
use Rattle.vx_job.specs.JobText.{JobData, limit, and_then, job_of, job}
use Rattle.vx_run.specs.declared.status.Status.{Status}
use Rattle.vx_run.specs.declared.status.Status.TheVariants.{Done, Usage, BadJob, Refused, InputFault, OutputFault, OutOfMemory}
use Rattle.vx_run.specs.Answers.{SetsNoFaults, IsValid}
use Rattle.vx_run.specs.Running.{HasRead, Took, Finishes, Ends, is_input_fault, is_output_fault, is_usage, has_read}
use Rattle.vx_run.specs.Runs.{Pipe, FaultTold}
use Rattle.vx_run.proofs.Promises.{took_most}
use Rattle.vx_run.proofs.RunSteps.{read_value_is, is_answered, ends_by, known_by, calm_end}
use Rattle.vx_run_columns.specs.BesideAnswers.{HasColumns, JobAnswerBeside, IsAnswerBeside}
use Rattle.vx_run_columns.specs.RunsBeside.{RunsBeside}

-- what was read is what the input tells
answers_told : (before now : Option (List ℕ)) (bytes read : List ℕ) (status : Status) (text : List ℕ) → before ≡ Some bytes → HasRead before now read → IsAnswerBeside (job read) status text → IsAnswerBeside (job bytes) status text
answers_told before now bytes read status text told h answers = subst (λ (d : Result Data Key). IsAnswerBeside (and_then d job_of) status text) (read_value_is before now bytes read told h) answers

-- ---- statuses of answers

answered : (r : Result JobData Key) (status : Status) (text : List ℕ) → IsAnswerBeside r status text → is_answered status ≡ true
unfolding is_answered
answered (Err key) status text h = ap is_answered h.0
answered (Ok j) Done text h = refl
answered (Ok j) Refused text h = refl
answered (Ok j) BadJob text h = refl
answered (Ok j) Usage text h = absurd h
answered (Ok j) InputFault text h = absurd h
answered (Ok j) OutputFault text h = absurd h
answered (Ok j) OutOfMemory text h = absurd h

-- of a valid job that has columns it is that of what is done
valid_done : (j : JobData) (status : Status) (text : List ℕ) → HasColumns j → SetsNoFaults j → IsValid j → JobAnswerBeside j status text → status ≡ Done
valid_done j Done text columns no_faults valid answers = refl
valid_done j Refused text columns no_faults valid answers = absurd (answers.1.refused.not_valid no_faults valid)
valid_done j BadJob text columns no_faults valid answers = absurd (answers.0 columns)
valid_done j Usage text columns no_faults valid answers = absurd answers
valid_done j InputFault text columns no_faults valid answers = absurd answers
valid_done j OutputFault text columns no_faults valid answers = absurd answers
valid_done j OutOfMemory text columns no_faults valid answers = absurd answers

-- ---- how a run ends

pub ends_told : (before_in now_in : Option (List ℕ)) (bytes read : List ℕ) (status : Status) (text : List ℕ) (before now : Option (List ℕ)) (result : Status) → before_in ≡ Some bytes → HasRead before_in now_in read
    → IsAnswerBeside (job read) status text → Finishes status text before now result → Ends (IsAnswerBeside (job bytes)) before now result
ends_told before_in now_in bytes read status text before now result told h answers finishes =
    let all = answers_told before_in now_in bytes read status text told h answers in
    ends_by (IsAnswerBeside (job bytes)) status text before now result (answered (job bytes) status text all) all finishes

pub ends_known : (read : List ℕ) (status : Status) (text : List ℕ) (before now : Option (List ℕ)) (result : Status) → IsAnswerBeside (job read) status text → Finishes status text before now result → is_usage result ≡ false
ends_known read status text before now result answers finishes = known_by status text before now result (answered (job read) status text answers) finishes

-- an answer is no fault of the output
pub no_output_fault : (r : Result JobData Key) (status : Status) (text : List ℕ) → IsAnswerBeside r status text → is_output_fault status ≡ false
no_output_fault (Err key) status text h = ap is_output_fault h.0
no_output_fault (Ok j) Done text h = refl
no_output_fault (Ok j) Refused text h = refl
no_output_fault (Ok j) BadJob text h = refl
no_output_fault (Ok j) Usage text h = absurd h
no_output_fault (Ok j) InputFault text h = absurd h
no_output_fault (Ok j) OutputFault text h = absurd h
no_output_fault (Ok j) OutOfMemory text h = absurd h

done_or_memory : (bytes : List ℕ) (j : JobData) (before now : Option (List ℕ)) (result : Status) (ins ins_now outs outs_now : ℕ) → job bytes ≡ Ok j → HasColumns j → SetsNoFaults j → IsValid j
    → Ends (IsAnswerBeside (job bytes)) before now result → Counts ins ins_now (is_input_fault result) → IsCalm ins ins_now → Counts outs outs_now (is_output_fault result) → IsCalm outs outs_now
    → (result ≡ Done) ⊎ (result ≡ OutOfMemory)
done_or_memory bytes j before now result ins ins_now outs outs_now is columns no_faults valid =
    calm_end (IsAnswerBeside (job bytes)) Done
    (λ status text answers. valid_done j status text columns no_faults valid (subst (λ (k : Result JobData Key). IsAnswerBeside k status text) is answers))
    before now result ins ins_now outs outs_now

pub beside_runs : (input input_then output output_then : Pipe) (status : Status) → FaultTold input input_then (is_input_fault status) → FaultTold output output_then (is_output_fault status)
    → Took (limit + 1) input.bytes input_then.bytes → (is_input_fault status ≡ true → Took limit input.bytes input_then.bytes)
    → is_usage status ≡ false → (has_read status ≡ true → IsAtEnd input_then.bytes) → (status ≡ BadJob → (bytes : List ℕ) × HasRead input.bytes input_then.bytes bytes)
    → ((bytes : List ℕ) → input.bytes ≡ Some bytes → Ends (IsAnswerBeside (job bytes)) output.bytes output_then.bytes status) → RunsBeside input input_then output output_then status
beside_runs input input_then output output_then status input_told output_told took early known ended judged ran = record {
  input_told = input_told;
  output_told = output_told;
  took = took_most status input.bytes input_then.bytes took early;
  known = known;
  ended = ended;
  judged = judged;
  ran = ran;
  complete = λ bytes j told is columns no_faults valid quiet silent.
      done_or_memory bytes j output.bytes output_then.bytes status input.faults input_then.faults output.faults output_then.faults is columns no_faults valid
      (ran bytes told) input_told.counted quiet output_told.counted silent;
}
