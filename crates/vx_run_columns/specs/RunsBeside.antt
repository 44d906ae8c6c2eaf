-- What a run of the command `columns` promises, and of the program with it.
use Rattle.std.specs.Prelude.{◌≡◌, ℕ, true, false, List, [], ◌∷◌, Some, Ok, codes}
use Rattle.std.specs.Io.KnownBytes.{IsAtEnd}
use Rattle.vx_job.specs.JobText.{JobData, job}
use Rattle.vx_run.specs.declared.status.Status.{Status}
use Rattle.vx_run.specs.declared.status.Status.TheVariants.{Done, BadJob}
use Rattle.vx_run.specs.Answers.{SetsNoFaults, IsValid}
use Rattle.vx_run.specs.Running.{is_input_fault, is_output_fault, is_usage, Took, HasRead, has_read, Ends}
use Rattle.vx_run.specs.Runs.{Pipe, FaultTold, IsQuiet, most_taken, EndsBy, Runs}
use Rattle.vx_run_columns.specs.BesideAnswers.{HasColumns, IsAnswerBeside}

-- It reads its input, and prints its answer.
pub record RunsBeside (input input_then output output_then : Pipe) (status : Status) : Type 0 where
  pub input_told : FaultTold input input_then (is_input_fault status)
  pub output_told : FaultTold output output_then (is_output_fault status)
  pub took : Took (most_taken status) input.bytes input_then.bytes
  pub known : is_usage status ≡ false
  -- the input was read to its end; where it is no job, to its end or one byte past the limit
  pub ended : has_read status ≡ true → IsAtEnd input_then.bytes
  pub judged : status ≡ BadJob → (bytes : List ℕ) × HasRead input.bytes input_then.bytes bytes
  pub ran : (bytes : List ℕ) → input.bytes ≡ Some bytes → Ends (IsAnswerBeside (job bytes)) output.bytes output_then.bytes status
  -- where nothing fails, a valid job that has columns is written
  pub complete : (bytes : List ℕ) (j : JobData) → input.bytes ≡ Some bytes → job bytes ≡ Ok j → HasColumns j → SetsNoFaults j → IsValid j → IsQuiet input input_then → IsQuiet output output_then
      → EndsBy Done status

abbrev pub asks_columns : List (List ℕ)
asks_columns = codes "columns" ∷ []

-- By the words: those that ask for columns, or others.
pub record RunsAll (words : List (List ℕ)) (input input_then output output_then : Pipe) (status : Status) : Type 0 where
  pub columns : words ≡ asks_columns → RunsBeside input input_then output output_then status
  pub others : (words ≡ asks_columns → ⊥) → Runs words input input_then output output_then status
