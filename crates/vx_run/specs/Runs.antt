-- What a run of the program promises, by its words, its input and its output, and the status that it ends with.
use Rattle.std.specs.Prelude.{◌≡◌, ℕ, ◌+◌, ◌⊎◌, Bool, true, false, List, Option, Some, None, Ok}
use Rattle.std.specs.Io.KnownBytes.{IsAtEnd}
use Rattle.vx_fault.specs.Counts.{Counts, IsCalm}
use Rattle.vx_run.specs.Summary.{summary}
use Rattle.vx_job.specs.JobText.{JobData, job, limit}
use Rattle.vx_job.specs.TreeText.{tree_job}
use Rattle.vx_run.specs.declared.command.Command.{Command}
use Rattle.vx_run.specs.declared.command.Command.TheVariants.{Write, Tree}
use Rattle.vx_run.specs.declared.status.Status.{Status}
use Rattle.vx_run.specs.declared.status.Status.TheVariants.{Done, Usage, BadJob, InputFault, OutOfMemory}
use Rattle.vx_run.specs.Answers.{IsText, SetsNoFaults, IsValid}
use Rattle.vx_run.specs.TreeAnswers.{tree_status}
use Rattle.vx_run.specs.Commands.{command_of, AsksRows, Answers}
use Rattle.vx_run.specs.Running.{usage, is_input_fault, is_output_fault, is_usage, MayFail, Took, HasRead, has_read, Ends}

-- The program's input or its output, as it tells itself: how often it failed, which calls may fail, and its bytes, those to come or those
-- written, where it tells them.
pub record Pipe : Type 1 where
  pub faults : ℕ
  pub may_fail : ℕ → Type 0
  pub bytes : Option (List ℕ)

-- as it stands, by what it tells
abbrev pub pipe_at : {A : Type 0} → (A → ℕ) → (A → ℕ → Type 0) → (A → Option (List ℕ)) → A → Pipe
pipe_at faults may_fail bytes x = record { faults = faults x; may_fail = may_fail x; bytes = bytes x }

-- a fault is told by its count, and comes only where some call may fail
pub record FaultTold (before now : Pipe) (failed : Bool) : Type 0 where
  pub counted : Counts before.faults now.faults failed
  pub allowed : failed ≡ true → MayFail before.may_fail

-- no call failed
abbrev pub IsQuiet : Pipe → Pipe → Type 0
IsQuiet before now = IsCalm before.faults now.faults

-- one byte past the limit is taken at most, and where the input fails not even that
abbrev pub most_taken : Status → ℕ
most_taken InputFault = limit
most_taken s = limit + 1

-- the status is this one, or memory ran out
abbrev pub EndsBy : Status → Status → Type 0
EndsBy wanted status = (status ≡ wanted) ⊎ (status ≡ OutOfMemory)

-- A command reads its input, and prints its answer.
pub record RunsCommand (c : Command) (input input_then output output_then : Pipe) (status : Status) : Type 0 where
  pub known : is_usage status ≡ false
  -- the input was read to its end; where it is no job, to its end or one byte past the limit
  pub ended : has_read status ≡ true → IsAtEnd input_then.bytes
  pub judged : status ≡ BadJob → (bytes : List ℕ) × HasRead input.bytes input_then.bytes bytes
  pub ran : (bytes : List ℕ) → input.bytes ≡ Some bytes → Ends (Answers c bytes) output.bytes output_then.bytes status
  -- where nothing fails, a valid job is written, and a layout is shown
  pub complete : (bytes : List ℕ) (j : JobData) → c ≡ Write → input.bytes ≡ Some bytes → job bytes ≡ Ok j → SetsNoFaults j → IsValid j → IsQuiet input input_then → IsQuiet output output_then → EndsBy Done status
  pub told : (bytes : List ℕ) → c ≡ Tree → input.bytes ≡ Some bytes → IsQuiet input input_then → IsQuiet output output_then → EndsBy (tree_status (tree_job bytes)) status

-- What a run does to its input and its output, before it and then, and how it ends.
pub record Runs (words : List (List ℕ)) (input input_then output output_then : Pipe) (status : Status) : Type 0 where
  pub input_told : FaultTold input input_then (is_input_fault status)
  pub output_told : FaultTold output output_then (is_output_fault status)
  pub took : Took (most_taken status) input.bytes input_then.bytes
  -- words that are a command
  pub command : (c : Command) → command_of words ≡ Some c → RunsCommand c input input_then output output_then status
  -- words that ask for the generated table, of which the summary is printed
  pub summed : (n : ℕ) → AsksRows words n → Ends (IsText Done (summary n)) output.bytes output_then.bytes status
  pub sums : (n : ℕ) → AsksRows words n → IsQuiet output output_then → EndsBy Done status
  -- other words
  pub used : command_of words ≡ None → ((n : ℕ) → ¬ AsksRows words n) → Ends (IsText Usage usage) output.bytes output_then.bytes status
  -- no input is read for words that are no command
  pub unread : command_of words ≡ None → is_input_fault status ≡ false
