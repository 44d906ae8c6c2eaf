-- What a run promises, by what its words ask for.
use Rattle.std.proofs.Common.{◌≡◌, ℕ, ◌+◌, true, false, List, [], ◌∷◌, Option, Some, None, refl, sym, subst, ◌∙◌}
use Rattle.std.specs.Io.KnownBytes.{IsAtEnd}
use Rattle.vx_run.specs.Summary.{summary}
use Rattle.vx_job.specs.JobText.{limit}
use Rattle.vx_run.specs.declared.command.Command.{Command}
use Rattle.vx_run.specs.declared.status.Status.{Status}
use Rattle.vx_run.specs.declared.status.Status.TheVariants.{Done, Usage, BadJob, Refused, InputFault, OutputFault, OutOfMemory}
use Rattle.vx_run.specs.Answers.{IsText}
use Rattle.vx_run.specs.Commands.{command_of, AsksRows, Answers}
use Rattle.vx_run.specs.Running.{usage, is_input_fault, is_output_fault, is_usage, Took, HasRead, has_read, Ends}
use Rattle.vx_run.specs.Runs.{Pipe, FaultTold, most_taken, RunsCommand, Runs}
use Rattle.vx_run.proofs.RunSteps.{took_none, written_or_memory, shown_or_memory, summed_or_memory}

-- by what was taken of the input where it failed, and where it didn't
pub took_most : (status : Status) (a b : Option (List ℕ)) → Took (limit + 1) a b → (is_input_fault status ≡ true → Took limit a b) → Took (most_taken status) a b
took_most InputFault a b took early = early refl
took_most OutputFault a b took early = took
took_most OutOfMemory a b took early = took
took_most Done a b took early = took
took_most Usage a b took early = took
took_most BadJob a b took early = took
took_most Refused a b took early = took

-- a command asks for no table
no_table : (words : List (List ℕ)) (c : Command) (n : ℕ) → Some c ≡ command_of words → AsksRows words n → ⊥
no_table [] c n is asks = asks
no_table (word ∷ []) c n is asks = asks
no_table (word ∷ number ∷ []) c n is asks = let f : Some c ≡ None = is in cc
no_table (word ∷ number ∷ other ∷ words) c n is asks = asks

-- no command is both
some_none : (words : List (List ℕ)) (c : Command) → Some c ≡ command_of words → command_of words ≡ None → ⊥
some_none words c is none = let f : Some c ≡ None = is ∙ none in cc

module _ (words : List (List ℕ)) (input input_then output output_then : Pipe) (status : Status) where
  -- the words are a command
  pub command_runs : (c : Command) → Some c ≡ command_of words → FaultTold input input_then (is_input_fault status) → FaultTold output output_then (is_output_fault status)
      → Took (limit + 1) input.bytes input_then.bytes → (is_input_fault status ≡ true → Took limit input.bytes input_then.bytes)
      → is_usage status ≡ false → (has_read status ≡ true → IsAtEnd input_then.bytes) → (status ≡ BadJob → (bytes : List ℕ) × HasRead input.bytes input_then.bytes bytes)
      → ((bytes : List ℕ) → input.bytes ≡ Some bytes → Ends (Answers c bytes) output.bytes output_then.bytes status) → Runs words input input_then output output_then status
  command_runs c is input_told output_told took early known ended judged ran = record {
    input_told = input_told;
    output_told = output_told;
    took = took_most status input.bytes input_then.bytes took early;
    command = λ d e. subst (λ (k : Command). RunsCommand k input input_then output output_then status) (let f : Some c ≡ Some d = is ∙ e in cc f) own;
    summed = λ n asks. absurd (no_table words c n is asks);
    sums = λ n asks quiet. absurd (no_table words c n is asks);
    used = λ none other. absurd (some_none words c is none);
    unread = λ none. absurd (some_none words c is none);
  }
    where
      answered : (d : Command) → c ≡ d → (bytes : List ℕ) → input.bytes ≡ Some bytes → Ends (Answers d bytes) output.bytes output_then.bytes status
      answered d same bytes told = subst (λ (k : Command). Ends (Answers k bytes) output.bytes output_then.bytes status) same (ran bytes told)

      own : RunsCommand c input input_then output output_then status
      own = record {
        known = known;
        ended = ended;
        judged = judged;
        ran = ran;
        complete = λ bytes j writing told is no_faults valid quiet silent.
            written_or_memory bytes j output.bytes output_then.bytes status input.faults input_then.faults output.faults output_then.faults is no_faults valid
            (answered _ writing bytes told) input_told.counted quiet output_told.counted silent;
        told = λ bytes showing told quiet silent.
            shown_or_memory bytes output.bytes output_then.bytes status input.faults input_then.faults output.faults output_then.faults
            (answered _ showing bytes told) input_told.counted quiet output_told.counted silent;
      }

-- they are none
pub other_runs : (words : List (List ℕ)) (input output output_then : Pipe) (status : Status) → None ≡ command_of words → is_input_fault status ≡ false → FaultTold output output_then (is_output_fault status)
    → (((n : ℕ) → ¬ AsksRows words n) → Ends (IsText Usage usage) output.bytes output_then.bytes status)
    → ((n : ℕ) → AsksRows words n → Ends (IsText Done (summary n)) output.bytes output_then.bytes status) → Runs words input input output output_then status
other_runs words input output output_then status none unread output_told used summed = record {
  input_told = record { counted = rw unread refl; allowed = λ failed. absurd (let f : true ≡ false = sym failed ∙ unread in cc) };
  output_told = output_told;
  took = took_none (most_taken status) input.bytes;
  command = λ c is. absurd (let f : None ≡ Some c = none ∙ is in cc);
  summed = summed;
  sums = λ n asks quiet. summed_or_memory n output.bytes output_then.bytes status output.faults output_then.faults (summed n asks) unread output_told.counted quiet;
  used = λ is other. used other;
  unread = λ is. unread;
}
