-- What the words ask for: a command that reads an input, or the generated table.
use Rattle.std.specs.Prelude.{◌≡◌, ℕ, ◌≤◌, bytes_eq, if◌then◌else◌, List, [], ◌∷◌, codes, decimal, Option, Some, None}
use Rattle.vx_generator_laws.specs.TableWrite.{most_rows}
use Rattle.vx_job.specs.JobText.{job}
use Rattle.vx_job.specs.TreeText.{tree_job}
use Rattle.vx_run.specs.declared.command.Command.{Command}
use Rattle.vx_run.specs.declared.command.Command.TheVariants.{Write, Tree}
use Rattle.vx_run.specs.declared.status.Status.{Status}
use Rattle.vx_run.specs.Answers.{IsAnswer}
use Rattle.vx_run.specs.TreeAnswers.{IsTreeAnswer}

abbrev pub command_named : List ℕ → Option Command
command_named word = if bytes_eq word (codes "write") then Some Write else (if bytes_eq word (codes "tree") then Some Tree else None)

-- the command that the words are
abbrev pub command_of : List (List ℕ) → Option Command
command_of [] = None
command_of (word ∷ []) = command_named word
command_of (word ∷ other ∷ words) = None

-- the word is this number in decimal, from 1 to the most rows that are written
abbrev pub AreRows : List ℕ → ℕ → Type 0
AreRows word n = (word ≡ decimal n) × (1 ≤ n) × (n ≤ most_rows)

-- the words ask for the generated table of so many rows
abbrev pub AsksRows : List (List ℕ) → ℕ → Type 0
AsksRows (word ∷ number ∷ []) n = (word ≡ codes "gen") × AreRows number n
AsksRows words n = ⊥

-- what is told of them: the number, or that there is none
abbrev pub IsNumber : List ℕ → Option ℕ → Type 0
IsNumber word None = (n : ℕ) → ¬ AreRows word n
IsNumber word (Some n) = AreRows word n

abbrev pub TellsRows : List (List ℕ) → Option ℕ → Type 0
TellsRows words None = (n : ℕ) → ¬ AsksRows words n
TellsRows words (Some n) = AsksRows words n

-- which text belongs to which status of a command, by the bytes of its input
abbrev pub Answers : Command → List ℕ → Status → List ℕ → Type 0
Answers Write bytes status text = IsAnswer (job bytes) status text
Answers Tree bytes status text = IsTreeAnswer (tree_job bytes) status text
