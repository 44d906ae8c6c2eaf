-- Which message belongs to which end.
use Rattle.std.specs.Prelude.{◌≡◌, ◌==◌, ℕ, ◌⊎◌, List, [], ⊤, Option, Some, None}
use Rattle.std.specs.List.{before_first}
use Rattle.std.specs.Str.{IsUtf8}
use Rattle.vx_run.specs.declared.status.Status.{Status}
use Rattle.vx_run.specs.declared.status.Status.TheVariants as statuses
use Rattle.vx_messages.specs.declared.message.Message.{Message}
use Rattle.vx_messages.specs.declared.message.Message.TheVariants as messages

-- what stands before the first end of a line
abbrev pub first_line : List ℕ → List ℕ
first_line text = before_first (λ b. b == 10) text

-- the first line of an answer, of which the first bytes are these; nothing where they are no UTF-8
abbrev pub IsLine : List ℕ → List ℕ → Type 0
IsLine answer line = (line ≡ first_line answer) ⊎ ((line ≡ []) × ¬ (IsUtf8 answer))

-- the message tells the first line of the answer
abbrev pub Tells : List ℕ → Option Message → Type 0
Tells answer (Some (messages.BadJob line)) = IsLine answer line.now
Tells answer (Some (messages.Refused line)) = IsLine answer line.now
Tells answer m = ⊤

-- what a message is about
abbrev pub status_of : Option Message → Status
status_of None = statuses.Done
status_of (Some messages.Usage) = statuses.Usage
status_of (Some (messages.BadJob line)) = statuses.BadJob
status_of (Some (messages.Refused line)) = statuses.Refused
status_of (Some messages.InputFault) = statuses.InputFault
status_of (Some messages.OutputFault) = statuses.OutputFault
status_of (Some messages.OutOfMemory) = statuses.OutOfMemory

-- the message of a status and the first bytes of its answer
abbrev pub IsMessage : Status → List ℕ → Option Message → Type 0
IsMessage status answer m = (status_of m ≡ status) × Tells answer m
