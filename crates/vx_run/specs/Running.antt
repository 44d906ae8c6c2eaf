-- What a run of the program does.
use Rattle.std.specs.Prelude.{◌≡◌, ℕ, ◌+◌, ◌≤◌, ◌⊎◌, Bool, true, false, List, codes, length, take, Option}
use Rattle.std.specs.Io.KnownBytes.{Keeps, Appends, Consumes, IsAtEnd}
use Rattle.vx_job.specs.JobText.{limit}
use Rattle.vx_run.specs.declared.status.Status.{Status}
use Rattle.vx_run.specs.declared.status.Status.TheVariants.{Done, Usage, BadJob, Refused, InputFault, OutputFault, OutOfMemory}

abbrev pub usage : List ℕ
usage = codes "usage: vx_tool write | gen N | tree | columns\n"

abbrev pub is_input_fault : Status → Bool
is_input_fault InputFault = true
is_input_fault s = false

abbrev pub is_usage : Status → Bool
is_usage Usage = true
is_usage s = false

abbrev pub is_output_fault : Status → Bool
is_output_fault OutputFault = true
is_output_fault s = false

-- a front of a text that is an answer was written
pub record WroteFront (P : Status → List ℕ → Type 0) (before now : Option (List ℕ)) : Type 0 where
  pub status : Status
  pub text : List ℕ
  pub answers : P status text
  pub count : ℕ
  pub wrote : Appends before now (take count text)

-- a text that is an answer of this status was written
pub record WroteAll (P : List ℕ → Type 0) (before now : Option (List ℕ)) : Type 0 where
  pub text : List ℕ
  pub answers : P text
  pub wrote : Appends before now text

-- what was written when the program ends with a status; P says which text belongs to which status
abbrev pub Ends : (Status → List ℕ → Type 0) → Option (List ℕ) → Option (List ℕ) → Status → Type 0
Ends P before now InputFault = Keeps before now
Ends P before now OutputFault = WroteFront P before now
Ends P before now OutOfMemory = Keeps before now ⊎ WroteFront P before now
Ends P before now Done = WroteAll (P Done) before now
Ends P before now Usage = WroteAll (P Usage) before now
Ends P before now BadJob = WroteAll (P BadJob) before now
Ends P before now Refused = WroteAll (P Refused) before now

-- What was read: all bytes to the end, or the first ones past the limit.
pub record HasRead (before now : Option (List ℕ)) (bytes : List ℕ) : Type 0 where
  pub consumed : Consumes before now bytes
  pub short : length bytes ≤ limit + 1
  pub ended : length bytes ≤ limit → IsAtEnd now

-- some call may fail
abbrev pub MayFail : (ℕ → Type 0) → Type 0
MayFail may = (k : ℕ) × may k

-- What was taken from the input: at most so many bytes.
pub record Took (most : ℕ) (before now : Option (List ℕ)) : Type 0 where
  pub bytes : List ℕ
  pub consumed : Consumes before now bytes
  pub short : length bytes ≤ most

-- whether a status of a command says that the input was read
abbrev pub has_read : Status → Bool
has_read Done = true
has_read Refused = true
has_read s = false

-- a front of the bytes was written
pub record AppendsFront (before now : Option (List ℕ)) (bytes : List ℕ) : Type 0 where
  pub count : ℕ
  pub wrote : Appends before now (take count bytes)

-- the status came and all of the text was written, or the output failed and a front of it was
abbrev pub Finishes : Status → List ℕ → Option (List ℕ) → Option (List ℕ) → Status → Type 0
Finishes status text before now result = ((result ≡ status) × Appends before now text) ⊎ (((result ≡ OutputFault) ⊎ (result ≡ OutOfMemory)) × AppendsFront before now text)
