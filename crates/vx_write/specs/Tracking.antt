-- What the tracker comes to in a write by steps.
use Rattle.std.specs.Prelude.{ℕ, ◌^◌, ◌≤◌, Bool, List, []}
use Rattle.vx_model.specs.ChunkData.{ChunkData}
use Rattle.vx_tasks.specs.Run.{Note}
use Rattle.vx_write_answer.specs.declared.step.Step.{Step}
use Rattle.vx_machine_promises.specs.Write.{Write, Future, begin}
use Rattle.vx_machine_view.specs.Steps.{AllPairs}
use Rattle.vx_machine_runs.specs.Runs.{scheduled}
use Rattle.vx_machine_runs.specs.Tracked.{Comes}
use Rattle.vx_machine.specs.Progress.{ShowsNote}

-- Behind these steps a ready task of these batches would make the tracker count this number, which doesn't fit 64 bits. It is what was
-- counted before the write, and what the acts of these steps and its own add, without what they take.
pub record Passes (g : Write) (taken : List ChunkData) (f : Future) (steps : List Step) (n : ℕ) : Type 0 where
  pub picks : List ℕ
  pub notes : List Note
  pub shown : AllPairs ShowsNote steps notes
  pub place : ℕ
  pub comes : Comes (scheduled g picks) (begin g taken f) notes place n
  pub past : 2 ^ 64 ≤ n

-- where these batches were taken, and no more comes
abbrev pub PassesAt : Write → List ChunkData → Bool → List Step → ℕ → Type 0
PassesAt g taken heard steps n = Passes g taken (record { later = []; fits = heard }) steps n
