-- What is kept of counts, of tasks of the program.
use Rattle.std.specs.Prelude.{◌≡◌, ◌<◌, ℕ, List, length, slice_index_or}
use Rattle.vx_kept.specs.Kept.{Knows}
use Rattle.vx_kept.specs.declared.counts.Counts.{Counts}
use Rattle.vx_machine_task.specs.declared.task.Task.{Task, out-Task}
use Rattle.vx_machine_task.specs.View.{row}

-- as many are counted as there are, and of each it is known what is below it
pub record AllKnown (ns : List ℕ) (xs : List Counts) (ts : List Task) : Type 0 where
  pub counts : length ns ≡ length ts
  pub kids : length xs ≡ length ts
  pub each : (i : ℕ) (x : Counts) (t : Task) → i < length ts → Knows (slice_index_or xs i x) (row (out-Task (slice_index_or ts i t)).kids.items)
