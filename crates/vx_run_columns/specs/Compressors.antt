-- The compressors that a job's columns are given.
use Rattle.std.specs.Prelude.{◌≡◌, ℕ, List, IsTrue}
use Rattle.vx_fault.specs.Fails.{fails_at}

-- None failed yet, and it fails at the listed calls alone.
pub record FailsBy (calls : List ℕ) (faults : ℕ) (may_fail : ℕ → Type 0) : Type 0 where
  pub none : faults ≡ 0
  pub listed : (k : ℕ) → may_fail k → IsTrue (fails_at calls k)
