-- What an object tells of its faults.
use Rattle.std.specs.Prelude.{ℕ, ◌+◌, ◌<◌, Bool, IsTrue}
use Rattle.vx_fault.specs.Counts.{Counts}

-- One call. Call k + 1 before it is call k after it.
pub record Called (before now : ℕ) (may may_then must must_then : ℕ → Type 0) (failed : Bool) : Type 0 where
  -- a fault is told by its count
  pub counted : Counts before now failed
  -- it comes where it may
  pub allowed : IsTrue failed → may 0
  -- what may fail later might have before
  pub fewer : (k : ℕ) → may_then k → may (k + 1)
  -- a call that must fail does
  pub forced : must 0 → IsTrue failed
  -- what had to fail later still has to
  pub more : (k : ℕ) → must (k + 1) → must_then k

-- A run of calls: so many were answered without a fault, and the next one may have failed.
pub record FaultsTold (before now : ℕ) (may must : ℕ → Type 0) (answered : ℕ) (failed : Bool) : Type 0 where
  -- a fault is told by its count
  pub counted : Counts before now failed
  -- it comes where it may
  pub allowed : IsTrue failed → may answered
  -- no call that must fail is passed over
  pub passed : (k : ℕ) → k < answered → ¬ must k
