-- How far a write is when a batch was taken.
use Rattle.std.specs.Prelude.{ℕ}

-- so many batches by then, so many rows in them, and so many segments
pub record Taken : Type 0 where
  pub batches : ℕ
  pub rows : ℕ
  pub segments : ℕ
