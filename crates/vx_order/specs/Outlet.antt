-- What an order tells of the sink that it writes to.
use Rattle.std.specs.Prelude.{ℕ, List, Option}

-- a sink that nobody else uses
pub record Store : Type 0 where
  -- the number of the next segment
  pub next : ℕ
  -- the segments, where the sink tells them
  pub segments : Option (List (List ℕ))
  -- of a borrowed sink the name of the borrow
  pub borrow : ℕ

-- a sink that others use too: the order's own counts, and which numbers there may be
pub record Share : Type 0 where
  -- which sink, and which of its columns
  pub sink : ℕ
  pub column : ℕ
  -- how many segments this column wrote, whether the sink failed it, and whether it saw a stop (0 or 1)
  pub writes : ℕ
  pub faults : ℕ
  pub seen : ℕ
  -- the first number, and how many segments all columns may write
  pub first : ℕ
  pub pairs : ℕ

-- an order's sink is its own, or shared
pub data Outlet : Type 0 where
  own : Store → Outlet
  shared : Share → Outlet

-- the borrow's name, of a sink of its own
abbrev pub borrow_of : Outlet → ℕ
borrow_of (own s) = s.borrow
borrow_of (shared s) = 0
