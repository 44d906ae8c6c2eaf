-- What is held against what is active.
use Rattle.std.specs.Prelude.{◌≡◌, ℕ, ◌+◌, ◌≤◌, List}
use Rattle.std.specs.FinMap as map
use Rattle.vx_sequence.specs.Universe.{Active, IsOpen}
use Rattle.vx_machine_ids.specs.Stock.{Stock, held, one}

abbrev pub active_at : Active → List ℕ → ℕ
active_at u p = one (map.contains_key u p)

-- each path that is held is active, and is held once; a pointer's is open
pub record Owned (u : Active) (s : Stock) : Type 0 where
  pub within : (p : List ℕ) → held s p ≤ active_at u p
  pub opened : (p : List ℕ) → 1 ≤ s.ends p → IsOpen u p

-- What one that held s made active or gave up is what it holds now more or less. Nothing else became active or was given
-- up, and what is open elsewhere stays open.
pub record Moved (u v : Active) (s t : Stock) : Type 0 where
  pub balance : (p : List ℕ) → active_at v p + held s p ≡ active_at u p + held t p
  pub opened : (p : List ℕ) → 1 ≤ t.ends p → IsOpen v p
  pub others : (p : List ℕ) → IsOpen u p → held s p ≡ 0 → IsOpen v p

-- all that is active is held
abbrev pub Exact : Active → Stock → Type 0
Exact u s = (p : List ℕ) → active_at u p ≡ held s p

-- no path is active
abbrev pub IsNone : Active → Type 0
IsNone u = (p : List ℕ) → active_at u p ≡ 0
