-- What a machine as a whole moves.
use Rattle.std.proofs.Common.{◌≡◌, sym, ap}
use Rattle.vx_sequence.specs.Universe.{Active}
use Rattle.vx_machine_ids.specs.Stock.{Stock, none, both}
use Rattle.vx_machine_ids.specs.Balance.{Owned, Moved}
use Rattle.vx_machine_ids.proofs.MoveLaws.{moved_then, moved_drop, owned_now, owned_as, moved_as}

-- ---- the start, with two pointers

-- the second is given up first
module _ (u v : Active) (s e : Stock) (o : Owned u (both s e)) (m : Moved u v e none) where
  pub first_left : Owned v s
  first_left = owned_now u v (both s e) s o (moved_drop u v s e o m)

  pub second_first : (w : Active) → Moved v w s none → Moved u w (both s e) none
  second_first w n = moved_then u v w (both s e) s none (moved_drop u v s e o m) n

-- ---- a step

-- the source's act: what was in its place is what acted, and what it gave is put back
pub source_owned : (u : Active) (p q r : Stock) → q ≡ p → Owned u (both p r) → Owned u (both q r)
source_owned u p q r e o = owned_as u (both p r) (both q r) (ap (λ z. both z r) (sym e)) o

pub source_moved : (u v : Active) (p q t n r w : Stock) → q ≡ p → n ≡ t → Moved u v (both q r) (both t w) → Moved u v (both p r) (both n w)
source_moved u v p q t n r w e f m = moved_as u v (both q r) (both p r) (both t w) (both n w) (ap (λ z. both z r) e) (ap (λ z. both z w) (sym f)) m
