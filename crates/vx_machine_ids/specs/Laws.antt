-- Laws of what is held.
use Rattle.vx_path.specs.Path.{Eof, eof_path, inside, next}
use Rattle.std.specs.Prelude.{ℕ, List}
use Rattle.vx_sequence.specs.Universe.{Active, IsActive, IsOpen, IsUniverse, advanced, descended, split_from, released}
use Rattle.vx_machine_ids.specs.Stock.{Stock, none, both, id_stock, end_stock}
use Rattle.vx_machine_ids.specs.Balance.{Owned, Moved, Exact, IsNone}

-- ---- calls

abbrev pub AdvanceMoves : Type 0
AdvanceMoves = (u : Active) (e : Eof) → IsUniverse u → IsOpen u (eof_path e)
    → Moved u (advanced u e) (end_stock e) (both (end_stock (next e)) (id_stock (eof_path e)))

-- the pointer stands at the first child
abbrev pub DescendMoves : Type 0
DescendMoves = (u : Active) (p : List ℕ) → IsUniverse u → IsActive u p
    → Moved u (descended u p) (id_stock p) (end_stock (record { stem = p; last = 0 }))

abbrev pub SplitMoves : Type 0
SplitMoves = (u : Active) (e : Eof) → IsUniverse u → IsOpen u (eof_path e)
    → Moved u (split_from u e) (end_stock e) (both (end_stock (next e)) (end_stock (inside e)))

abbrev pub ReleaseMoves : Type 0
ReleaseMoves = (u : Active) (p : List ℕ) → IsActive u p → Moved u (released u p) (id_stock p) none

-- ---- moves

abbrev pub MovesNothing : Type 0
MovesNothing = (u : Active) (s : Stock) → Owned u s → Moved u u s s

abbrev pub MovesOn : Type 0
MovesOn = (u v w : Active) (s t r : Stock) → Moved u v s t → Moved v w t r → Moved u w s r

-- what is held beside stays as it is
abbrev pub MovesBeside : Type 0
MovesBeside = (u v : Active) (s t r : Stock) → Owned u (both s r) → Moved u v s t → Moved u v (both s r) (both t r)

-- what is held now is owned now
abbrev pub OwnsOn : Type 0
OwnsOn = (u v : Active) (s t : Stock) → Owned u s → Moved u v s t → Owned v t

abbrev pub LeavesNone : Type 0
LeavesNone = (u v : Active) (s : Stock) → Exact u s → Moved u v s none → IsNone v
