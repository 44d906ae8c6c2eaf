-- A part of a universe, against ids and a pointer that are held: it is theirs alone.
use Rattle.std.specs.Prelude.{ℕ, List, [], ◌∷◌, ◌++◌}
use Rattle.std.specs.FinMap as map
use Rattle.vx_path.specs.Path.{Eof, eof_path}
use Rattle.vx_sequence.specs.Universe.{Active}
use Rattle.vx_sequence.specs.Part.{CanPart, left_of, parted}
use Rattle.vx_machine_ids.specs.Stock.{Stock, none, both, ids_stock, end_stock}
use Rattle.vx_machine_ids.specs.Balance.{Owned, Moved, Exact}

-- ids, and a pointer
abbrev pub stock_of : List (List ℕ) → Eof → Stock
stock_of ids e = both (ids_stock ids) (end_stock e)

-- their paths
abbrev pub paths_of : List (List ℕ) → Eof → List (List ℕ)
paths_of ids e = ids ++ eof_path e ∷ []

-- whoever holds them may part them off
abbrev pub HeldCanPart : Type 0
HeldCanPart = (u : Active) (ids : List (List ℕ)) (e : Eof) → Owned u (stock_of ids e) → CanPart u (paths_of ids e)

-- in the part they are all that is active
abbrev pub PartIsExact : Type 0
PartIsExact = (u : Active) (ids : List (List ℕ)) (e : Eof) → CanPart u (paths_of ids e) → Exact (parted u map.empty (paths_of ids e)) (stock_of ids e)

-- and there they are held as before
abbrev pub PartIsOwned : Type 0
PartIsOwned = (u : Active) (ids : List (List ℕ)) (e : Eof) → Owned u (stock_of ids e) → Owned (parted u map.empty (paths_of ids e)) (stock_of ids e)

-- what stays is as if they had been given up
abbrev pub PartLeaves : Type 0
PartLeaves = (u : Active) (ids : List (List ℕ)) (e : Eof) → Owned u (stock_of ids e) → Moved u (left_of u (paths_of ids e)) (stock_of ids e) none
