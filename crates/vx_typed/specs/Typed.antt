-- The cells that typed values stand for.
use Rattle.std.specs.Prelude.{ℕ, zero, suc, ◌-◌, Bool, true, false, if◌then◌else◌, List, [], ◌∷◌, ◌++◌, Option, Some, None}
use Rattle.vx_model.specs.Words.{head_or, tail, all_by}
use Rattle.vx_model.specs.CellData.{CellData, null_cell, bool_cell, int_cell}

-- a cell a value, null where its flag is false; where there are no flags all are valid
abbrev pub typed_cells : {X : Type 0} → (X → CellData) → List X → List Bool → List CellData
typed_cells f [] valid = []
typed_cells f (x ∷ xs) valid = (if head_or true valid then f x else null_cell) ∷ typed_cells f xs (tail valid)

-- flags, or none where all are true
abbrev pub needed_flags : List Bool → List Bool
needed_flags bs = if all_by (λ b. b) bs then [] else bs

-- so many flags, true where they are missing
abbrev pub exact_flags : ℕ → List Bool → List Bool
exact_flags zero bs = []
exact_flags (suc n) bs = head_or true bs ∷ exact_flags n (tail bs)

-- those of n values and of m more; none where neither has any
abbrev pub joined_flags : ℕ → List Bool → ℕ → List Bool → List Bool
joined_flags n [] m [] = []
joined_flags n bs m cs = exact_flags n bs ++ exact_flags m cs

-- flags that are kept, or none
abbrev pub flags_of : Option (List Bool) → List Bool
flags_of None = []
flags_of (Some bs) = bs

-- null, a number or a Bool
abbrev pub is_leaf : CellData → Bool
is_leaf null_cell = true
is_leaf (bool_cell b) = true
is_leaf (int_cell i) = true
is_leaf c = false
