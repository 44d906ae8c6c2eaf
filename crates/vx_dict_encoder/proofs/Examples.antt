-- Fronts of few rows.
use Rattle.std.proofs.Common.{◌≡◌, ℕ, true, false, List, [], ◌∷◌, map, refl}
use Rattle.std.specs.Prelude.{pos}
use Rattle.vx_model.specs.declared.ptype.PType.TheVariants.{U8, U16, I64}
use Rattle.vx_model.specs.Ty.{primitive, utf8}
use Rattle.vx_model.specs.CellData.{CellData, null_cell, int_cell}
use Rattle.vx_rules.specs.Runs.{code_type}
use Rattle.vx_runs.specs.Cutting.{limited}
use Rattle.vx_dict_encoder.specs.Front.{front}

ints : List ℕ → List CellData
ints ns = map (λ n. int_cell (pos n)) ns

-- two cells at most: the third distinct one isn't taken
third_ends : front (limited 1000 2) (primitive I64 false) [] (ints (7 ∷ 3 ∷ 7 ∷ 5 ∷ 7 ∷ [])) ≡ (0 ∷ 1 ∷ 0 ∷ [], ints (7 ∷ 3 ∷ []))
unfolding ints
third_ends = refl

-- the next batch goes on with the cells of the one before
next_batch : front (limited 1000 3) (primitive I64 false) (ints (7 ∷ 3 ∷ [])) (ints (3 ∷ 5 ∷ [])) ≡ (1 ∷ 2 ∷ [], ints (7 ∷ 3 ∷ 5 ∷ []))
unfolding ints
next_batch = refl

-- a batch without rows changes nothing
no_rows : front (limited 1000 2) (primitive I64 false) (ints (7 ∷ [])) [] ≡ ([], ints (7 ∷ []))
unfolding ints
no_rows = refl

-- a null is a cell as any other
nulls : front (limited 1000 2) (primitive I64 true) [] (null_cell ∷ int_cell (pos 4) ∷ null_cell ∷ []) ≡ (0 ∷ 1 ∷ 0 ∷ [], null_cell ∷ int_cell (pos 4) ∷ [])
nulls = refl

-- one cell fits, whatever the limits are
one_fits : front (limited 0 0) (utf8 true) [] (null_cell ∷ null_cell ∷ []) ≡ (0 ∷ 0 ∷ [], null_cell ∷ [])
one_fits = refl

-- two cells of eight bytes cost more than fifteen
too_dear : front (limited 15 9) (primitive I64 false) [] (ints (7 ∷ 3 ∷ [])) ≡ (0 ∷ [], ints (7 ∷ []))
unfolding ints
too_dear = refl

-- codes are as wide as the limit asks, however many cells there are
widths : map (λ n. code_type (limited 1000 n)) (0 ∷ 255 ∷ 256 ∷ []) ≡ primitive U8 false ∷ primitive U8 false ∷ primitive U16 false ∷ []
widths = refl
