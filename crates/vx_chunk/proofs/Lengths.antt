-- How many rows each encoding has.
use Rattle.std.proofs.Common.{◌≡◌, ℕ, zero, suc, ◌+◌, ◌-◌, ◌<◌, List, [], ◌∷◌, length, get_or, drop, map, refl, ap, arith, length-append}
use Rattle.std.proofs.lemmas.List.{drop_more, length-map, length-replicate}
use Rattle.std.specs.Prelude.{Bool}
use Rattle.vx_model.specs.Words.{tail}
use Rattle.vx_model.specs.CellData.{CellData}
use Rattle.vx_model.specs.ChunkData.{ChunkData, pieces_of, cells, joined_cells, list_rows, struct_rows}

pub length-list_rows : (es : List CellData) (offsets : List ℕ) (valid : List Bool) → length (list_rows es offsets valid) ≡ length offsets - 1
length-list_rows es [] valid = refl
length-list_rows es (a ∷ []) valid = refl
length-list_rows es (a ∷ b ∷ offsets) valid = let h : length (list_rows es (b ∷ offsets) (tail valid)) ≡ length (b ∷ offsets) - 1 = length-list_rows es (b ∷ offsets) (tail valid) in omega arith

pub length-struct_rows : (n : ℕ) (columns : List (List CellData)) (valid : List Bool) → length (struct_rows n columns valid) ≡ n
length-struct_rows zero columns valid = refl
length-struct_rows (suc n) columns valid = ap suc (length-struct_rows n (map tail columns) (tail valid))

-- rows of the parts from place i on, at one more step
pub drop_joined : (ps : List ChunkData) (i : ℕ) (p : ChunkData) → i < length ps → p ≡ get_or ps i p
    → length (joined_cells (pieces_of (drop i ps))) ≡ length (cells p) + length (joined_cells (pieces_of (drop (i + 1) ps)))
drop_joined ps i p lt is = rw (drop_more ps i p lt, ← is) (length-append (cells p) (joined_cells (pieces_of (drop (i + 1) ps))))

pub ruleset length_rules = (length-map, length-replicate, length-list_rows, length-struct_rows, drop_joined)
