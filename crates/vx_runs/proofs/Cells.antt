-- Cells of a dictionary: each is the same as itself, and has a place among the distinct ones.
use Rattle.std.proofs.Common.{◌≡◌, zero, suc, ◌+◌, ◌<◌, ◌||◌, Bool, true, false, List, [], ◌∷◌, ◌++◌, length, refl, ap, arith, length-append}
use Rattle.std.specs.Prelude.{if◌then◌else◌}
use Rattle.std.specs.Cmp.{booleans_Decides}
use Rattle.std.specs.Cmp.Lexicographic.{bytes_decides}
use Rattle.std.proofs.lemmas.Bool.Decides.{Decides-int_eq}
use Rattle.vx_model.specs.Ty.{Ty, boolean, primitive, utf8, binary, list, struct, extension}
use Rattle.vx_model.specs.CellData.{CellData, null_cell, bool_cell, int_cell, text_cell, bytes_cell, list_cell, struct_cell, fits}
use Rattle.vx_model.specs.ChunkData.{is_dict_type}
use Rattle.vx_rules.specs.Runs.{same_cell, has_cell, with_cell, place_in}

-- a new cell has the last place
pub place_behind : (c : CellData) (ds : List CellData) → has_cell c ds ≡ false → same_cell c c ≡ true → place_in c (ds ++ c ∷ []) ≡ length ds
place_behind c [] h p = ap (λ (b : Bool). if b then zero else suc zero) p
place_behind c (d ∷ ds) h p = go (same_cell d c) h (λ r. place_behind c ds r p)
  where
    go : (b : Bool) → (b || has_cell c ds) ≡ false → (has_cell c ds ≡ false → place_in c (ds ++ c ∷ []) ≡ length ds)
        → (if b then 0 else suc (place_in c (ds ++ c ∷ []))) ≡ suc (length ds)
    go true h f = cc
    go false h f = ap suc (f h)

-- a known cell has a place
pub place_known : (c : CellData) (ds : List CellData) → has_cell c ds ≡ true → place_in c ds < length ds
place_known c [] h = cc
place_known c (d ∷ ds) h = go (same_cell d c) h (place_known c ds)
  where
    go : (b : Bool) → (b || has_cell c ds) ≡ true → (has_cell c ds ≡ true → place_in c ds < length ds) → (if b then 0 else suc (place_in c ds)) < suc (length ds)
    go true h f = omega arith
    go false h f = let l : place_in c ds < length ds = f h in omega arith

pub with_known : (c : CellData) (ds : List CellData) → has_cell c ds ≡ true → with_cell ds c ≡ ds
with_known c ds h = ap (λ (b : Bool). if b then ds else ds ++ c ∷ []) h

pub with_new : (c : CellData) (ds : List CellData) → has_cell c ds ≡ false → with_cell ds c ≡ ds ++ c ∷ []
with_new c ds h = ap (λ (b : Bool). if b then ds else ds ++ c ∷ []) h

-- each cell has a place once it is among the distinct ones
pub with_place : (c : CellData) (ds : List CellData) → same_cell c c ≡ true → place_in c (with_cell ds c) < length (with_cell ds c)
with_place c ds s = go (has_cell c ds) refl
  where
    go : (b : Bool) → has_cell c ds ≡ b → place_in c (if b then ds else ds ++ c ∷ []) < length (if b then ds else ds ++ c ∷ [])
    go true h = place_known c ds h
    go false h =
        let e : place_in c (ds ++ c ∷ []) ≡ length ds = place_behind c ds h s in
        let n : length (ds ++ c ∷ []) ≡ length ds + 1 = length-append ds (c ∷ []) in
        omega arith
