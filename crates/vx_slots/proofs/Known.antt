-- Known cells, and one more behind them.
use Rattle.std.proofs.Common.{◌≡◌, ℕ, zero, suc, ◌||◌, Bool, true, false, List, [], ◌∷◌, ◌++◌, length, Option, Some, None, refl, sym, ap, ◌∙◌, subst}
use Rattle.std.specs.Prelude.{if◌then◌else◌, is_some, IfSome}
use Rattle.std.proofs.lemmas.Bool.Decides.{Decides-int_eq}
use Rattle.std.specs.Cmp.Lexicographic.{bytes_decides}
use Rattle.vx_hash.specs.XxHash3.{xxhash3_64}
use Rattle.vx_model.specs.CellData.{CellData, null_cell, bool_cell, int_cell, text_cell, bytes_cell}
use Rattle.vx_rules.specs.Runs.{same_cell, has_cell, place_in}
use Rattle.vx_slots.specs.Slots.{known_place, int_hash, cell_hash}

-- cells that are the same have equal hashes
pub same_hash : (c d : CellData) → same_cell c d ≡ true → cell_hash c ≡ cell_hash d
same_hash (int_cell a) (int_cell b) e = ap int_hash ((Decides-int_eq a b).0 e)
same_hash (text_cell a) (text_cell b) e = ap xxhash3_64 ((bytes_decides a b).0 e)
same_hash (bytes_cell a) (bytes_cell b) e = ap xxhash3_64 ((bytes_decides a b).0 e)
same_hash null_cell null_cell e = refl
same_hash (bool_cell a) (bool_cell b) e = refl
same_hash c d e = cc

-- ---- has_cell and place_in

has_still : (c d : CellData) (ds : List CellData) → has_cell c ds ≡ true → has_cell c (ds ++ d ∷ []) ≡ true
has_still c d [] h = cc
has_still c d (e ∷ ds) h = go (same_cell e c) h (has_still c d ds)
  where
    go : (b : Bool) → (b || has_cell c ds) ≡ true → (has_cell c ds ≡ true → has_cell c (ds ++ d ∷ []) ≡ true) → (b || has_cell c (ds ++ d ∷ [])) ≡ true
    go true h f = refl
    go false h f = f h

has_new : (c d : CellData) (ds : List CellData) → same_cell d c ≡ true → has_cell c (ds ++ d ∷ []) ≡ true
has_new c d [] s = ap (λ b. b || false) s
has_new c d (e ∷ ds) s = go (same_cell e c) (has_new c d ds s)
  where
    go : (b : Bool) → has_cell c (ds ++ d ∷ []) ≡ true → (b || has_cell c (ds ++ d ∷ [])) ≡ true
    go true h = refl
    go false h = h

pub has_none : (c d : CellData) (ds : List CellData) → has_cell c ds ≡ false → same_cell d c ≡ false → has_cell c (ds ++ d ∷ []) ≡ false
has_none c d [] h s = ap (λ b. b || false) s
has_none c d (e ∷ ds) h s = go (same_cell e c) h (λ r. has_none c d ds r s)
  where
    go : (b : Bool) → (b || has_cell c ds) ≡ false → (has_cell c ds ≡ false → has_cell c (ds ++ d ∷ []) ≡ false) → (b || has_cell c (ds ++ d ∷ [])) ≡ false
    go true h f = h
    go false h f = f h

place_still : (c d : CellData) (ds : List CellData) → has_cell c ds ≡ true → place_in c (ds ++ d ∷ []) ≡ place_in c ds
place_still c d [] h = cc
place_still c d (e ∷ ds) h = go (same_cell e c) h (place_still c d ds)
  where
    go : (b : Bool) → (b || has_cell c ds) ≡ true → (has_cell c ds ≡ true → place_in c (ds ++ d ∷ []) ≡ place_in c ds)
        → (if b then 0 else suc (place_in c (ds ++ d ∷ []))) ≡ (if b then 0 else suc (place_in c ds))
    go true h f = refl
    go false h f = ap suc (f h)

place_new : (c d : CellData) (ds : List CellData) → has_cell c ds ≡ false → same_cell d c ≡ true → place_in c (ds ++ d ∷ []) ≡ length ds
place_new c d [] h s = ap (λ (b : Bool). if b then zero else suc zero) s
place_new c d (e ∷ ds) h s = go (same_cell e c) h (λ r. place_new c d ds r s)
  where
    go : (b : Bool) → (b || has_cell c ds) ≡ false → (has_cell c ds ≡ false → place_in c (ds ++ d ∷ []) ≡ length ds)
        → (if b then 0 else suc (place_in c (ds ++ d ∷ []))) ≡ suc (length ds)
    go true h f = cc
    go false h f = ap suc (f h)

-- ---- known places

pub known_some : (c : CellData) (ds : List CellData) → has_cell c ds ≡ true → known_place c ds ≡ Some (place_in c ds)
known_some c ds h = ap (λ (b : Bool). if b then Some (place_in c ds) else None) h

pub known_none : (c : CellData) (ds : List CellData) → has_cell c ds ≡ false → known_place c ds ≡ None
known_none c ds h = ap (λ (b : Bool). if b then Some (place_in c ds) else None) h

pub known_still : (c d : CellData) (ds : List CellData) → has_cell c ds ≡ true → known_place c (ds ++ d ∷ []) ≡ Some (place_in c ds)
known_still c d ds h = known_some c (ds ++ d ∷ []) (has_still c d ds h) ∙ ap Some (place_still c d ds h)

pub known_new : (c d : CellData) (ds : List CellData) → has_cell c ds ≡ false → same_cell d c ≡ true → known_place c (ds ++ d ∷ []) ≡ Some (length ds)
known_new c d ds h s = known_some c (ds ++ d ∷ []) (has_new c d ds s) ∙ ap Some (place_new c d ds h s)

-- what is found tells whether the cell is known, and where it is
pub found_some : (c : CellData) (ds : List CellData) (r : Option ℕ) → r ≡ known_place c ds → is_some r ≡ has_cell c ds
found_some c ds r e = ap (λ (o : Option ℕ). is_some o) e ∙ go (has_cell c ds)
  where
    go : (b : Bool) → is_some (if b then Some (place_in c ds) else None) ≡ b
    go true = refl
    go false = refl

pub found_place : (c : CellData) (ds : List CellData) (r : Option ℕ) → r ≡ known_place c ds → IfSome r (λ k. k ≡ place_in c ds)
found_place c ds r e = subst (λ (o : Option ℕ). IfSome o (λ k. k ≡ place_in c ds)) (sym e) (go (has_cell c ds))
  where
    go : (b : Bool) → IfSome (if b then Some (place_in c ds) else None) (λ k. k ≡ place_in c ds)
    go true = refl
    go false = tt
