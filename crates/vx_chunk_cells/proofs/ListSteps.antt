-- Lists split off one by one, from the last to the first.
use Rattle.std.proofs.Common.{◌≡◌, ℕ, zero, suc, ◌+◌, ◌-◌, ◌<◌, ◌≤◌, Bool, true, List, [], ◌∷◌, ◌++◌, length, take, drop, get_or, map, reverse, refl, ap, sym, ◌∙◌, arith}
use Rattle.std.specs.Global.{Vec}
use Rattle.std.proofs.lemmas.List.{map-append, reverse-append, drop-take, take-take, take-map, take_all}
use Rattle.vx_model.specs.declared.cell.Cell.{Cell}
use Rattle.vx_model.specs.declared.cell.Cell as cl
use Rattle.vx_model.specs.Words.{head_or, tail}
use Rattle.vx_model.specs.CellData.{CellData, list_cell, trees_of}
use Rattle.vx_model.specs.TreeView.{tree}
use Rattle.vx_model.specs.ChunkData.{list_rows}
use Rattle.vx_model.proofs.CellViews.{tree_list}
use Rattle.vx_chunk_cells.specs.Window.{window, rebased, last_of, Within}
use Rattle.vx_chunk_cells.proofs.Windows.{drop-map}
use Rattle.vx_chunk_cells.proofs.Steps.{tail-drop}

pub from_first : (low high : ℕ) (os : List ℕ) (i : ℕ) → Within low high os → i < length os → low ≤ get_or os i 0
from_first low high [] i h lt = absurd (omega arith)
from_first low high (o ∷ os) zero h lt = h.0
from_first low high (o ∷ os) (suc i) h lt = let further : o ≤ get_or os i 0 = from_first o high os i h.2 (omega arith) in omega (arith, h.0)

pub to_next : (low high : ℕ) (os : List ℕ) (i : ℕ) → Within low high os → i + 1 < length os → get_or os i 0 ≤ get_or os (i + 1) 0
to_next low high [] i h lt = absurd (omega arith)
to_next low high (o ∷ []) i h lt = absurd (omega arith)
to_next low high (o ∷ p ∷ os) zero h lt = h.2.0
to_next low high (o ∷ p ∷ os) (suc i) h lt =
    let e : suc i + 1 ≡ suc (i + 1) = omega arith in
    rw e (to_next o high (p ∷ os) i h.2 (omega arith))

pub length-rebased : (base : ℕ) (os : List ℕ) → length (rebased base os) ≡ length os
length-rebased base [] = refl
length-rebased base (o ∷ os) = ap suc (length-rebased base os)

pub get_or-rebased : (base : ℕ) (os : List ℕ) (i : ℕ) → get_or (rebased base os) i 0 ≡ get_or os i 0 - base
get_or-rebased base [] i = omega arith
get_or-rebased base (o ∷ os) zero = refl
get_or-rebased base (o ∷ os) (suc i) = get_or-rebased base os i

pub last_is : (os : List ℕ) (n : ℕ) → length os ≡ n + 1 → last_of os ≡ get_or os n 0
last_is [] n e = absurd (omega arith)
last_is (o ∷ []) zero e = refl
last_is (o ∷ []) (suc n) e = absurd (omega arith)
last_is (o ∷ p ∷ os) zero e = absurd (omega arith)
last_is (o ∷ p ∷ os) (suc n) e = last_is (p ∷ os) n (omega arith)

-- the last offset by its place
pub last_at : (os : List ℕ) → 1 ≤ length os → get_or os (length os - 1) 0 ≡ last_of os
last_at os some = sym (last_is os (length os - 1) (omega arith))

-- the row at place i, and those behind it
pub one_more : (es : List CellData) (os : List ℕ) (v : List Bool) (i : ℕ) → i + 1 < length os
    → list_rows es (drop i os) v ≡ list_cell (head_or true v) (trees_of (window (get_or os i 0) (get_or os (i + 1) 0) es)) ∷ list_rows es (drop (i + 1) os) (tail v)
one_more es [] v i lt = absurd (omega arith)
one_more es (o ∷ []) v i lt = absurd (omega arith)
one_more es (o ∷ p ∷ os) v zero lt = refl
one_more es (o ∷ p ∷ os) v (suc i) lt =
    let e : suc i + 1 ≡ suc (i + 1) = omega arith in
    rw e (one_more es (p ∷ os) v i (omega arith))

pub split_rows : (es : List CellData) (os : List ℕ) (valid : List Bool) (rows elements : List Cell) (cells : Vec Cell) (flag : Bool) (low high j i at : ℕ) → j ≡ i + 1 → j < length os → Within low high os
    → flag ≡ head_or true (drop i valid) → at ≡ get_or os i 0 - low → cells.items ≡ drop at elements → map tree elements ≡ take (get_or os j 0 - low) es
    → reverse (map tree rows) ≡ list_rows es (drop j (rebased low os)) (drop j valid) → reverse (map tree (rows ++ cl.List flag cells ∷ [])) ≡ list_rows es (drop i (rebased low os)) (drop i valid)
split_rows es os valid rows elements cells flag low high j i at next lt within f a split left so_far =
    let more : i + 1 < length os = omega arith in
    let low_to : low ≤ get_or os i 0 = from_first low high os i within (omega arith) in
    let up_to : get_or os i 0 ≤ get_or os (i + 1) 0 = to_next low high os i within more in
    let whole : get_or os (i + 1) 0 - low ≡ at + (get_or os (i + 1) 0 - get_or os i 0) = omega arith in
    let count : get_or os (i + 1) 0 - low - (get_or os i 0 - low) ≡ get_or os (i + 1) 0 - get_or os i 0 = omega arith in
    let held : map tree elements ≡ take (get_or os (i + 1) 0 - low) es = rw next at left in
    let cut : map tree cells.items ≡ window (get_or os i 0 - low) (get_or os (i + 1) 0 - low) es =
    rw (split, ← drop-map tree at elements, held, count, whole, drop-take at (get_or os (i + 1) 0 - get_or os i 0) es, a) refl in
    let rest : reverse (map tree rows) ≡ list_rows es (drop (i + 1) (rebased low os)) (drop (i + 1) valid) = rw next at so_far in
    let there : i + 1 < length (rebased low os) = rw (length-rebased low os) more in
    rw (map-append tree rows (cl.List flag cells ∷ []), reverse-append (map tree rows) (tree (cl.List flag cells) ∷ []), tree_list flag cells, cut, f, one_more es (rebased low os) (drop i valid) i there, get_or-rebased low os i, get_or-rebased low os (i + 1), tail-drop i valid, rest) refl

pub split_left : (es : List CellData) (os : List ℕ) (elements left : List Cell) (low high j i at : ℕ) → j ≡ i + 1 → j < length os → Within low high os → at ≡ get_or os i 0 - low → left ≡ take at elements
    → map tree elements ≡ take (get_or os j 0 - low) es → map tree left ≡ take (get_or os i 0 - low) es
split_left es os elements left low high j i at next lt within a split e =
    let more : i + 1 < length os = omega arith in
    let up_to : get_or os i 0 ≤ get_or os (i + 1) 0 = to_next low high os i within more in
    let fewer : at ≤ get_or os j 0 - low = rw next (omega arith) in
    rw (split, ← take-map tree at elements, e, take-take at (get_or os j 0 - low) es fewer, a) refl

pub first_is : (os : List ℕ) → get_or os 0 0 ≡ head_or 0 os
first_is [] = refl
first_is (o ∷ os) = refl

pub to_last : (low high : ℕ) (os : List ℕ) (i : ℕ) → Within low high os → i < length os → get_or os i 0 ≤ high
to_last low high [] i h lt = absurd (omega arith)
to_last low high (o ∷ os) zero h lt = h.1
to_last low high (o ∷ os) (suc i) h lt = to_last o high os i h.2 (omega arith)

pub no_rows : (es : List CellData) (os : List ℕ) (v : List Bool) (n : ℕ) → length os ≤ n + 1 → list_rows es (drop n os) v ≡ []
no_rows es [] v zero le = refl
no_rows es [] v (suc n) le = refl
no_rows es (o ∷ []) v zero le = refl
no_rows es (o ∷ p ∷ os) v zero le = absurd (omega arith)
no_rows es (o ∷ os) v (suc n) le = no_rows es os v n (omega arith)

pub all_left : (es : List CellData) (os : List ℕ) (n : ℕ) → length os ≡ n + 1 → last_of os ≡ head_or 0 os + length es → es ≡ take (get_or os n 0 - head_or 0 os) es
all_left es os n e h =
    let last : get_or os n 0 ≡ head_or 0 os + length es = sym (last_is os n e) ∙ h in
    sym (take_all (get_or os n 0 - head_or 0 os) es (omega arith))

pub map-reverse : {X Y : Type 0} (f : X → Y) (xs : List X) → map f (reverse xs) ≡ reverse (map f xs)
map-reverse f [] = refl
map-reverse f (x ∷ xs) = rw (reverse-append (x ∷ []) xs, map-append f (reverse xs) (x ∷ []), map-reverse f xs, reverse-append (f x ∷ []) (map f xs)) refl
