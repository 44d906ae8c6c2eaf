-- Windows of rows of lists and structs.
use Rattle.std.proofs.Common.{◌≡◌, ℕ, zero, suc, ◌+◌, ◌-◌, ◌≤◌, Bool, true, List, [], ◌∷◌, take, drop, map, refl, ap, ◌∙◌, arith, length}
use Rattle.vx_model.specs.Words.{head_or, tail}
use Rattle.vx_model.specs.CellData.{CellData, null_cell, list_cell, struct_cell, trees_of}
use Rattle.vx_model.specs.ChunkData.{list_rows, struct_rows}
use Rattle.vx_chunk_cells.specs.Window.{window, rebased, Within}
use Rattle.vx_chunk_cells.proofs.Windows.{window-window}

pub drop-tail : {X : Type 0} (k : ℕ) (xs : List X) → drop k (tail xs) ≡ drop (suc k) xs
drop-tail zero [] = refl
drop-tail (suc k) [] = refl
drop-tail k (x ∷ xs) = refl

-- ---- lists

drop-list_rows : (es : List CellData) (k : ℕ) (os : List ℕ) (v : List Bool) → drop k (list_rows es os v) ≡ list_rows es (drop k os) (drop k v)
drop-list_rows es zero os v = refl
drop-list_rows es (suc k) [] v = refl
drop-list_rows es (suc zero) (a ∷ []) v = refl
drop-list_rows es (suc (suc k)) (a ∷ []) v = refl
drop-list_rows es (suc k) (a ∷ b ∷ os) v = drop-list_rows es k (b ∷ os) (tail v) ∙ ap (list_rows es (drop k (b ∷ os))) (drop-tail k v)

take-list_rows : (es : List CellData) (k : ℕ) (os : List ℕ) (v : List Bool) → take k (list_rows es os v) ≡ list_rows es (take (suc k) os) v
take-list_rows es zero [] v = refl
take-list_rows es zero (a ∷ os) v = refl
take-list_rows es (suc k) [] v = refl
take-list_rows es (suc k) (a ∷ []) v = refl
take-list_rows es (suc k) (a ∷ b ∷ os) v = ap (λ r. list_cell (head_or true v) (trees_of (take (b - a) (drop a es))) ∷ r) (take-list_rows es k (b ∷ os) (tail v))

pub window-list_rows : (es : List CellData) (from to : ℕ) (os : List ℕ) (v : List Bool) → from ≤ to → window from to (list_rows es os v) ≡ list_rows es (window from (to + 1) os) (drop from v)
window-list_rows es from to os v le =
    let e : to + 1 - from ≡ suc (to - from) = omega arith in
    rw (drop-list_rows es from os v, e) (take-list_rows es (to - from) (drop from os) (drop from v))

-- rows of the elements between the two, by offsets counted from the first
pub list_rows-rebased : (es : List CellData) (base last a : ℕ) (os : List ℕ) (v : List Bool) → base ≤ a → Within a last os
    → list_rows (window base last es) (rebased base os) v ≡ list_rows es os v
list_rows-rebased es base last a [] v le h = refl
list_rows-rebased es base last a (x ∷ []) v le h = refl
list_rows-rebased es base last a (x ∷ y ∷ os) v le h =
    let from : base ≤ x = omega (arith, h.0) in
    rw (window-window base last x y es from h.2.0 h.2.1, list_rows-rebased es base last x (y ∷ os) (tail v) from h.2) refl

-- ---- structs

map_same : {X : Type 0} (f : X → X) (xs : List X) → ((x : X) → f x ≡ x) → map f xs ≡ xs
map_same f [] h = refl
map_same f (x ∷ xs) h = rw (h x, map_same f xs h) refl

-- one after the other
pub map_joined : {X Y Z : Type 0} (f : Y → Z) (g : X → Y) (k : X → Z) (xs : List X) → ((x : X) → f (g x) ≡ k x) → map f (map g xs) ≡ map k xs
map_joined f g k [] h = refl
map_joined f g k (x ∷ xs) h = rw (h x, map_joined f g k xs h) refl

drop-struct_rows : (k n : ℕ) (columns : List (List CellData)) (v : List Bool) → drop k (struct_rows n columns v) ≡ struct_rows (n - k) (map (drop k) columns) (drop k v)
drop-struct_rows zero n columns v =
    let e : n - 0 ≡ n = omega arith in
    rw (e, map_same (drop 0) columns (λ c. refl)) refl
drop-struct_rows (suc k) zero columns v = let e : 0 - suc k ≡ 0 = omega arith in rw e refl
drop-struct_rows (suc k) (suc n) columns v =
    let e : suc n - suc k ≡ n - k = omega arith in
    rw (e, drop-struct_rows k n (map tail columns) (tail v), drop-tail k v, map_joined (drop k) tail (drop (suc k)) columns (drop-tail k)) refl

take-struct_rows : (k n : ℕ) (columns : List (List CellData)) (v : List Bool) → k ≤ n → take k (struct_rows n columns v) ≡ struct_rows k columns v
take-struct_rows zero n columns v le = refl
take-struct_rows (suc k) zero columns v le = absurd (omega arith)
take-struct_rows (suc k) (suc n) columns v le = ap (λ r. struct_cell (head_or true v) (trees_of (map (head_or null_cell) columns)) ∷ r) (take-struct_rows k n (map tail columns) (tail v) (omega arith))

pub head-take : {X : Type 0} (n : ℕ) (d : X) (xs : List X) → head_or d (take (suc n) xs) ≡ head_or d xs
head-take n d [] = refl
head-take n d (x ∷ xs) = refl

abbrev pub tail_take : {X : Type 0} → ℕ → List X → List X
tail_take n xs = tail (take (suc n) xs)

pub take-tail : {X : Type 0} (n : ℕ) (xs : List X) → take n (tail xs) ≡ tail_take n xs
take-tail zero [] = refl
take-tail (suc n) [] = refl
take-tail n (x ∷ xs) = refl

-- what stands behind so many rows of each column isn't read
struct_rows-take : (n : ℕ) (columns : List (List CellData)) (v : List Bool) → struct_rows n (map (take n) columns) v ≡ struct_rows n columns v
struct_rows-take zero columns v = refl
struct_rows-take (suc n) columns v =
    rw (map_joined (head_or null_cell) (take (suc n)) (head_or null_cell) columns (head-take n null_cell), map_joined tail (take (suc n)) (tail_take n) columns (λ c. refl), ← map_joined (take n) tail (tail_take n) columns (take-tail n), struct_rows-take n (map tail columns) (tail v)) refl

pub window-struct_rows : (from to n : ℕ) (columns : List (List CellData)) (v : List Bool) → from ≤ to → to ≤ n
    → window from to (struct_rows n columns v) ≡ struct_rows (to - from) (map (window from to) columns) (drop from v)
window-struct_rows from to n columns v le within =
    let short : to - from ≤ n - from = omega arith in
    rw (drop-struct_rows from n columns v, take-struct_rows (to - from) (n - from) (map (drop from) columns) (drop from v) short, ← struct_rows-take (to - from) (map (drop from) columns) (drop from v), map_joined (take (to - from)) (drop from) (window from to) columns (λ c. refl)) refl

-- flags behind the rows aren't read
pub list_rows-take_flags : (es : List CellData) (os : List ℕ) (k : ℕ) (v : List Bool) → length os ≤ k + 1 → list_rows es os (take k v) ≡ list_rows es os v
list_rows-take_flags es [] k v le = refl
list_rows-take_flags es (a ∷ []) k v le = refl
list_rows-take_flags es (a ∷ b ∷ os) zero v le = absurd (omega arith)
list_rows-take_flags es (a ∷ b ∷ os) (suc k) v le = rw (head-take k true v, ← take-tail k v, list_rows-take_flags es (b ∷ os) k (tail v) (omega arith)) refl

pub struct_rows-take_flags : (n : ℕ) (columns : List (List CellData)) (v : List Bool) → struct_rows n columns (take n v) ≡ struct_rows n columns v
struct_rows-take_flags zero columns v = refl
struct_rows-take_flags (suc n) columns v = rw (head-take n true v, ← take-tail n v, struct_rows-take_flags n (map tail columns) (tail v)) refl
