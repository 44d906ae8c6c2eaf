-- Steps of the loops over typed values.
use Rattle.std.proofs.Common.{◌≡◌, ℕ, zero, suc, ◌+◌, ◌-◌, ◌<◌, ◌≤◌, ◌&&◌, Bool, true, false, List, [], ◌∷◌, ◌++◌, length, get_or, drop, take, map, min, refl, sym, ap, ◌∙◌, append_assoc, length-append, arith}
use Rattle.std.specs.Prelude.{if◌then◌else◌}
use Rattle.std.proofs.lemmas.List.{drop_more, drop_all, append-nil, length-take, length-drop, drop_min, map_push, map_more, length-map}
use Rattle.std.proofs.lemmas.Bool.{and_from}
use Rattle.vx_model.specs.declared.cell.Cell.{Cell}
use Rattle.vx_model.specs.Words.{all_by, head_or, tail}
use Rattle.vx_model.specs.CellData.{CellData, null_cell}
use Rattle.vx_model.specs.TreeView.{tree}
use Rattle.vx_chunk_cells.proofs.Windows.{take_same}
use Rattle.vx_chunk_cells.proofs.RowWindows.{drop-tail}
use Rattle.vx_chunk_cells.proofs.Steps.{tail-drop}
use Rattle.vx_typed.specs.Typed.{typed_cells, is_leaf}

-- ---- values one by one

pub drop_typed : {X : Type 0} (f : X → CellData) (xs : List X) (bs : List Bool) (i : ℕ) (x : X) → i < length xs → x ≡ get_or xs i x
    → typed_cells f (drop i xs) (drop i bs) ≡ (if head_or true (drop i bs) then f x else null_cell) ∷ typed_cells f (drop (i + 1) xs) (drop (i + 1) bs)
drop_typed f xs bs i x lt is = rw (drop_more xs i x lt, ← is, ← tail-drop i bs) refl

pub typed_ends : {X : Type 0} (f : X → CellData) (xs : List X) (bs : List Bool) (i : ℕ) → length xs ≤ i → typed_cells f (drop i xs) (drop i bs) ≡ []
typed_ends f xs bs i le = rw (drop_all i xs le) refl

-- the same where all are valid
pub all_drop : {X : Type 0} (f : X → CellData) (xs : List X) (i : ℕ) (x : X) → i < length xs → x ≡ get_or xs i x → typed_cells f (drop i xs) [] ≡ f x ∷ typed_cells f (drop (i + 1) xs) []
all_drop f xs i x lt is = rw (drop_more xs i x lt, ← is) refl

pub all_end : {X : Type 0} (f : X → CellData) (xs : List X) (i : ℕ) → length xs ≤ i → typed_cells f (drop i xs) [] ≡ []
all_end f xs i le = rw (drop_all i xs le) refl

pub typed_get : {X : Type 0} (f : X → CellData) (xs : List X) (bs : List Bool) (i : ℕ) (x : X) → i < length xs → x ≡ get_or xs i x → get_or (typed_cells f xs bs) i null_cell ≡ (if head_or true (drop i bs) then f x else null_cell)
typed_get f [] bs i x lt is = absurd (omega (arith, lt))
typed_get f (y ∷ xs) bs zero x lt is = ap (λ z. if head_or true bs then f z else null_cell) (sym is)
typed_get f (y ∷ xs) bs (suc i) x lt is = typed_get f xs (tail bs) i x (omega (arith, lt)) is ∙ ap (λ r. if head_or true r then f x else null_cell) (drop-tail i bs)

-- ---- lists of them

pub typed_length : {X : Type 0} (f : X → CellData) (xs : List X) (bs : List Bool) → length (typed_cells f xs bs) ≡ length xs
typed_length f [] bs = refl
typed_length f (x ∷ xs) bs = ap suc (typed_length f xs (tail bs))

typed_drop : {X : Type 0} (f : X → CellData) (k : ℕ) (xs : List X) (bs : List Bool) → typed_cells f (drop k xs) (drop k bs) ≡ drop k (typed_cells f xs bs)
typed_drop f zero xs bs = refl
typed_drop f (suc k) [] bs = refl
typed_drop f (suc k) (x ∷ xs) bs = ap (typed_cells f (drop k xs)) (sym (drop-tail k bs)) ∙ typed_drop f k xs (tail bs)

-- flags past the values count for nothing
typed_take : {X : Type 0} (f : X → CellData) (k : ℕ) (xs : List X) (bs : List Bool) → typed_cells f (take k xs) (take k bs) ≡ take k (typed_cells f xs bs)
typed_take f zero xs bs = refl
typed_take f (suc k) [] bs = refl
typed_take f (suc zero) (x ∷ xs) [] = refl
typed_take f (suc (suc k)) (x ∷ xs) [] = ap (λ r. f x ∷ r) (typed_take f (suc k) xs [])
typed_take f (suc k) (x ∷ xs) (b ∷ bs) = ap (λ r. (if b then f x else null_cell) ∷ r) (typed_take f k xs bs)

pub typed_window : {X : Type 0} (f : X → CellData) (n k : ℕ) (xs : List X) (bs : List Bool) → typed_cells f (take n (drop k xs)) (take n (drop k bs)) ≡ take n (drop k (typed_cells f xs bs))
typed_window f n k xs bs = typed_take f n (drop k xs) (drop k bs) ∙ ap (λ r. take n r) (typed_drop f k xs bs)

pub no_flags : {X : Type 0} (f : X → CellData) (xs : List X) (bs : List Bool) → length bs ≡ 0 → typed_cells f xs bs ≡ typed_cells f xs []
no_flags f xs [] e = refl
no_flags f xs (b ∷ bs) e = absurd (omega (arith, e))

pub typed_push : {X : Type 0} (f : X → CellData) (xs : List X) (bs : List Bool) (x : X) (b : Bool) → length bs ≡ length xs → typed_cells f (xs ++ x ∷ []) (bs ++ b ∷ []) ≡ typed_cells f xs bs ++ (if b then f x else null_cell) ∷ []
typed_push f [] [] x b e = refl
typed_push f [] (c ∷ bs) x b e = absurd (omega (arith, e))
typed_push f (y ∷ xs) [] x b e = absurd (omega (arith, e))
typed_push f (y ∷ xs) (c ∷ bs) x b e = ap (λ r. (if c then f y else null_cell) ∷ r) (typed_push f xs bs x b (omega (arith, e)))

-- a cell that doesn't fit
pub one_unfit : (f : CellData → Bool) (cs : List Cell) (i : ℕ) (c : Cell) → i < length cs → c ≡ get_or cs i c → f (tree c) ≡ false → all_by f (map tree cs) ≡ false
one_unfit f [] i c lt is no_fit = absurd (omega (arith, lt))
one_unfit f (d ∷ cs) zero c lt is no_fit = let e : f (tree d) ≡ false = ap (λ z. f (tree z)) (sym is) ∙ no_fit in rw e refl
one_unfit f (d ∷ cs) (suc i) c lt is no_fit = let rest : all_by f (map tree cs) ≡ false = one_unfit f cs i c (omega (arith, lt)) is no_fit in rw rest (and_no (f (tree d)))
  where
    and_no : (b : Bool) → (b && false) ≡ false
    and_no true = refl
    and_no false = refl

pub all_leaves : {X : Type 0} (f : X → CellData) (law : (x : X) → is_leaf (f x) ≡ true) (xs : List X) (bs : List Bool) → all_by is_leaf (typed_cells f xs bs) ≡ true
all_leaves f law [] bs = refl
all_leaves f law (x ∷ xs) bs = and_from (is_leaf (if head_or true bs then f x else null_cell)) _ (one_leaf (head_or true bs)) (all_leaves f law xs (tail bs))
  where
    one_leaf : (b : Bool) → is_leaf (if b then f x else null_cell) ≡ true
    one_leaf true = law x
    one_leaf false = refl

-- a window that ends within the list
pub window_min : {X : Type 0} (from to : ℕ) (xs : List X) → from ≤ to → take (min to (length xs) - min from (min to (length xs))) (drop (min from (min to (length xs))) xs) ≡ take (to - from) (drop from xs)
window_min from to xs le =
    let start : min from (min to (length xs)) ≡ min from (length xs) = omega arith in
    let count : min (min to (length xs) - min from (length xs)) (length (drop from xs)) ≡ min (to - from) (length (drop from xs)) = simp length-drop (omega arith) in
    rw (start, drop_min from xs, take_same (min to (length xs) - min from (length xs)) (to - from) (drop from xs) count) refl

pub ruleset row_rules = (append_assoc, append-nil)

pub ruleset typed_rules = (append_assoc, append-nil, map_push, drop_typed, typed_ends)

pub ruleset all_rules = (append_assoc, append-nil, all_drop, all_end)

pub ruleset get_rules = (typed_get)

pub ruleset push_rules = (append_assoc, append-nil, map_push, map_more, typed_push, one_unfit, length-append, length-map)

pub ruleset model_rules = (typed_length, no_flags, typed_window, length-take, length-drop)

pub ruleset cut_rules = (window_min)
