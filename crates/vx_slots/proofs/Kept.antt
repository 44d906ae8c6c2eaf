-- Slots that are kept: one cell more, and none.
use Rattle.std.proofs.Common.{◌≡◌, ℕ, zero, suc, ◌+◌, ◌-◌, ◌*◌, ◌/◌, ◌<◌, ◌≤◌, ◌||◌, Bool, true, false, List, [], ◌∷◌, ◌++◌, map, length, take, drop, get_or, set, Some, None, refl, sym, ap, ◌∙◌, subst, ⊎_elim, arith}
use Rattle.std.specs.Prelude.{if◌then◌else◌, replicate, bit_and}
use Rattle.std.proofs.lemmas.Bool.{cases_lt}
use Rattle.std.proofs.lemmas.List.{length-map, length-set, length-drop, length-take-le, length-replicate, length_push, map_more, map_push, take_all, get_or-drop, get_or_past, set_past, drop-set-add, drop-set-lt, drop-replicate}
use Rattle.vx_model.specs.CellData.{CellData}
use Rattle.vx_model.specs.ChunkData.{cell_at}
use Rattle.vx_model.specs.declared.cell.Cell.{Cell}
use Rattle.vx_model.specs.TreeView.{tree}
use Rattle.vx_rules.specs.Runs.{same_cell, has_cell, place_in}
use Rattle.vx_slots.specs.Slots.{known_place, first_slot, looked, taken, AreWithin, IsFree, Kept}
use Rattle.vx_slots.proofs.Known.{same_hash, has_none, known_none, known_some, known_still, known_new}

-- ---- the cell at a place

at_still : (d : CellData) (ds : List CellData) (p : ℕ) → p < length ds → cell_at (ds ++ d ∷ []) p ≡ cell_at ds p
at_still d [] p l = absurd (omega arith)
at_still d (e ∷ ds) zero l = refl
at_still d (e ∷ ds) (suc p) l = at_still d ds p (omega arith)

at_new : (d : CellData) (ds : List CellData) → cell_at (ds ++ d ∷ []) (length ds) ≡ d
at_new d [] = refl
at_new d (e ∷ ds) = at_new d ds

-- no cell is the same as one that isn't known
at_other : (c : CellData) (ds : List CellData) (p : ℕ) → has_cell c ds ≡ false → p < length ds → same_cell (cell_at ds p) c ≡ false
at_other c [] p h l = absurd (omega arith)
at_other c (d ∷ ds) zero h l = first (same_cell d c) h
  where
    first : (b : Bool) → (b || has_cell c ds) ≡ false → b ≡ false
    first true e = e
    first false e = refl
at_other c (d ∷ ds) (suc p) h l = at_other c ds p (rest (same_cell d c) h) (omega arith)
  where
    rest : (b : Bool) → (b || has_cell c ds) ≡ false → has_cell c ds ≡ false
    rest true e = cc
    rest false e = e

-- ---- walks, where a cell comes behind the others and its place into a slot

-- a cell that was found is found in the same place
look_still : (ds : List CellData) (c d : CellData) (slots : List ℕ) (k e p : ℕ) → AreWithin (length ds) slots → get_or slots k 0 ≡ 0 → looked ds c slots ≡ Some p
    → looked (ds ++ d ∷ []) c (set slots k e) ≡ Some p
look_still ds c d [] k e p w z h = cc
look_still ds c d (zero ∷ slots) k e p w z h = cc
look_still ds c d (suc q ∷ slots) zero e p w z h = let n : suc q ≡ 0 = z in absurd (omega arith)
look_still ds c d (suc q ∷ slots) (suc k) e p w z h =
    subst (λ (x : CellData). (if same_cell x c then Some q else looked (ds ++ d ∷ []) c (set slots k e)) ≡ Some p) (sym (at_still d ds q within))
    (go (same_cell (cell_at ds q) c) h (look_still ds c d slots k e p (λ i. w (suc i)) z))
  where
    within : q < length ds
    within = let l : suc q ≤ length ds = w 0 in omega arith

    go : (b : Bool) → (if b then Some q else looked ds c slots) ≡ Some p → (looked ds c slots ≡ Some p → looked (ds ++ d ∷ []) c (set slots k e) ≡ Some p)
        → (if b then Some q else looked (ds ++ d ∷ []) c (set slots k e)) ≡ Some p
    go true x f = x
    go false x f = f x

-- a cell that isn't known is found nowhere
look_none : (ds : List CellData) (c : CellData) (slots : List ℕ) → ((i : ℕ) → get_or slots i 0 ≤ length ds) → has_cell c ds ≡ false → looked ds c slots ≡ None
look_none ds c [] w h = refl
look_none ds c (zero ∷ slots) w h = refl
look_none ds c (suc q ∷ slots) w h =
    let l : suc q ≤ length ds = w 0 in
    subst (λ (b : Bool). (if b then Some q else looked ds c slots) ≡ None) (sym (at_other c ds q h (omega arith))) (look_none ds c slots (λ i. w (suc i)) h)

-- the new cell is found in the first slot that was empty
look_new : (ds : List CellData) (c d : CellData) (slots : List ℕ) (k : ℕ) → AreWithin (length ds) slots → has_cell c ds ≡ false → same_cell d c ≡ true
    → k < length slots → ((j : ℕ) → j < k → 0 < get_or slots j 0) → looked (ds ++ d ∷ []) c (set slots k (suc (length ds))) ≡ Some (length ds)
look_new ds c d [] k w h s l b = absurd (omega arith)
look_new ds c d (x ∷ slots) zero w h s l b =
    subst (λ (y : CellData). (if same_cell y c then Some (length ds) else looked (ds ++ d ∷ []) c slots) ≡ Some (length ds)) (sym (at_new d ds))
    (ap (λ (t : Bool). if t then Some (length ds) else looked (ds ++ d ∷ []) c slots) s)
look_new ds c d (zero ∷ slots) (suc k) w h s l b = let z : 0 < 0 = b 0 (omega arith) in absurd (omega arith)
look_new ds c d (suc q ∷ slots) (suc k) w h s l b =
    let n : suc q ≤ length ds = w 0 in
    subst (λ (y : CellData). (if same_cell y c then Some q else looked (ds ++ d ∷ []) c (set slots k (suc (length ds)))) ≡ Some (length ds)) (sym (at_still d ds q (omega arith)))
    (subst (λ (t : Bool). (if t then Some q else looked (ds ++ d ∷ []) c (set slots k (suc (length ds)))) ≡ Some (length ds)) (sym (at_other c ds q h (omega arith)))
    (look_new ds c d slots k (λ i. w (suc i)) h s (omega arith) (λ j m. b (suc j) (omega arith))))

within_set : (n : ℕ) (slots : List ℕ) (k i : ℕ) → AreWithin n slots → get_or (set slots k (suc n)) i 0 ≤ suc n
within_set n [] k i w = omega arith
within_set n (x ∷ slots) zero zero w = omega arith
within_set n (x ∷ slots) zero (suc i) w = let l : get_or slots i 0 ≤ n = w (suc i) in omega arith
within_set n (x ∷ slots) (suc k) zero w = let l : x ≤ n = w 0 in omega arith
within_set n (x ∷ slots) (suc k) (suc i) w = within_set n slots k i (λ j. w (suc j))

-- the same where one cell comes more
within_more : (ds : List CellData) (d : CellData) (slots : List ℕ) (k i : ℕ) → AreWithin (length ds) slots → get_or (set slots k (suc (length ds))) i 0 ≤ length (ds ++ d ∷ [])
within_more ds d slots k i w =
    let n : length (ds ++ d ∷ []) ≡ length ds + 1 = length_push ds d in
    let l : get_or (set slots k (suc (length ds))) i 0 ≤ suc (length ds) = within_set (length ds) slots k i w in
    omega arith

-- A walk in slots where k is written, or where k is past them. Where the cell is the same as the new one, k is in them, and
-- the first empty slot.
look_more : (ds : List CellData) (c d : CellData) (slots : List ℕ) (k : ℕ) → AreWithin (length ds) slots → looked ds c slots ≡ known_place c ds → get_or slots k 0 ≡ 0
    → (same_cell d c ≡ true → (k < length slots) × ((j : ℕ) → j < k → 0 < get_or slots j 0)) → looked (ds ++ d ∷ []) c (set slots k (suc (length ds))) ≡ known_place c (ds ++ d ∷ [])
look_more ds c d slots k w f z new = go (has_cell c ds) refl (same_cell d c) refl
  where
    go : (b : Bool) → has_cell c ds ≡ b → (e : Bool) → same_cell d c ≡ e → looked (ds ++ d ∷ []) c (set slots k (suc (length ds))) ≡ known_place c (ds ++ d ∷ [])
    go true h e s = look_still ds c d slots k (suc (length ds)) (place_in c ds) w z (f ∙ known_some c ds h) ∙ sym (known_still c d ds h)
    go false h true s = look_new ds c d slots k w h s (new s).0 (new s).1 ∙ sym (known_new c d ds h s)
    go false h false s =
        look_none (ds ++ d ∷ []) c (set slots k (suc (length ds))) (λ i. within_more ds d slots k i w) (has_none c d ds h s)
        ∙ sym (known_none c (ds ++ d ∷ []) (has_none c d ds h s))

pub within_drop : (n s : ℕ) (slots : List ℕ) → AreWithin n slots → (i : ℕ) → get_or (drop s slots) i 0 ≤ n
within_drop n s slots w i = let l : get_or slots (s + i) 0 ≤ n = w (s + i) in subst (λ (x : ℕ). x ≤ n) (sym (get_or-drop s slots i 0)) l

-- the walk from first slot s, where the new cell's is t and `at` the first empty slot from t on
walk_more : (ds : List CellData) (c d : CellData) (slots : List ℕ) (s t at : ℕ) → AreWithin (length ds) slots → looked ds c (drop s slots) ≡ known_place c ds
    → (same_cell d c ≡ true → t ≡ s) → t ≤ at → at < length slots → get_or slots at 0 ≡ 0 → ((j : ℕ) → t ≤ j → j < at → 0 < get_or slots j 0)
    → looked (ds ++ d ∷ []) c (drop s (set slots at (suc (length ds)))) ≡ known_place c (ds ++ d ∷ [])
walk_more ds c d slots s t at w f same le lt z b = ⊎_elim behind before (cases_lt at s)
  where
    -- the walk begins behind the slot
    behind : at < s → looked (ds ++ d ∷ []) c (drop s (set slots at (suc (length ds)))) ≡ known_place c (ds ++ d ∷ [])
    behind l =
        ap (looked (ds ++ d ∷ []) c) (drop-set-lt s slots at (suc (length ds)) l ∙ sym (set_past (drop s slots) (length (drop s slots)) (suc (length ds)) (omega arith)))
        ∙ look_more ds c d (drop s slots) (length (drop s slots)) (within_drop (length ds) s slots w) f (get_or_past (drop s slots) (length (drop s slots)) 0 (omega arith))
        (λ e. let h : t ≡ s = same e in absurd (omega arith))

    before : s ≤ at → looked (ds ++ d ∷ []) c (drop s (set slots at (suc (length ds)))) ≡ known_place c (ds ++ d ∷ [])
    before l =
        let e : s + (at - s) ≡ at = omega arith in
        let n : length (drop s slots) ≡ length slots - s = length-drop s slots in
        subst (λ (i : ℕ). looked (ds ++ d ∷ []) c (drop s (set slots i (suc (length ds)))) ≡ known_place c (ds ++ d ∷ [])) e
        (ap (looked (ds ++ d ∷ []) c) (drop-set-add s slots (at - s) (suc (length ds)))
        ∙ look_more ds c d (drop s slots) (at - s) (within_drop (length ds) s slots w) f (get_or-drop s slots (at - s) 0 ∙ ap (λ (i : ℕ). get_or slots i 0) e ∙ z)
        (λ x. let h : t ≡ s = same x in (
          (let m : at - s < length (drop s slots) = omega arith in m),
          λ j m. subst (λ (y : ℕ). 0 < y) (sym (get_or-drop s slots j 0)) (b (s + j) (omega arith) (omega arith)),
        )))

-- ---- how many slots are taken

taken_set : (slots : List ℕ) (k v : ℕ) → k < length slots → get_or slots k 0 ≡ 0 → taken (set slots k (suc v)) ≡ suc (taken slots)
taken_set [] k v l z = absurd (omega arith)
taken_set (zero ∷ slots) zero v l z = refl
taken_set (suc q ∷ slots) zero v l z = let n : suc q ≡ 0 = z in absurd (omega arith)
taken_set (zero ∷ slots) (suc k) v l z = taken_set slots k v (omega arith) z
taken_set (suc q ∷ slots) (suc k) v l z = ap suc (taken_set slots k v (omega arith) z)

taken_all : (slots : List ℕ) → ((j : ℕ) → j < length slots → 0 < get_or slots j 0) → length slots ≤ taken slots
taken_all [] h = omega arith
taken_all (zero ∷ slots) h = let z : 0 < 0 = h 0 (omega arith) in absurd (omega arith)
taken_all (suc q ∷ slots) h = let r : length slots ≤ taken slots = taken_all slots (λ j l. h (suc j) (omega arith)) in omega arith

taken_drop : (s : ℕ) (slots : List ℕ) → taken (drop s slots) ≤ taken slots
taken_drop zero slots = omega arith
taken_drop (suc s) [] = omega arith
taken_drop (suc s) (zero ∷ slots) = taken_drop s slots
taken_drop (suc s) (suc q ∷ slots) = let r : taken (drop s slots) ≤ taken slots = taken_drop s slots in omega arith

-- a slot is empty where fewer are taken than there are
pub some_empty : (slots : List ℕ) (s : ℕ) → s + taken slots < length slots → ((j : ℕ) → s ≤ j → j < length slots → 0 < get_or slots j 0) → ⊥
some_empty slots s l b =
    let n : length (drop s slots) ≡ length slots - s = length-drop s slots in
    let few : taken (drop s slots) ≤ taken slots = taken_drop s slots in
    let full : length (drop s slots) ≤ taken (drop s slots) = taken_all (drop s slots) (λ j m. subst (λ (y : ℕ). 0 < y) (sym (get_or-drop s slots j 0)) (b (s + j) (omega arith) (omega arith))) in
    absurd (omega arith)

-- ---- kept

-- the place of one more cell in the first empty slot of its walk
pub kept_more : (ds : List CellData) (mask : ℕ) (slots : List ℕ) (d : CellData) (at : ℕ) → Kept ds mask slots → IsFree (first_slot mask d) slots at → Kept (ds ++ d ∷ []) mask (set slots at (suc (length ds)))
kept_more ds mask slots d at kept free =
    let n : length (ds ++ d ∷ []) ≡ length ds + 1 = length_push ds d in
    let few : taken slots ≤ length ds = kept.few in
    let more : taken (set slots at (suc (length ds))) ≡ suc (taken slots) = taken_set slots at (length ds) free.within free.empty in
    let len : length (set slots at (suc (length ds))) ≡ length slots = length-set slots at (suc (length ds)) in
    let masked : mask ≤ length slots = kept.masked in
    record {
      within = λ i. within_more ds d slots at i kept.within;
      found = λ c. walk_more ds c d slots (first_slot mask c) (first_slot mask d) at kept.within (kept.found c) (λ s. ap (λ (h : ℕ). bit_and h mask) (same_hash d c s)) free.behind free.within free.empty free.before;
      few = omega arith;
      masked = omega arith;
    }

look_nothing : (c : CellData) (n : ℕ) → looked [] c (replicate n 0) ≡ None
look_nothing c zero = refl
look_nothing c (suc n) = refl

taken_nothing : (n : ℕ) → taken (replicate n 0) ≡ 0
taken_nothing zero = refl
taken_nothing (suc n) = taken_nothing n

within_nothing : (n i : ℕ) → get_or (replicate n 0) i 0 ≤ 0
within_nothing zero i = omega arith
within_nothing (suc n) zero = omega arith
within_nothing (suc n) (suc i) = within_nothing n i

-- empty slots of no cells
pub kept_none : (mask n : ℕ) (slots : List ℕ) → slots ≡ replicate n 0 → mask ≤ n → Kept [] mask slots
kept_none mask n slots e l = subst (λ (z : List ℕ). Kept [] mask z) (sym e) (record {
  within = within_nothing n;
  found = λ c. ap (looked [] c) (drop-replicate (first_slot mask c) n 0) ∙ look_nothing c (n - first_slot mask c);
  few = (let z : taken (replicate n 0) ≡ 0 = taken_nothing n in omega arith);
  masked = (let z : length (replicate {A = ℕ} n 0) ≡ n = length-replicate {A = ℕ} n 0 in omega arith);
})

-- ---- of cells in code

-- a cell behind the others
pub kept_pushed : (cells : List Cell) (x : Cell) (mask : ℕ) (slots : List ℕ) (at v : ℕ) → v ≡ length cells + 1 → Kept (map tree cells) mask slots → IsFree (first_slot mask (tree x)) slots at
    → Kept (map tree (cells ++ x ∷ [])) mask (set slots at v)
kept_pushed cells x mask slots at v e kept free =
    let n : length (map tree cells) ≡ length cells = length-map cells tree in
    let m : suc (length (map tree cells)) ≡ v = omega arith in
    subst (λ (ds : List CellData). Kept ds mask (set slots at v)) (sym (map_push tree cells x))
    (subst (λ (i : ℕ). Kept (map tree cells ++ tree x ∷ []) mask (set slots at i)) m (kept_more (map tree cells) mask slots (tree x) at kept free))

-- the next of the cells
pub kept_next : (cells : List Cell) (k : ℕ) (x : Cell) (mask : ℕ) (slots : List ℕ) (at v : ℕ) → k < length cells → x ≡ get_or cells k x → v ≡ k + 1 → Kept (map tree (take k cells)) mask slots
    → IsFree (first_slot mask (tree x)) slots at → Kept (map tree (take (k + 1) cells)) mask (set slots at v)
kept_next cells k x mask slots at v l is e kept free =
    let n : length (map tree (take k cells)) ≡ length (take k cells) = length-map (take k cells) tree in
    let j : length (take k cells) ≡ k = length-take-le k cells (omega arith) in
    let m : suc (length (map tree (take k cells))) ≡ v = omega arith in
    subst (λ (ds : List CellData). Kept ds mask (set slots at v)) (ap (λ (y : Cell). map tree (take k cells) ++ tree y ∷ []) is ∙ sym (map_more tree cells k x l))
    (subst (λ (i : ℕ). Kept (map tree (take k cells) ++ tree x ∷ []) mask (set slots at i)) m (kept_more (map tree (take k cells)) mask slots (tree x) at kept free))

-- there is room for the next
pub next_room : (cells : List Cell) (k mask firsts : ℕ) (slots : List ℕ) → k < length cells → Kept (map tree (take k cells)) mask slots → 2 * (length cells + 1) ≤ firsts → mask ≡ firsts - 1 → length slots ≡ firsts + firsts / 2
    → mask + taken slots < length slots
next_room cells k mask firsts slots l kept some e n =
    let few : taken slots ≤ length (map tree (take k cells)) = kept.few in
    let m : length (map tree (take k cells)) ≡ length (take k cells) = length-map (take k cells) tree in
    let j : length (take k cells) ≡ k = length-take-le k cells (omega arith) in
    omega arith

pub kept_all : (cells : List Cell) (k mask : ℕ) (slots : List ℕ) → length cells ≤ k → Kept (map tree (take k cells)) mask slots → Kept (map tree cells) mask slots
kept_all cells k mask slots l kept = subst (λ (xs : List Cell). Kept (map tree xs) mask slots) (take_all k cells l) kept
