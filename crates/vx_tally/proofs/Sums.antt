-- Sums of nodes of one row, and of the row below.
use Rattle.std.proofs.Common.{◌≡◌, ◌≢◌, ℕ, zero, suc, ◌+◌, ◌-◌, ◌*◌, ◌^◌, ◌<◌, ◌≤◌, ◌⊎◌, Bool, true, false, cond, nat_eq, min, List, [], ◌∷◌, length, take, drop, get_or, sum, refl, sym, ap, ◌∙◌, subst, inl, inr, arith, length-drop, length-take-le, get_or-take, get_or-drop, take_all}
use Rattle.std.proofs.lemmas.Bool.Decides.{nat_tests}
use Rattle.std.proofs.lemmas.List.Sums.{sum_by_more}
use Rattle.vx_tally.specs.Nodes.{SummedFrom, IsDoubled, sum_from, IsTree, Descends}

-- the children of so many nodes sum to what these sum to, as far as 64 bits go

children : (nodes : List ℕ) (w i : ℕ) → (get_or nodes (2 * (w + i)) 0 ≡ get_or nodes (2 * w + 2 * i) 0) × (get_or nodes (2 * (w + i) + 1) 0 ≡ get_or nodes (2 * w + suc (2 * i)) 0)
children nodes w i =
    let a : 2 * (w + i) ≡ 2 * w + 2 * i = omega arith in
    let b : 2 * (w + i) + 1 ≡ 2 * w + suc (2 * i) = omega arith in
    (ap (λ z. get_or nodes z 0) a, ap (λ z. get_or nodes z 0) b)

twice : (nodes : List ℕ) (w i : ℕ) → sum_from nodes (2 * w) (2 * suc i) ≡ sum_from nodes (2 * w) (2 * i) + get_or nodes (2 * w + 2 * i) 0 + get_or nodes (2 * w + suc (2 * i)) 0
twice nodes w i = let e : 2 * suc i ≡ suc (suc (2 * i)) = omega arith in ap (sum_from nodes (2 * w)) e

pub row_below : (nodes : List ℕ) (half w i : ℕ) → SummedFrom nodes half 1 → 1 ≤ w → w + i ≤ half → sum_from nodes w i < 2 ^ 64 - 1
    → sum_from nodes (2 * w) (2 * i) ≡ sum_from nodes w i
row_below nodes half w zero h o l s = refl
row_below nodes half w (suc i) h o l s =
    let a : get_or nodes (w + i) 0 ≡ min (get_or nodes (2 * (w + i)) 0 + get_or nodes (2 * (w + i) + 1) 0) (2 ^ 64 - 1) = h (w + i) (omega arith) (omega arith) in
    let b : (get_or nodes (2 * (w + i)) 0 ≡ get_or nodes (2 * w + 2 * i) 0) × (get_or nodes (2 * (w + i) + 1) 0 ≡ get_or nodes (2 * w + suc (2 * i)) 0) = children nodes w i in
    let r : sum_from nodes (2 * w) (2 * i) ≡ sum_from nodes w i = row_below nodes half w i h o (omega arith) (omega arith) in
    let t : sum_from nodes (2 * w) (2 * suc i) ≡ sum_from nodes (2 * w) (2 * i) + get_or nodes (2 * w + 2 * i) 0 + get_or nodes (2 * w + suc (2 * i)) 0 = twice nodes w i in
    omega (arith, a, b.0, b.1, r, t, s)

row_capped : (nodes : List ℕ) (half w i : ℕ) → SummedFrom nodes half 1 → 1 ≤ w → w + i ≤ half
    → min (sum_from nodes (2 * w) (2 * i)) (2 ^ 64 - 1) ≡ min (sum_from nodes w i) (2 ^ 64 - 1)
row_capped nodes half w zero h o l = refl
row_capped nodes half w (suc i) h o l =
    let a : get_or nodes (w + i) 0 ≡ min (get_or nodes (2 * (w + i)) 0 + get_or nodes (2 * (w + i) + 1) 0) (2 ^ 64 - 1) = h (w + i) (omega arith) (omega arith) in
    let b : (get_or nodes (2 * (w + i)) 0 ≡ get_or nodes (2 * w + 2 * i) 0) × (get_or nodes (2 * (w + i) + 1) 0 ≡ get_or nodes (2 * w + suc (2 * i)) 0) = children nodes w i in
    let r : min (sum_from nodes (2 * w) (2 * i)) (2 ^ 64 - 1) ≡ min (sum_from nodes w i) (2 ^ 64 - 1) = row_capped nodes half w i h o (omega arith) in
    let t : sum_from nodes (2 * w) (2 * suc i) ≡ sum_from nodes (2 * w) (2 * i) + get_or nodes (2 * w + 2 * i) 0 + get_or nodes (2 * w + suc (2 * i)) 0 = twice nodes w i in
    omega (arith, a, b.0, b.1, r, t)

-- what is doubled isn't smaller

pub doubled_le : (j w m : ℕ) → IsDoubled j w m → w ≤ m
doubled_le zero w m d = omega (arith, d)
doubled_le (suc j) w m d = omega (arith, doubled_le j (2 * w) m d)

pub doubled_more : (j w m : ℕ) → IsDoubled j w m → IsDoubled (suc j) w (2 * m)
doubled_more zero w m d = ap (λ z. 2 * z) d
doubled_more (suc j) w m d = doubled_more j (2 * w) m d

pub doubled_on : (j w m : ℕ) → IsDoubled j w m → w < m → (i : ℕ) × IsDoubled i (2 * w) m
doubled_on zero w m d l = absurd (omega (arith, d, l))
doubled_on (suc j) w m d l = (j, d)

-- the node at the top is the sum of all leaves

climbed : (nodes : List ℕ) (half j w : ℕ) → IsDoubled j w half → 1 ≤ w → SummedFrom nodes half 1
    → min (sum_from nodes w w) (2 ^ 64 - 1) ≡ min (sum_from nodes half half) (2 ^ 64 - 1)
climbed nodes half zero w d o h = ap (λ z. min (sum_from nodes z z) (2 ^ 64 - 1)) d
climbed nodes half (suc j) w d o h =
    let l : 2 * w ≤ half = doubled_le j (2 * w) half d in
    sym (row_capped nodes half w w h o (omega arith)) ∙ climbed nodes half j (2 * w) d (omega arith) h

pub top_is : (nodes : List ℕ) (half : ℕ) → ((j : ℕ) × IsDoubled j 1 half) → SummedFrom nodes half 1
    → min (get_or nodes 1 0) (2 ^ 64 - 1) ≡ min (sum_from nodes half half) (2 ^ 64 - 1)
top_is nodes half d h =
    let c : min (sum_from nodes 1 1) (2 ^ 64 - 1) ≡ min (sum_from nodes half half) (2 ^ 64 - 1) = climbed nodes half d.0 1 d.1 (omega arith) h in
    let e : sum_from nodes 1 1 ≡ get_or nodes 1 0 = one (get_or nodes 1 0) in
    omega (arith, c, e)
  where
    one : (n : ℕ) → 0 + n ≡ n
    one n = omega arith

-- zeros add nothing
pub zeros_add : (nodes : List ℕ) (half len n : ℕ) → ((i : ℕ) → len ≤ i → i < half → get_or nodes (half + i) 0 ≡ 0) → len ≤ n → n ≤ half
    → sum_from nodes half n ≡ sum_from nodes half len
zeros_add nodes half len zero z l u = let e : len ≡ 0 = omega arith in rw e refl
zeros_add nodes half len (suc n) z l u = by (cases len n l) (λ h. zeros_add nodes half len n z h (omega arith))
  where
    cases : (a b : ℕ) → a ≤ suc b → (a ≡ suc b) ⊎ (a ≤ b)
    cases a b h = grind arith

    by : (len ≡ suc n) ⊎ (len ≤ n) → (len ≤ n → sum_from nodes half n ≡ sum_from nodes half len) → sum_from nodes half (suc n) ≡ sum_from nodes half len
    by (inl e) f = rw e refl
    by (inr h) f = omega (arith, f h, z n h (omega arith))

-- The counts, as a list.

abbrev pub counts : List ℕ → ℕ → ℕ → List ℕ
counts nodes half len = take len (drop half nodes)

pub length-counts : (nodes : List ℕ) (half len : ℕ) → length nodes ≡ 2 * half → len ≤ half → length (take len (drop half nodes)) ≡ len
length-counts nodes half len e l =
    let d : length (drop half nodes) ≡ length nodes - half = length-drop half nodes in
    length-take-le len (drop half nodes) (omega (arith, d, e, l))

pub get-counts : (nodes : List ℕ) (half len i : ℕ) → i < len → get_or (take len (drop half nodes)) i 0 ≡ get_or nodes (half + i) 0
get-counts nodes half len i l = get_or-take len (drop half nodes) i 0 l ∙ get_or-drop half nodes i 0

pub sum-counts : (nodes : List ℕ) (half len n : ℕ) → length nodes ≡ 2 * half → len ≤ half → n ≤ len → sum (take n (take len (drop half nodes))) ≡ sum_from nodes half n
sum-counts nodes half len zero e l u = refl
sum-counts nodes half len (suc n) e l u =
    let k : length (take len (drop half nodes)) ≡ len = length-counts nodes half len e l in
    let m : sum (take (n + 1) (take len (drop half nodes))) ≡ sum (take n (take len (drop half nodes))) + get_or (take len (drop half nodes)) n 0 =
    sum_by_more (λ x. x) (take len (drop half nodes)) n 0 (omega arith) in
    let a : n + 1 ≡ suc n = omega arith in
    sym (ap (λ z. sum (take z (take len (drop half nodes)))) a) ∙ m
    ∙ ap (λ z. z + get_or (take len (drop half nodes)) n 0) (sum-counts nodes half len n e l (omega arith))
    ∙ ap (λ z. sum_from nodes half n + z) (get-counts nodes half len n (omega arith))

-- all of them sum to what the top has, as far as 64 bits go
pub sum-all : (nodes : List ℕ) (half len : ℕ) → IsTree nodes half len → min (sum (take len (drop half nodes))) (2 ^ 64 - 1) ≡ cond (nat_eq half 0) 0 (min (get_or nodes 1 0) (2 ^ 64 - 1))
sum-all nodes half len t = by t.levels
  where
    whole : sum (take len (drop half nodes)) ≡ sum_from nodes half len
    whole =
        let k : length (take len (drop half nodes)) ≡ len = length-counts nodes half len t.size t.room in
        ap sum (sym (take_all len (take len (drop half nodes)) (omega arith))) ∙ sum-counts nodes half len len t.size t.room (omega arith)

    zero_is : (n : ℕ) → n ≡ 0 → nat_eq n 0 ≡ true
    zero_is n e = rw e refl

    one_is : (n : ℕ) → 1 ≤ n → nat_eq n 0 ≡ false
    one_is n l = grind (arith, nat_tests)

    by : (half ≡ 0) ⊎ ((j : ℕ) × IsDoubled j 1 half) → min (sum (take len (drop half nodes))) (2 ^ 64 - 1) ≡ cond (nat_eq half 0) 0 (min (get_or nodes 1 0) (2 ^ 64 - 1))
    by (inl e) =
        let r : len ≤ half = t.room in
        let l : len ≡ 0 = omega (arith, r, e) in
        let z : nat_eq half 0 ≡ true = zero_is half e in
        rw (z, l) refl
    by (inr d) =
        let p : 1 ≤ half = doubled_le d.0 1 half d.1 in
        let z : nat_eq half 0 ≡ false = one_is half p in
        let a : min (get_or nodes 1 0) (2 ^ 64 - 1) ≡ min (sum_from nodes half half) (2 ^ 64 - 1) = top_is nodes half d t.sums in
        let b : sum_from nodes half half ≡ sum_from nodes half len = zeros_add nodes half len half t.zeros t.room (omega arith) in
        rw z (omega (arith, a, b, whole))

pub below_top : (nodes : List ℕ) (half len k : ℕ) → IsTree nodes half len → k < min (sum (take len (drop half nodes))) (2 ^ 64 - 1) → k < get_or nodes 1 0
below_top nodes half len k t h = by (nat_eq half 0) (sum-all nodes half len t)
  where
    by : (b : Bool) → min (sum (take len (drop half nodes))) (2 ^ 64 - 1) ≡ cond b 0 (min (get_or nodes 1 0) (2 ^ 64 - 1)) → k < get_or nodes 1 0
    by true e = absurd (omega (arith, e, h))
    by false e = omega (arith, e, h)

-- as it is read

same_place : (xs : List ℕ) (i a b : ℕ) → i < length xs → get_or xs i a ≡ get_or xs i b
same_place [] i a b l = absurd (omega arith)
same_place (x ∷ xs) zero a b l = refl
same_place (x ∷ xs) (suc i) a b l = same_place xs i a b (omega arith)

pub top_sum : (nodes : List ℕ) (half len x : ℕ) → IsTree nodes half len → (half ≡ 0 → ⊥) → x ≡ get_or nodes 1 x → x < 2 ^ 64 → x ≡ min (sum (take len (drop half nodes))) (2 ^ 64 - 1)
top_sum nodes half len x t n e f = by (nat_eq half 0) refl (sum-all nodes half len t)
  where
    two : length nodes ≡ 2 * half → half ≢ 0 → 1 < length nodes
    two s m = grind (arith, s, m)

    is : x ≡ get_or nodes 1 0
    is = e ∙ same_place nodes 1 x 0 (two t.size n)

    by : (b : Bool) → nat_eq half 0 ≡ b → min (sum (take len (drop half nodes))) (2 ^ 64 - 1) ≡ cond b 0 (min (get_or nodes 1 0) (2 ^ 64 - 1))
        → x ≡ min (sum (take len (drop half nodes))) (2 ^ 64 - 1)
    by true z s = absurd (n (grind (arith, nat_tests, z)))
    by false z s = omega (arith, s, is, f)

-- One step down.

pub down_left : (nodes : List ℕ) (half k width i rest : ℕ) → Descends nodes half k width i rest → SummedFrom nodes half 1 → k < 2 ^ 64 - 1 → width < half
    → rest < get_or nodes (2 * width + 2 * i) 0 → Descends nodes half k (2 * width) (2 * i) rest
down_left nodes half k width i rest d h f l r =
    let o : (j : ℕ) × IsDoubled j (2 * width) half = doubled_on d.doubled.0 width half d.doubled.1 l in
    let u : 2 * width ≤ half = doubled_le o.0 (2 * width) half o.1 in
    let p : sum_from nodes width i + rest ≡ k = d.place in
    let w : i < width = d.within in
    let s : sum_from nodes (2 * width) (2 * i) ≡ sum_from nodes width i = row_below nodes half width i h (omega arith) (omega arith) (omega arith) in
    record { doubled = o; within = omega arith; place = omega (arith, s, p); inside = r }

pub down_right : (nodes : List ℕ) (half k width i rest : ℕ) → Descends nodes half k width i rest → SummedFrom nodes half 1 → k < 2 ^ 64 - 1 → width < half
    → get_or nodes (2 * width + 2 * i) 0 ≤ rest → Descends nodes half k (2 * width) (2 * i + 1) (rest - get_or nodes (2 * width + 2 * i) 0)
down_right nodes half k width i rest d h f l r =
    let o : (j : ℕ) × IsDoubled j (2 * width) half = doubled_on d.doubled.0 width half d.doubled.1 l in
    let u : 2 * width ≤ half = doubled_le o.0 (2 * width) half o.1 in
    let p : sum_from nodes width i + rest ≡ k = d.place in
    let w : i < width = d.within in
    let n : rest < get_or nodes (width + i) 0 = d.inside in
    let s : sum_from nodes (2 * width) (2 * i) ≡ sum_from nodes width i = row_below nodes half width i h (omega arith) (omega arith) (omega arith) in
    let a : get_or nodes (width + i) 0 ≡ min (get_or nodes (2 * (width + i)) 0 + get_or nodes (2 * (width + i) + 1) 0) (2 ^ 64 - 1) = h (width + i) (omega arith) (omega arith) in
    let b : (get_or nodes (2 * (width + i)) 0 ≡ get_or nodes (2 * width + 2 * i) 0) × (get_or nodes (2 * (width + i) + 1) 0 ≡ get_or nodes (2 * width + suc (2 * i)) 0) = children nodes width i in
    let e : 2 * i + 1 ≡ suc (2 * i) = omega arith in
    let g : get_or nodes (2 * width + (2 * i + 1)) 0 ≡ get_or nodes (2 * width + suc (2 * i)) 0 = ap (λ z. get_or nodes (2 * width + z) 0) e in
    let t : sum_from nodes (2 * width) (2 * i + 1) ≡ sum_from nodes (2 * width) (2 * i) + get_or nodes (2 * width + 2 * i) 0 = ap (sum_from nodes (2 * width)) e in
    record { doubled = o; within = omega arith; place = omega (arith, s, p, t, r); inside = omega (arith, n, a, b.0, b.1, g, r) }

pub at_bottom : (nodes : List ℕ) (half k width i rest : ℕ) → Descends nodes half k width i rest → half ≤ width → (sum_from nodes half i + rest ≡ k) × (rest < get_or nodes (half + i) 0)
at_bottom nodes half k width i rest d l =
    let u : width ≤ half = doubled_le d.doubled.0 width half d.doubled.1 in
    let e : width ≡ half = omega arith in
    (subst (λ z. sum_from nodes z i + rest ≡ k) e d.place, subst (λ z. rest < get_or nodes (z + i) 0) e d.inside)

pub has_below : (nodes : List ℕ) (half k width i rest : ℕ) → Descends nodes half k width i rest → width < half → length nodes ≡ 2 * half → 2 * width + 2 * i < length nodes
has_below nodes half k width i rest d l s =
    let o : (j : ℕ) × IsDoubled j (2 * width) half = doubled_on d.doubled.0 width half d.doubled.1 l in
    let u : 2 * width ≤ half = doubled_le o.0 (2 * width) half o.1 in
    let w : i < width = d.within in
    omega arith

-- a leaf that isn't zero is a count
pub is_count : (nodes : List ℕ) (half len i r : ℕ) → IsTree nodes half len → i < half → r < get_or nodes (half + i) 0 → i < len
is_count nodes half len i r t l h = by (cases i len)
  where
    cases : (a b : ℕ) → (a < b) ⊎ (b ≤ a)
    cases a b = grind arith

    by : (i < len) ⊎ (len ≤ i) → i < len
    by (inl u) = u
    by (inr u) = absurd (omega (arith, t.zeros i u l, h))
