-- The laws of paths.
use Rattle.std.proofs.Common.{◌≡◌, ℕ, ◌+◌, ◌<◌, ◌≤◌, ◌⊎◌, Bool, true, false, cond, not, nat_eq, nat_lt, ◌&&◌, ◌||◌, List, [], ◌∷◌, ◌++◌, refl, sym, ap, ap₂, ◌∙◌, subst, inl, inr, ⊎_elim, arith}
use Rattle.std.proofs.lemmas.Bool.{cases_Bool, and_parts, and_from, true≢false}
use Rattle.std.proofs.lemmas.Bool.Decides.{nat_tests}
use Rattle.std.proofs.lemmas.Cmp.{same_from_slice_cmp}
use Rattle.std.specs.Cmp.Lexicographic.{slice_cmp}
use Rattle.std.specs.Ordering.{nat_cmp, is_le}
use Rattle.vx_path.specs.Lists.{In}
use Rattle.vx_path.specs.Path.{path_le, path_lt, begins, meets, is_least, under, Eof, raised, eof_path, inside, next, Region, Before}

-- One index of both paths: what it tells, and what tells it.

pub le_parts : (i j : ℕ) (b : Bool) → cond (nat_eq i j) b (nat_lt i j) ≡ true → (i < j) ⊎ ((i ≡ j) × (b ≡ true))
le_parts i j b h = grind (arith, nat_tests)

pub le_less : (i j : ℕ) (b : Bool) → i < j → cond (nat_eq i j) b (nat_lt i j) ≡ true
le_less i j b h = grind (arith, nat_tests)

pub le_same : (i : ℕ) (b : Bool) → cond (nat_eq i i) b (nat_lt i i) ≡ b
le_same i b = grind (arith, nat_tests)

pub gt_parts : (i j : ℕ) (b : Bool) → cond (nat_eq i j) b (nat_lt i j) ≡ false → (j < i) ⊎ ((i ≡ j) × (b ≡ false))
gt_parts i j b h = grind (arith, nat_tests)

begins_parts : (i j : ℕ) (b : Bool) → (nat_eq i j && b) ≡ true → (i ≡ j) × (b ≡ true)
begins_parts i j b h = grind (arith, nat_tests)

begins_same : (i : ℕ) (b : Bool) → b ≡ true → (nat_eq i i && b) ≡ true
begins_same i b h = grind (arith, nat_tests)

trans_head : (i j k : ℕ) (x y z : Bool) → (x ≡ true → y ≡ true → z ≡ true) → cond (nat_eq i j) x (nat_lt i j) ≡ true
    → cond (nat_eq j k) y (nat_lt j k) ≡ true → cond (nat_eq i k) z (nat_lt i k) ≡ true
trans_head i j k x y z f a b = grind (arith, nat_tests)

total_head : (i j : ℕ) (a b : Bool) → (a ≡ true) ⊎ (b ≡ true)
    → (cond (nat_eq i j) a (nat_lt i j) ≡ true) ⊎ (cond (nat_eq j i) b (nat_lt j i) ≡ true)
total_head i j a b h = grind (arith, nat_tests)

both_heads : (i j : ℕ) (x y : Bool) → cond (nat_eq i j) x (nat_lt i j) ≡ true → cond (nat_eq j i) y (nat_lt j i) ≡ true
    → (i ≡ j) × (x ≡ true) × (y ≡ true)
both_heads i j x y a b = grind (arith, nat_tests)

below_itself : (b : Bool) → not b ≡ true → b ≡ true → ⊥
below_itself b h e = true≢false (sym (sym (ap not e) ∙ h))

clash : (b : Bool) → b ≡ false → b ≡ true → ⊥
clash b f t = true≢false (sym t ∙ f)

or_comm : (a b : Bool) → (a || b) ≡ (b || a)
or_comm a b = grind (arith, nat_tests)

or_left : (a b : Bool) → a ≡ true → (a || b) ≡ true
or_left a b h = grind (arith, nat_tests)

or_either : (a b : Bool) → (a || b) ≡ true → (a ≡ true) ⊎ (b ≡ true)
or_either a b h = grind (arith, nat_tests)

meets_same : (k : ℕ) (a b : Bool) → (a || b) ≡ true → (nat_eq k k && a || nat_eq k k && b) ≡ true
meets_same k a b h = grind (arith, nat_tests)

meets_rest : (i j : ℕ) (a b : Bool) → j ≡ i → (nat_eq i j && a || nat_eq j i && b) ≡ false → (a || b) ≡ false
meets_rest i j a b e h = grind (arith, nat_tests)

apart_heads : (i j : ℕ) (a b : Bool) → i < j → (nat_eq i j && a || nat_eq j i && b) ≡ false
apart_heads i j a b h = grind (arith, nat_tests)

apart_rest : (k : ℕ) (a b : Bool) → (a || b) ≡ false → (nat_eq k k && a || nat_eq k k && b) ≡ false
apart_rest k a b h = grind (arith, nat_tests)

lt_less : (i j : ℕ) (b : Bool) → j < i → not (cond (nat_eq i j) b (nat_lt i j)) ≡ true
lt_less i j b h = grind (arith, nat_tests)

lt_same : (i : ℕ) (b : Bool) → not b ≡ true → not (cond (nat_eq i i) b (nat_lt i i)) ≡ true
lt_same i b h = grind (arith, nat_tests)

lt_parts : (i j : ℕ) (b : Bool) → not (cond (nat_eq i j) b (nat_lt i j)) ≡ true → (j < i) ⊎ ((i ≡ j) × (b ≡ false))
lt_parts i j b h = grind (arith, nat_tests)

le_upto : (i j : ℕ) → i ≤ j → cond (nat_eq i j) true (nat_lt i j) ≡ true
le_upto i j h = grind (arith, nat_tests)

-- The order.

pub path_le-refl : (p : List ℕ) → path_le p p ≡ true
path_le-refl [] = refl
path_le-refl (i ∷ p) = le_same i (path_le p p) ∙ path_le-refl p

pub path_le-total : (p q : List ℕ) → (path_le p q ≡ true) ⊎ (path_le q p ≡ true)
path_le-total [] q = inl refl
path_le-total (i ∷ p) [] = inr refl
path_le-total (i ∷ p) (j ∷ q) = total_head i j (path_le p q) (path_le q p) (path_le-total p q)

pub path_le-trans : (p q r : List ℕ) → path_le p q ≡ true → path_le q r ≡ true → path_le p r ≡ true
path_le-trans [] q r a b = refl
path_le-trans (i ∷ p) [] r a b = cc
path_le-trans (i ∷ p) (j ∷ q) [] a b = cc
path_le-trans (i ∷ p) (j ∷ q) (k ∷ r) a b =
    go (path_le p q) (path_le q r) (path_le p r) (path_le-trans p q r) a b
  where
    go : (x y z : Bool) → (x ≡ true → y ≡ true → z ≡ true) → cond (nat_eq i j) x (nat_lt i j) ≡ true
        → cond (nat_eq j k) y (nat_lt j k) ≡ true → cond (nat_eq i k) z (nat_lt i k) ≡ true
    go x y z f a b = trans_head i j k x y z f a b

pub path_le-antisym : (p q : List ℕ) → path_le p q ≡ true → path_le q p ≡ true → p ≡ q
path_le-antisym [] [] a b = refl
path_le-antisym [] (j ∷ q) a b = cc
path_le-antisym (i ∷ p) [] a b = cc
path_le-antisym (i ∷ p) (j ∷ q) a b =
    let h : (i ≡ j) × (path_le p q ≡ true) × (path_le q p ≡ true) = both_heads i j (path_le p q) (path_le q p) a b in
    ap₂ (λ x y. x ∷ y) h.0 (path_le-antisym p q h.1 h.2)

pub lt_le : (p q : List ℕ) → path_lt p q ≡ true → path_le p q ≡ true
lt_le p q h = ⊎_elim (λ a. a) (λ b. absurd (below_itself (path_le q p) h b)) (path_le-total p q)

pub not_le : (p q : List ℕ) → path_le q p ≡ false → path_lt p q ≡ true
not_le p q h = ap not h

pub le_or_lt : (p q : List ℕ) → (path_le p q ≡ true) ⊎ (path_lt q p ≡ true)
le_or_lt p q = ⊎_elim (λ a. inl a) (λ b. inr (ap not b)) (cases_Bool (path_le p q))

pub lt_irrefl : (p : List ℕ) → path_lt p p ≡ true → ⊥
lt_irrefl p h = below_itself (path_le p p) h (path_le-refl p)

pub lt_not_le : (p q : List ℕ) → path_lt p q ≡ true → path_le q p ≡ true → ⊥
lt_not_le p q h b = below_itself (path_le q p) h b

pub lt_le_trans : (p q r : List ℕ) → path_lt p q ≡ true → path_le q r ≡ true → path_lt p r ≡ true
lt_le_trans p q r h b = ⊎_elim (λ a. absurd (lt_not_le p q h (path_le-trans q r p b a))) (λ c. c) (le_or_lt r p)

pub le_lt_trans : (p q r : List ℕ) → path_le p q ≡ true → path_lt q r ≡ true → path_lt p r ≡ true
le_lt_trans p q r a h = ⊎_elim (λ b. absurd (lt_not_le q r h (path_le-trans r p q b a))) (λ c. c) (le_or_lt r p)

-- Prefixes.

pub begins-refl : (p : List ℕ) → begins p p ≡ true
begins-refl [] = refl
begins-refl (i ∷ p) = begins_same i (begins p p) (begins-refl p)

pub begins-trans : (p q r : List ℕ) → begins p q ≡ true → begins q r ≡ true → begins p r ≡ true
begins-trans [] q r a b = refl
begins-trans (i ∷ p) [] r a b = cc
begins-trans (i ∷ p) (j ∷ q) [] a b = cc
begins-trans (i ∷ p) (j ∷ q) (k ∷ r) a b =
    let x : (i ≡ j) × (begins p q ≡ true) = begins_parts i j (begins p q) a in
    let y : (j ≡ k) × (begins q r ≡ true) = begins_parts j k (begins q r) b in
    rw (x.0, y.0) (begins_same k (begins p r) (begins-trans p q r x.1 y.1))

pub begins-append : (p x : List ℕ) → begins p (p ++ x) ≡ true
begins-append [] x = refl
begins-append (i ∷ p) x = begins_same i (begins p (p ++ x)) (begins-append p x)

pub begins_rest : (p x : List ℕ) → begins p x ≡ true → (y : List ℕ) × (x ≡ p ++ y)
begins_rest [] x h = (x, refl)
begins_rest (i ∷ p) [] h = cc
begins_rest (i ∷ p) (j ∷ x) h =
    let a : (i ≡ j) × (begins p x ≡ true) = begins_parts i j (begins p x) h in
    let r : (y : List ℕ) × (x ≡ p ++ y) = begins_rest p x a.1 in
    (r.0, ap₂ (λ a b. a ∷ b) (sym a.0) r.1)

pub begins-under : (p : List ℕ) (j : ℕ) → begins p (under p j) ≡ true
begins-under p j = begins-append p (j ∷ [])

-- a prefix is at most its extensions
pub begins_le : (p x : List ℕ) → begins p x ≡ true → path_le p x ≡ true
begins_le [] x h = refl
begins_le (i ∷ p) [] h = cc
begins_le (i ∷ p) (j ∷ x) h =
    let a : (i ≡ j) × (begins p x ≡ true) = begins_parts i j (begins p x) h in
    rw a.0 (le_same j (path_le p x) ∙ begins_le p x a.1)

pub meets-sym : (p q : List ℕ) → meets p q ≡ meets q p
meets-sym p q = or_comm (begins p q) (begins q p)

pub meets-refl : (p : List ℕ) → meets p p ≡ true
meets-refl p = or_left (begins p p) (begins p p) (begins-refl p)

-- two prefixes of one path meet
pub begins_both : (p q x : List ℕ) → begins p x ≡ true → begins q x ≡ true → meets p q ≡ true
begins_both [] q x a b = refl
begins_both (i ∷ p) [] x a b = refl
begins_both (i ∷ p) (j ∷ q) [] a b = cc
begins_both (i ∷ p) (j ∷ q) (k ∷ x) a b =
    let f : (i ≡ k) × (begins p x ≡ true) = begins_parts i k (begins p x) a in
    let g : (j ≡ k) × (begins q x ≡ true) = begins_parts j k (begins q x) b in
    rw (f.0, g.0) (meets_same k (begins p q) (begins q p) (begins_both p q x f.1 g.1))

-- paths that don't meet order what goes on from them
pub apart_lt : (p q x y : List ℕ) → path_lt p q ≡ true → meets p q ≡ false → begins p x ≡ true → begins q y ≡ true → path_lt x y ≡ true
apart_lt [] q x y a m b c = cc
apart_lt (i ∷ p) [] x y a m b c = cc
apart_lt (i ∷ p) (j ∷ q) [] y a m b c = cc
apart_lt (i ∷ p) (j ∷ q) (k ∷ x) [] a m b c = cc
apart_lt (i ∷ p) (j ∷ q) (k ∷ x) (l ∷ y) a m b c =
    let f : (i ≡ k) × (begins p x ≡ true) = begins_parts i k (begins p x) b in
    let g : (j ≡ l) × (begins q y ≡ true) = begins_parts j l (begins q y) c in
    ⊎_elim (λ d. let e : k < l = omega arith in lt_less l k (path_le y x) e)
    (λ d. rw (← f.0, ← g.0, ← d.0) (lt_same j (path_le y x)
    (apart_lt p q x y (ap not d.1) (meets_rest i j (begins p q) (begins q p) d.0 m) f.1 g.1)))
    (lt_parts j i (path_le q p) a)

-- a path that doesn't meet p goes on off p
pub apart_begins : (p q x : List ℕ) → meets p q ≡ false → begins p x ≡ true → meets x q ≡ false
apart_begins p q x m b =
    ⊎_elim (λ t. absurd (⊎_elim
    (λ u. clash (meets p q) m (or_left (begins p q) (begins q p) (begins-trans p x q b u)))
    (λ u. clash (meets p q) m (begins_both p q x b u))
    (or_either (begins x q) (begins q x) t))) (λ f. f) (cases_Bool (meets x q))

-- The eof paths e, e + 1, ..

pub under_lt : (s : List ℕ) (i j : ℕ) → i < j → path_lt (under s i) (under s j) ≡ true
under_lt [] i j h = lt_less j i true h
under_lt (k ∷ s) i j h = lt_same k (path_le (under s j) (under s i)) (under_lt s i j h)

pub under_apart : (s : List ℕ) (i j : ℕ) → i < j → meets (under s i) (under s j) ≡ false
under_apart [] i j h = apart_heads i j true true h
under_apart (k ∷ s) i j h = apart_rest k (begins (under s i) (under s j)) (begins (under s j) (under s i)) (under_apart s i j h)

pub under_le : (s : List ℕ) (i j : ℕ) → i ≤ j → path_le (under s i) (under s j) ≡ true
under_le [] i j h = le_upto i j h
under_le (k ∷ s) i j h = le_same k (path_le (under s i) (under s j)) ∙ under_le s i j h

pub raised_lt : (e : Eof) (i j : ℕ) → i < j → path_lt (raised e i) (raised e j) ≡ true
raised_lt e i j h = under_lt e.stem (e.last + i) (e.last + j) (omega arith)

pub raised_apart : (e : Eof) (i j : ℕ) → i < j → meets (raised e i) (raised e j) ≡ false
raised_apart e i j h = under_apart e.stem (e.last + i) (e.last + j) (omega arith)

-- what goes on from e + i is below what goes on from e + j for i below j
pub below_raised : (e : Eof) (i j : ℕ) (x y : List ℕ) → i < j → begins (raised e i) x ≡ true → begins (raised e j) y ≡ true → path_lt x y ≡ true
below_raised e i j x y h a b = apart_lt (raised e i) (raised e j) x y (raised_lt e i j h) (raised_apart e i j h) a b

-- the path itself is at most each that it is raised to, and all that goes on from those
pub le_raised : (e : Eof) (i j : ℕ) → i ≤ j → path_le (raised e i) (raised e j) ≡ true
le_raised e i j h = under_le e.stem (e.last + i) (e.last + j) (omega arith)

pub raised-next : (e : Eof) (j : ℕ) → raised (next e) j ≡ raised e (j + 1)
raised-next e j = ap (λ n. under e.stem n) (let h : e.last + 1 + j ≡ e.last + (j + 1) = omega arith in h)

pub raised-zero : (e : Eof) → raised e 0 ≡ eof_path e
raised-zero e = ap (λ n. under e.stem n) (let h : e.last + 0 ≡ e.last = omega arith in h)

pub begins-inside : (e : Eof) (j : ℕ) → begins (eof_path e) (raised (inside e) j) ≡ true
begins-inside e j = begins-append (eof_path e) ((0 + j) ∷ [])

-- Regions.

-- a stream whose paths go on from those of another has its region in the other's
pub region_from : (ps qs : List (List ℕ)) (e : Eof) (x : List ℕ) → ((p : List ℕ) → In p ps → (q : List ℕ) × In q qs × (begins q p ≡ true))
    → Region ps e x → Region qs e x
region_from ps qs e x f h =
    ⊎_elim (λ a. let r : (q : List ℕ) × In q qs × (begins q a.0 ≡ true) = f a.0 a.1 in
    inl (r.0, r.1, begins-trans r.0 a.0 x r.2 a.2)) (λ b. inr b) h

pub region_more : (ps qs : List (List ℕ)) (e : Eof) (x : List ℕ) → ((p : List ℕ) → In p ps → In p qs) → Region ps e x → Region qs e x
region_more ps qs e x f h = region_from ps qs e x (λ p i. (p, f p i, begins-refl p)) h

pub region_next : (ps : List (List ℕ)) (e : Eof) (x : List ℕ) → Region ps (next e) x → Region ps e x
region_next ps e x h = ⊎_elim (λ a. inl a) (λ b. inr (b.0 + 1, subst (λ y. begins y x ≡ true) (raised-next e b.0) b.1)) h

from_inside : (e : Eof) (j : ℕ) (x : List ℕ) → begins (raised (inside e) j) x ≡ true → begins (raised e 0) x ≡ true
from_inside e j x h = rw (raised-zero e) (begins-trans (eof_path e) (raised (inside e) j) x (begins-inside e j) h)

pub region_inside : (ps : List (List ℕ)) (e : Eof) (x : List ℕ) → Region ps (inside e) x → Region ps e x
region_inside ps e x h = ⊎_elim (λ a. inl a) (λ b. inr (0, from_inside e b.0 x b.1)) h

-- each path of a region is at least one of the stream, or the eof path
pub region_least : (ps : List (List ℕ)) (e : Eof) (x : List ℕ) → Region ps e x → ((p : List ℕ) × In p ps × (path_le p x ≡ true)) ⊎ (path_le (eof_path e) x ≡ true)
region_least ps e x h = ⊎_elim (λ a. inl (a.0, a.1, begins_le a.0 x a.2))
    (λ b. inr (path_le-trans (eof_path e) (raised e b.0) x
    (rw (← raised-zero e) (le_raised e 0 b.0 (omega arith))) (begins_le (raised e b.0) x b.1))) h

-- what a child writes inside e is below e + 1
pub region_below : (ps : List (List ℕ)) (e : Eof) (x : List ℕ) → Before ps e → Region ps (inside e) x → path_lt x (raised e 1) ≡ true
region_below ps e x f h = ⊎_elim
    (λ a. let r : (path_lt a.0 (raised e 1) ≡ true) × (meets a.0 (raised e 1) ≡ false) = f a.0 a.1 1 in
    apart_lt a.0 (raised e 1) x (raised e 1) r.0 r.1 a.2 (begins-refl (raised e 1)))
    (λ b. below_raised e 0 1 x (raised e 1) (omega arith)
    (from_inside e b.0 x b.1) (begins-refl (raised e 1))) h

-- The least path of a list.

pub is_least_in : (p : List ℕ) (ps : List (List ℕ)) → is_least p ps ≡ true → (q : List ℕ) → In q ps → path_le p q ≡ true
is_least_in p [] h q i = absurd i
is_least_in p (r ∷ ps) h q i =
    let a : (path_le p r ≡ true) × (is_least p ps ≡ true) = and_parts (path_le p r) (is_least p ps) h in
    ⊎_elim (λ e. rw e a.0) (λ t. is_least_in p ps a.1 q t) i

pub is_least_from : (p : List ℕ) (ps : List (List ℕ)) → ((q : List ℕ) → In q ps → path_le p q ≡ true) → is_least p ps ≡ true
is_least_from p [] f = refl
is_least_from p (r ∷ ps) f = and_from (path_le p r) (is_least p ps) (f r (inl refl)) (is_least_from p ps (λ q i. f q (inr i)))

-- a list with a path has a least one
pub least_in : (p : List ℕ) (ps : List (List ℕ)) → (q : List ℕ) × In q (p ∷ ps) × (is_least q (p ∷ ps) ≡ true)
least_in p [] = (p, inl refl, and_from (path_le p p) true (path_le-refl p) refl)
least_in p (r ∷ ps) =
    let h : (q : List ℕ) × In q (r ∷ ps) × (is_least q (r ∷ ps) ≡ true) = least_in r ps in
    ⊎_elim
    (λ a. (
      p,
      inl refl,
      and_from (path_le p p) (is_least p (r ∷ ps)) (path_le-refl p)
          (is_least_from p (r ∷ ps) (λ q i. path_le-trans p h.0 q a (is_least_in h.0 (r ∷ ps) h.2 q i))),
    ))
    (λ b. (h.0, inr h.1, and_from (path_le h.0 p) (is_least h.0 (r ∷ ps)) b h.2))
    (path_le-total p h.0)

-- the order that lists of numbers derive
pub path_le-cmp : (p q : List ℕ) → path_le p q ≡ is_le (slice_cmp nat_cmp p q)
path_le-cmp p q = sym (same_from_slice_cmp nat_cmp is_le path_le refl (λ _ _. refl) (λ _ _. refl)
    (λ x y xs ys o h. grind (arith, nat_tests)) p q (slice_cmp nat_cmp p q) refl)
