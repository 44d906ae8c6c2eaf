-- A history of distinct listed paths, as many as are listed, is all of them in order.
use Rattle.std.proofs.Common.{◌≡◌, ℕ, ◌≤◌, true, cond, List, [], ◌∷◌, ◌++◌, map, length, Some, is_some, refl, sym, ap, ◌∙◌, suc, arith, inl, inr, ⊎_elim, subst}
use Rattle.std.proofs.lemmas.Bool.{cases_Bool, true≢false}
use Rattle.vx_path.specs.Lists.{In}
use Rattle.vx_path.specs.Path.{path_le, path_lt}
use Rattle.vx_path.specs.Sort.{sort}
use Rattle.vx_path.proofs.Lists.{split_at, in_left, in_right, in_cases}
use Rattle.vx_path.proofs.Path.{lt_le, lt_le_trans, lt_irrefl, path_le-antisym}
use Rattle.vx_path.proofs.Sort.{sort-least, in_sorted}
use Rattle.vx_seats.specs.History.{Pair, same, bytes_for, all_listed, leads, ascends}
use Rattle.vx_seats.proofs.History.{left_true, right_true}

-- in a list that ascends the first path is below all others
pub below_all : (p : List ℕ) (ps : List (List ℕ)) → ascends (p ∷ ps) ≡ true → (q : List ℕ) → In q ps → path_lt p q ≡ true
below_all p [] h q i = absurd i
below_all p (r ∷ ps) h q i =
    let first = left_true (path_lt p r) (ascends (r ∷ ps)) h in
    ⊎_elim (λ e. subst (λ (x : List ℕ). path_lt p x ≡ true) (sym e) first)
    (λ j. lt_le_trans p r q first (lt_le r q (below_all r ps (right_true (path_lt p r) (ascends (r ∷ ps)) h) q j))) i

-- a path of the list beside the first, which stands at this place, is one of the others
moved : (p q : List ℕ) (front back : List (List ℕ)) → path_lt p q ≡ true → In q (front ++ (p ∷ back)) → In q (front ++ back)
moved p q front back l i = ⊎_elim (λ a. in_left q front back a)
    (λ b. ⊎_elim (λ e. absurd (lt_irrefl p (subst (λ (x : List ℕ). path_lt p x ≡ true) e l))) (λ j. in_right q front back j) b)
    (in_cases q front (p ∷ back) i)

longer : (front back : List (List ℕ)) (p : List ℕ) → length (front ++ (p ∷ back)) ≡ suc (length (front ++ back))
longer [] back p = refl
longer (x ∷ front) back p = ap suc (longer front back p)

pub fits_in : (ps all : List (List ℕ)) → ascends ps ≡ true → ((q : List ℕ) → In q ps → In q all) → length ps ≤ length all
fits_in [] all h f = omega arith
fits_in (p ∷ ps) all h f =
    let s = split_at p all (f p (inl refl)) in
    let g : (q : List ℕ) → In q ps → In q (s.0 ++ s.1) = λ q i. moved p q s.0 s.1 (below_all p ps h q i) (subst (In q) s.2 (f q (inr i))) in
    let ih = fits_in ps (s.0 ++ s.1) (right_true (leads p ps) (ascends ps) h) g in
    let n = ap length s.2 ∙ longer s.0 s.1 p in
    omega (arith, ih, n)

pub fills : (ps all : List (List ℕ)) → ascends ps ≡ true → ((q : List ℕ) → In q ps → In q all) → length ps ≡ length all → sort all ≡ ps
fills [] [] h f e = refl
fills [] (x ∷ all) h f e = absurd (omega (arith, e))
fills (p ∷ ps) all h f e =
    let s = split_at p all (f p (inl refl)) in
    let g : (q : List ℕ) → In q ps → In q (s.0 ++ s.1) = λ q i. moved p q s.0 s.1 (below_all p ps h q i) (subst (In q) s.2 (f q (inr i))) in
    let n = ap length s.2 ∙ longer s.0 s.1 p in
    let ih = fills ps (s.0 ++ s.1) (right_true (leads p ps) (ascends ps) h) g (omega (arith, e, n)) in
    ap sort s.2
    ∙ sort-least p s.0 s.1 (λ q i. lt_le p q (below_all p ps h q (subst (In q) ih (in_sorted (λ x. x) q (s.0 ++ s.1) i))))
    ∙ ap (λ xs. p ∷ xs) ih

found_in : (pairs : List Pair) (q : List ℕ) → is_some (bytes_for pairs q) ≡ true → In q (map (λ c. c.path) pairs)
found_in [] q h = absurd (true≢false (sym h))
found_in (c ∷ cs) q h = ⊎_elim
    (λ t. inl (path_le-antisym q c.path (left_true (path_le q c.path) (path_le c.path q) t) (right_true (path_le q c.path) (path_le c.path q) t)))
    (λ f. inr (found_in cs q (subst (λ b. is_some (cond b (Some c.bytes) (bytes_for cs q)) ≡ true) f h)))
    (cases_Bool (same q c.path))

pub listed_in : (pairs : List Pair) (ps : List (List ℕ)) → all_listed pairs ps ≡ true → (q : List ℕ) → In q ps → In q (map (λ c. c.path) pairs)
listed_in pairs [] h q i = absurd i
listed_in pairs (p ∷ ps) h q i = ⊎_elim
    (λ e. found_in pairs q (ap (λ x. is_some (bytes_for pairs x)) e ∙ left_true (is_some (bytes_for pairs p)) (all_listed pairs ps) h))
    (λ j. listed_in pairs ps (right_true (is_some (bytes_for pairs p)) (all_listed pairs ps) h) q j) i

length_map : (pairs : List Pair) → length (map (λ c. c.path) pairs) ≡ length pairs
length_map [] = refl
length_map (c ∷ cs) = ap suc (length_map cs)

-- the history is all paths in order
pub whole : (pairs : List Pair) (ps : List (List ℕ)) → ascends ps ≡ true → all_listed pairs ps ≡ true → length ps ≡ length pairs → ps ≡ sort (map (λ c. c.path) pairs)
whole pairs ps h l e = sym (fills ps (map (λ c. c.path) pairs) h (listed_in pairs ps l) (e ∙ sym (length_map pairs)))

-- a history is no longer than the list
pub within : (pairs : List Pair) (ps : List (List ℕ)) → ascends ps ≡ true → all_listed pairs ps ≡ true → length ps ≤ length pairs
within pairs ps h l = omega (arith, fits_in ps (map (λ c. c.path) pairs) h (listed_in pairs ps l), length_map pairs)
