-- The least of the paths, and how many are below one.
use Rattle.std.proofs.Common.{◌≡◌, ℕ, ◌<◌, ◌≤◌, Bool, true, false, cond, nat_eq, not, ◌&&◌, List, [], ◌∷◌, length, get_or, map, take, drop, suc, zero, Some, is_some, T, refl, sym, ap, subst, ◌∙◌, inl, inr, ⊎_elim, arith}
use Rattle.std.proofs.lemmas.Bool.{true≢false, cases_Bool}
use Rattle.std.proofs.lemmas.List.{length-map}
use Rattle.std.specs.FinMap as fin
use Rattle.std.specs.FinMap.{find, is_sorted}
use Rattle.std.specs.FinMap.Entries.{below_all}
use Rattle.std.specs.List.{filter}
use Rattle.std.specs.Ordering.{is_lt}
use Rattle.std.specs.declared.cmp.Ordering.TheVariants.{Less}
use Rattle.std.specs.Cmp.Lexicographic.{pointwise, bytes_decides}
use Rattle.vx_path.specs.Lists.{In}
use Rattle.vx_path.specs.Path.{path_le, path_lt}
use Rattle.vx_path.proofs.Path.{path_le-refl, path_le-antisym}
use Rattle.vx_sequence.specs.declared.entries.Entry.{Entry}
use Rattle.vx_sequence.specs.Universe.{path_cmp, Active, IsActive, IsLeast, rank}
use Rattle.vx_sequence.specs.Entries.{pair_of, pairs, paths, active_of, AreBelow, IsBelow, Ascends, IsAt, IsGap}
use Rattle.vx_sequence.proofs.Sets.{same, same_true, same_refl, same_active}
use Rattle.vx_sequence.proofs.Kept.{get_of}
use Rattle.vx_sequence.proofs.Ascending.{less_le, less_lt, below_in}
use Rattle.vx_sequence.proofs.Edits.{before_it, behind_it, has_entry, no_entry}

-- the paths of the entries are the active ones
found_in : (q : List ℕ) (es : List Entry) → In q (paths es) → is_some (find path_cmp q (pairs es)) ≡ true
found_in q [] h = absurd h
found_in q (x ∷ es) h = ⊎_elim
    (λ t. ap (λ b. is_some (cond b (Some x.is_open) (find path_cmp q (pairs es)))) t)
    (λ f. ap (λ b. is_some (cond b (Some x.is_open) (find path_cmp q (pairs es)))) f ∙ ⊎_elim
    (λ e. absurd (true≢false (sym (subst (λ r. same r x.path ≡ true) (sym e) (same_refl x.path)) ∙ f)))
    (λ n. found_in q es n) h)
    (cases_Bool (same q x.path))

is_in : (q : List ℕ) (es : List Entry) → is_some (find path_cmp q (pairs es)) ≡ true → In q (paths es)
is_in q [] h = absurd (true≢false (sym h))
is_in q (x ∷ es) h = ⊎_elim
    (λ t. inl (same_true q x.path t))
    (λ f. inr (is_in q es (sym (ap (λ b. is_some (cond b (Some x.is_open) (find path_cmp q (pairs es)))) f) ∙ h)))
    (cases_Bool (same q x.path))

pub is_active_in : (es : List Entry) (q : List ℕ) → In q (paths es) → IsActive (active_of es) q
is_active_in es q h = ap is_some (get_of (pairs es) q) ∙ found_in q es h

pub in_of_active : (es : List Entry) (q : List ℕ) → IsActive (active_of es) q → In q (paths es)
in_of_active es q h = is_in q es (sym (ap is_some (get_of (pairs es) q)) ∙ h)

-- the first path is the least
pub first_is_least : (es : List Entry) (u : Active) (e : Entry) → Ascends es → active_of es ≡ u → 0 < length es → e ≡ get_or es 0 e
    → IsActive u e.path × IsLeast u e.path
first_is_least [] u e a view some is = absurd (omega arith)
first_is_least (x ∷ es) u e a view some is = (
  subst (λ w. IsActive w e.path) view (is_active_in (x ∷ es) e.path (inl (ap (λ (y : Entry). y.path) is))),
  λ q b. subst (λ p. path_le p q ≡ true) (sym (ap (λ (y : Entry). y.path) is))
      (⊎_elim
      (λ s. subst (λ r. path_le x.path r ≡ true) (sym s) (path_le-refl x.path))
      (λ m. less_le x.path q (below_in x.path es q a.0 m))
      (in_of_active (x ∷ es) q (subst (λ w. IsActive w q) (sym view) b))),
)

pub none_is_least : (es : List Entry) (u : Active) → active_of es ≡ u → length es ≤ 0 → u ≡ fin.empty
none_is_least [] u view none = sym view
none_is_least (x ∷ es) u view none = absurd (omega arith)

-- a path is least just where it is the least one
pub is_the_least : (u : Active) (least p : List ℕ) → IsActive u least → IsLeast u least → IsActive u p → (b : Bool) → b ≡ pointwise nat_eq least p
    → (b ≡ true → IsLeast u p) × (IsLeast u p → b ≡ true)
is_the_least u least p a l own b is = (
  λ h. subst (λ q. IsLeast u q) ((bytes_decides least p).0 (sym is ∙ h)) l,
  λ h. is ∙ (bytes_decides least p).1 (path_le-antisym least p (l p own) (h least a)),
)

-- The entries are those of the map, in order.

less_test : (p q : List ℕ) → path_cmp p q ≡ Less → T (is_lt (path_cmp p q))
less_test p q h = subst (λ o. T (is_lt o)) (sym h) tt

both : (a b : Bool) → T a → T b → T (a && b)
both true b x y = y
both false b x y = absurd x

below_test : (p : List ℕ) (es : List Entry) → IsBelow p es → T (below_all path_cmp p (pairs es))
below_test p [] h = tt
below_test p (e ∷ es) h = both (is_lt (path_cmp p e.path)) (below_all path_cmp p (pairs es)) (less_test p e.path h.0) (below_test p es h.1)

ascends_test : (es : List Entry) → Ascends es → T (is_sorted path_cmp (pairs es))
ascends_test [] a = tt
ascends_test (e ∷ es) a = both (below_all path_cmp e.path (pairs es)) (is_sorted path_cmp (pairs es)) (below_test e.path es a.0) (ascends_test es a.1)

pub entries-active_of : (es : List Entry) → Ascends es → fin.entries (active_of es) ≡ pairs es
entries-active_of es a =
    ap fin.entries (same_active (active_of es) (fin.from_sorted (pairs es))
    (λ q. get_of (pairs es) q ∙ sym (fin.get-from_sorted path_cmp (pairs es) q (ascends_test es a))))
    ∙ fin.entries-from_sorted path_cmp (pairs es) (ascends_test es a)

-- how many of the entries' paths are below p
abbrev count : List Entry → List ℕ → ℕ
count es p = length (filter (λ q. path_lt q p) (map (λ e. e.0) (pairs es)))

not_below : (p q : List ℕ) → path_le p q ≡ true → path_lt q p ≡ false
not_below p q h = ap not h

count_none : (es : List Entry) (p : List ℕ) → IsBelow p es → count es p ≡ 0
count_none [] p h = refl
count_none (e ∷ es) p h =
    ap (λ b. length (cond b (e.path ∷ filter (λ q. path_lt q p) (map (λ x. x.0) (pairs es))) (filter (λ q. path_lt q p) (map (λ x. x.0) (pairs es)))))
    (not_below p e.path (less_le p e.path h.0)) ∙ count_none es p h.1

count_one : (e : Entry) (es : List Entry) (p : List ℕ) (n : ℕ) → path_cmp e.path p ≡ Less → count es p ≡ n → count (e ∷ es) p ≡ suc n
count_one e es p n h is =
    ap (λ b. length (cond b (e.path ∷ filter (λ q. path_lt q p) (map (λ x. x.0) (pairs es))) (filter (λ q. path_lt q p) (map (λ x. x.0) (pairs es)))))
    (less_lt e.path p h) ∙ ap suc is

count_gap : (es : List Entry) (p : List ℕ) (i : ℕ) → i ≤ length es → AreBelow (take i es) p → IsBelow p (drop i es) → count es p ≡ i
count_gap [] p i le a b = omega arith
count_gap (e ∷ es) p zero le a b = count_none (e ∷ es) p b
count_gap (e ∷ es) p (suc i) le a b = count_one e es p i a.0 (count_gap es p i (omega arith) a.1 b)

count_at : (es : List Entry) (p : List ℕ) (i : ℕ) (d : Entry) → i < length es → AreBelow (take i es) p → (get_or es i d).path ≡ p
    → IsBelow p (drop (suc i) es) → count es p ≡ i
count_at [] p i d lt a is b = absurd (omega arith)
count_at (e ∷ es) p zero d lt a is b =
    ap (λ t. length (cond t (e.path ∷ filter (λ q. path_lt q p) (map (λ x. x.0) (pairs es))) (filter (λ q. path_lt q p) (map (λ x. x.0) (pairs es)))))
    (not_below p e.path (subst (λ r. path_le p r ≡ true) (sym is) (path_le-refl p))) ∙ count_none es p b
count_at (e ∷ es) p (suc i) d lt a is b = count_one e es p i a.0 (count_at es p i d (omega arith) a.1 is b)

rank-active_of : (es : List Entry) (u : Active) (p : List ℕ) → Ascends es → active_of es ≡ u → rank u p ≡ count es p
rank-active_of es u p a view = ap (λ w. rank w p) (sym view)
    ∙ ap (λ l. length (filter (λ q. path_lt q p) (map (λ e. e.0) l))) (entries-active_of es a)

count_there : (es : List Entry) (p : List ℕ) (i : ℕ) → Ascends es → IsAt es p i → count es p ≡ i
count_there [] p i a at = absurd (omega (arith, at.within))
count_there (x ∷ es) p i a at =
    count_at (x ∷ es) p i x at.within (before_it (x ∷ es) i x p at.within (at.found x) a) (at.found x) (behind_it (x ∷ es) i x p at.within (at.found x) a)

pub rank_at : (es : List Entry) (u : Active) (p : List ℕ) (i : ℕ) → Ascends es → active_of es ≡ u → IsAt es p i → IsActive u p × (i ≡ rank u p)
rank_at es u p i a view at = (
  subst (λ w. IsActive w p) view (ap is_some (get_of (pairs es) p) ∙ has_entry es p i a at),
  sym (rank-active_of es u p a view ∙ count_there es p i a at),
)

pub rank_gap : (es : List Entry) (u : Active) (p : List ℕ) (i : ℕ) → Ascends es → active_of es ≡ u → IsGap es p i → ¬ (IsActive u p) × (i ≡ rank u p)
rank_gap es u p i a view gap = (
  λ h. true≢false (sym (subst (λ w. IsActive w p) (sym view) h) ∙ ap is_some (get_of (pairs es) p ∙ no_entry es p i gap)),
  sym (rank-active_of es u p a view ∙ count_gap es p i gap.within gap.before gap.behind),
)

pub len-active_of : (es : List Entry) (u : Active) → Ascends es → active_of es ≡ u → fin.len u ≡ length es
len-active_of es u a view = ap fin.len (sym view) ∙ fin.len-entries (active_of es) ∙ ap length (entries-active_of es a) ∙ length-map es pair_of
