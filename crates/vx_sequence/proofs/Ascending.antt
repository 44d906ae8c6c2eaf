-- Lists of entries in the order of their paths.
use Rattle.std.proofs.Common.{◌≡◌, ℕ, ◌<◌, true, false, not, cond, List, [], ◌∷◌, ◌++◌, length, get_or, take, drop, suc, zero, Some, None, refl, sym, ap, subst, ◌∙◌, inl, inr, ⊎_elim, arith}
use Rattle.std.proofs.lemmas.Bool.{true≢false}
use Rattle.std.specs.FinMap.{find}
use Rattle.std.specs.Ordering.{is_le, is_eq, ordering_reverse}
use Rattle.std.specs.declared.cmp.Ordering.{Ordering}
use Rattle.std.specs.declared.cmp.Ordering.TheVariants.{Less, Equal, Greater}
use Rattle.std.specs.Cmp.Lexicographic.{nat_list_cmp_total}
use Rattle.vx_path.specs.Lists.{In}
use Rattle.vx_path.specs.Path.{path_le, path_lt}
use Rattle.vx_path.proofs.Path.{path_le-cmp}
use Rattle.vx_sequence.specs.declared.entries.Entry.{Entry}
use Rattle.vx_sequence.specs.Universe.{path_cmp}
use Rattle.vx_sequence.specs.Entries.{pairs, paths, AreBelow, IsBelow, Ascends, IsAt}
use Rattle.vx_sequence.proofs.Sets.{same_true, same_refl}
use Rattle.vx_sequence.proofs.Kept.{AreDistinct}

-- The order of paths by what `cmp` answers.

pub less_trans : (p q r : List ℕ) → path_cmp p q ≡ Less → path_cmp q r ≡ Less → path_cmp p r ≡ Less
less_trans p q r a b = nat_list_cmp_total.trans p q r a b

pub turned : (p q : List ℕ) → path_cmp p q ≡ Greater → path_cmp q p ≡ Less
turned p q h = nat_list_cmp_total.antisymm q p ∙ ap ordering_reverse h

pub not_same : (p q : List ℕ) → path_cmp p q ≡ Less → is_eq (path_cmp q p) ≡ false
not_same p q h = ap is_eq (nat_list_cmp_total.antisymm q p ∙ ap ordering_reverse h)

pub not_less_itself : (p : List ℕ) → path_cmp p p ≡ Less → ⊥
not_less_itself p h = true≢false (sym (same_refl p) ∙ ap is_eq h)

pub less_le : (p q : List ℕ) → path_cmp p q ≡ Less → path_le p q ≡ true
less_le p q h = path_le-cmp p q ∙ ap is_le h

pub less_lt : (p q : List ℕ) → path_cmp p q ≡ Less → path_lt p q ≡ true
less_lt p q h = ap not (path_le-cmp q p ∙ ap is_le (nat_list_cmp_total.antisymm q p ∙ ap ordering_reverse h))

greater_of : (o : Ordering) → not (is_le o) ≡ true → o ≡ Greater
greater_of Less h = absurd (true≢false (sym h))
greater_of Equal h = absurd (true≢false (sym h))
greater_of Greater h = refl

pub lt_less : (p q : List ℕ) → path_lt p q ≡ true → path_cmp p q ≡ Less
lt_less p q h = turned q p (greater_of (path_cmp q p) (sym (ap not (path_le-cmp q p)) ∙ h))

-- Lists below and above a path.

pub below_at : (p : List ℕ) (es : List Entry) (i : ℕ) (d : Entry) → i < length es → IsBelow p es → path_cmp p (get_or es i d).path ≡ Less
below_at p [] i d lt h = absurd (omega arith)
below_at p (e ∷ es) zero d lt h = h.0
below_at p (e ∷ es) (suc i) d lt h = below_at p es i d (omega arith) h.1

pub below_in : (p : List ℕ) (es : List Entry) (q : List ℕ) → IsBelow p es → In q (paths es) → path_cmp p q ≡ Less
below_in p [] q h m = absurd m
below_in p (e ∷ es) q h m = ⊎_elim (λ s. subst (λ r. path_cmp p r ≡ Less) (sym s) h.0) (λ n. below_in p es q h.1 n) m

-- what is below each path that p is below is below the list
pub below_from : (p r : List ℕ) (es : List Entry) → ((q : List ℕ) → In q (paths es) → path_cmp p q ≡ Less → path_cmp r q ≡ Less) → IsBelow p es → IsBelow r es
below_from p r [] f h = tt
below_from p r (e ∷ es) f h = (f e.path (inl refl) h.0, below_from p r es (λ q m. f q (inr m)) h.1)

below_trans : (r p : List ℕ) (es : List Entry) → path_cmp r p ≡ Less → IsBelow p es → IsBelow r es
below_trans r p es l h = below_from p r es (λ q m a. less_trans r p q l a) h

pub are_below_trans : (es : List Entry) (p r : List ℕ) → AreBelow es p → path_cmp p r ≡ Less → AreBelow es r
are_below_trans [] p r h l = tt
are_below_trans (e ∷ es) p r h l = (less_trans e.path p r h.0 l, are_below_trans es p r h.1 l)

pub some_entry : (es : List Entry) (i : ℕ) → i < length es → Entry
some_entry [] i lt = absurd (omega arith)
some_entry (x ∷ es) i lt = x

-- Where the entry at i is below a path, so are those before it.
pub below_up_to : (es : List Entry) (q : List ℕ) (i : ℕ) (d : Entry) → Ascends es → i < length es → path_cmp (get_or es i d).path q ≡ Less → AreBelow (take (suc i) es) q
below_up_to [] q i d a lt h = absurd (omega arith)
below_up_to (e ∷ es) q zero d a lt h = (h, tt)
below_up_to (e ∷ es) q (suc i) d a lt h =
    let rest : i < length es = omega arith in
    (less_trans e.path (get_or es i d).path q (below_at e.path es i d rest a.0) h, below_up_to es q i d a.1 rest h)

-- Where it is above a path, so are those behind it.
pub below_from_at : (es : List Entry) (q : List ℕ) (i : ℕ) (d : Entry) → Ascends es → i < length es → path_cmp q (get_or es i d).path ≡ Less → IsBelow q (drop i es)
below_from_at [] q i d a lt h = absurd (omega arith)
below_from_at (e ∷ es) q zero d a lt h = (h, below_trans q e.path es h a.0)
below_from_at (e ∷ es) q (suc i) d a lt h = below_from_at es q i d a.1 (omega arith) h

-- One entry between others.

below_middle : (p : List ℕ) (front back : List Entry) (e : Entry) → IsBelow p (front ++ back) → path_cmp p e.path ≡ Less → IsBelow p (front ++ (e ∷ back))
below_middle p [] back e h l = (l, h)
below_middle p (f ∷ front) back e h l = (h.0, below_middle p front back e h.1 l)

below_without : (p : List ℕ) (front back : List Entry) (e : Entry) → IsBelow p (front ++ (e ∷ back)) → (path_cmp p e.path ≡ Less) × IsBelow p (front ++ back)
below_without p [] back e h = h
below_without p (f ∷ front) back e h = let rest : (path_cmp p e.path ≡ Less) × IsBelow p (front ++ back) = below_without p front back e h.1 in (rest.0, (h.0, rest.1))

pub ascends_with : (front back : List Entry) (e : Entry) → Ascends (front ++ back) → AreBelow front e.path → IsBelow e.path back → Ascends (front ++ (e ∷ back))
ascends_with [] back e a b c = (c, a)
ascends_with (f ∷ front) back e a b c = (below_middle f.path front back e a.0 b.0, ascends_with front back e a.1 b.1 c)

-- what stands before an entry, what stands behind it, and the list without it
pub record IsParted (front back : List Entry) (e : Entry) : Type 0 where
  pub before : AreBelow front e.path
  pub behind : IsBelow e.path back
  pub others : Ascends (front ++ back)

pub ascends_without : (front back : List Entry) (e : Entry) → Ascends (front ++ (e ∷ back)) → IsParted front back e
ascends_without [] back e a = record { before = tt; behind = a.0; others = a.1 }
ascends_without (f ∷ front) back e a =
    let rest : IsParted front back e = ascends_without front back e a.1 in
    let head : (path_cmp f.path e.path ≡ Less) × IsBelow f.path (front ++ back) = below_without f.path front back e a.0 in
    record { before = (head.0, rest.before); behind = rest.behind; others = (head.1, rest.others) }

-- No path stands twice.

pub below_free : (p : List ℕ) (es : List Entry) → IsBelow p es → find path_cmp p (pairs es) ≡ None
below_free p [] h = refl
below_free p (e ∷ es) h =
    ap (λ o. cond (is_eq o) (Some e.is_open) (find path_cmp p (pairs es))) h.0 ∙ below_free p es h.1

pub gap_free : (front back : List Entry) (p : List ℕ) → AreBelow front p → IsBelow p back → find path_cmp p (pairs (front ++ back)) ≡ None
gap_free [] back p b h = below_free p back h
gap_free (f ∷ front) back p b h =
    ap (λ t. cond t (Some f.is_open) (find path_cmp p (pairs (front ++ back)))) (not_same f.path p b.0) ∙ gap_free front back p b.1 h

pub ascends_distinct : (es : List Entry) → Ascends es → AreDistinct (pairs es)
ascends_distinct [] a = tt
ascends_distinct (e ∷ es) a = (below_free e.path es a.0, ascends_distinct es a.1)

-- The path p of the entry at i was compared with q.
module _ (es : List Entry) (i : ℕ) (p q : List ℕ) (answer : Ordering) (asc : Ascends es) (at : IsAt es p i) (order : answer ≡ path_cmp p q) where
  stands : (o : Ordering) (d : Entry) → answer ≡ o → path_cmp (get_or es i d).path q ≡ o
  stands o d same = ap (λ r. path_cmp r q) (at.found d) ∙ sym order ∙ same

  any : Entry
  any = some_entry es i at.within

  pub up_to_below : answer ≡ Less → AreBelow (take (suc i) es) q
  up_to_below same = below_up_to es q i any asc at.within (stands Less any same)

  pub from_above : answer ≡ Greater → IsBelow q (drop i es)
  from_above same = below_from_at es q i any asc at.within (turned (get_or es i any).path q (stands Greater any same))

  pub same_path : answer ≡ Equal → IsAt es q i
  same_path same = record {
    within = at.within;
    found = λ d. same_true (get_or es i d).path q (ap is_eq (stands Equal d same));
  }
