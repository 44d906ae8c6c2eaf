-- What the edits of the entries do to the active paths.
use Rattle.std.proofs.Common.{◌≡◌, ℕ, ◌<◌, Bool, cond, List, [], ◌∷◌, ◌++◌, length, get_or, set, take, drop, suc, Some, None, is_some, IsSome, sym, ap, subst, ◌∙◌, inr, arith, take-append-drop}
use Rattle.std.proofs.Math.Seq.{split_at}
use Rattle.std.proofs.lemmas.Bool.{true≢false}
use Rattle.std.proofs.lemmas.List.{map-append, take-set, drop-set-lt, length-set, get_or-set_same}
use Rattle.std.specs.List.{insert, remove}
use Rattle.std.specs.FinMap as fin
use Rattle.std.specs.FinMap.{find, from_entries}
use Rattle.vx_path.specs.Lists.{In}
use Rattle.vx_path.proofs.Lists.{in_right}
use Rattle.vx_sequence.specs.declared.entries.Entry.{Entry}
use Rattle.vx_sequence.specs.Universe.{path_cmp, Active, IsActive}
use Rattle.vx_sequence.specs.Entries.{pair_of, pairs, paths, active_of, AreBelow, IsBelow, Ascends, IsAt, IsGap}
use Rattle.vx_sequence.proofs.Sets.{same_refl}
use Rattle.vx_sequence.proofs.Kept.{AreDistinct, get_of, find_middle, none_left, distinct_without, active_with, active_without}
use Rattle.vx_sequence.proofs.Ascending.{IsParted, ascends_with, ascends_without, gap_free, ascends_distinct}

abbrev front_of : List Entry → ℕ → List (List ℕ × Bool)
front_of es i = pairs (take i es)

abbrev back_of : List Entry → ℕ → List (List ℕ × Bool)
back_of es i = pairs (drop (suc i) es)

pairs_at : (es : List Entry) (i : ℕ) (d : Entry) → i < length es → pairs es ≡ front_of es i ++ (pair_of (get_or es i d) ∷ back_of es i)
pairs_at es i d lt = ap pairs (split_at es i d lt) ∙ map-append pair_of (take i es) (get_or es i d ∷ drop (suc i) es)

set-parts : (es : List Entry) (i : ℕ) (e : Entry) → i < length es → set es i e ≡ take i es ++ (e ∷ drop (suc i) es)
set-parts es i e lt =
    let long : i < length (set es i e) = subst (λ n. i < n) (sym (length-set es i e)) lt in
    let step : i < suc i = omega arith in
    split_at (set es i e) i e long
    ∙ (λ j. take-set es i e j ++ (get_or-set_same es i e e lt j ∷ drop-set-lt (suc i) es i e step j))

pairs-set : (es : List Entry) (i : ℕ) (e : Entry) → i < length es → pairs (set es i e) ≡ front_of es i ++ (pair_of e ∷ back_of es i)
pairs-set es i e lt = ap pairs (set-parts es i e lt) ∙ map-append pair_of (take i es) (e ∷ drop (suc i) es)

pairs-remove : (es : List Entry) (i : ℕ) → pairs (remove es i) ≡ front_of es i ++ back_of es i
pairs-remove es i = map-append pair_of (take i es) (drop (suc i) es)

-- The entry at i, whose path is p.
module _ (es : List Entry) (i : ℕ) (d : Entry) (p : List ℕ) (lt : i < length es) (at : (get_or es i d).path ≡ p) (kept : Ascends es) where
  parted : AreDistinct (front_of es i ++ (pair_of (get_or es i d) ∷ back_of es i))
  parted = subst AreDistinct (pairs_at es i d lt) (ascends_distinct es kept)

  left_over : from_entries {R = path_cmp} (front_of es i ++ back_of es i) ≡ fin.remove (active_of es) p
  left_over = active_without (front_of es i) (back_of es i) (pair_of (get_or es i d)) parted
      ∙ (λ j. fin.remove (from_entries (sym (pairs_at es i d lt) j)) (at j))

  pub mark-at : find path_cmp p (pairs es) ≡ Some (get_or es i d).is_open
  mark-at =
      let n = (distinct_without (front_of es i) (back_of es i) (pair_of (get_or es i d)) parted).0 in
      let q = (get_or es i d).path in
      ap (λ x. find path_cmp x (pairs es)) (sym at) ∙ ap (find path_cmp q) (pairs_at es i d lt)
      ∙ find_middle (front_of es i) (back_of es i) (pair_of (get_or es i d)) q (none_left (front_of es i) (back_of es i) q n)
      ∙ ap (λ b. cond b (Some (get_or es i d).is_open) (find path_cmp q (front_of es i ++ back_of es i))) (same_refl q)

  sides : IsParted (take i es) (drop (suc i) es) (get_or es i d)
  sides = ascends_without (take i es) (drop (suc i) es) (get_or es i d) (subst Ascends (split_at es i d lt) kept)

  pub before_it : AreBelow (take i es) p
  before_it = subst (AreBelow (take i es)) at sides.before

  pub behind_it : IsBelow p (drop (suc i) es)
  behind_it = subst (λ q. IsBelow q (drop (suc i) es)) at sides.behind

  pub active-remove : active_of (remove es i) ≡ fin.remove (active_of es) p
  active-remove = ap (λ l. from_entries l) (pairs-remove es i) ∙ left_over

  pub ascends-remove : Ascends (remove es i)
  ascends-remove = sides.others

  module _ (e : Entry) (free : fin.get (fin.remove (active_of es) p) e.path ≡ None) where
    not_there : find path_cmp e.path (front_of es i ++ back_of es i) ≡ None
    not_there = sym (get_of (front_of es i ++ back_of es i) e.path) ∙ ap (λ u. fin.get u e.path) left_over ∙ free

    pub active-set : active_of (set es i e) ≡ fin.insert (fin.remove (active_of es) p) e.path e.is_open
    active-set = ap (λ l. from_entries l) (pairs-set es i e lt) ∙ active_with (front_of es i) (back_of es i) (pair_of e) not_there
        ∙ ap (λ u. fin.insert u e.path e.is_open) left_over

  pub ascends-set : (e : Entry) → AreBelow (take i es) e.path → IsBelow e.path (drop (suc i) es) → Ascends (set es i e)
  ascends-set e a b = subst Ascends (sym (set-parts es i e lt)) (ascends_with (take i es) (drop (suc i) es) e sides.others a b)

-- An entry more, in its place.
module _ (es : List Entry) (i : ℕ) (e : Entry) (kept : Ascends es) (gap : IsGap es e.path i) where
  parts : pairs (take i es) ++ pairs (drop i es) ≡ pairs es
  parts = sym (map-append pair_of (take i es) (drop i es)) ∙ ap pairs (take-append-drop i es)

  not_yet : find path_cmp e.path (pairs (take i es) ++ pairs (drop i es)) ≡ None
  not_yet = ap (find path_cmp e.path) (sym (map-append pair_of (take i es) (drop i es))) ∙ gap_free (take i es) (drop i es) e.path gap.before gap.behind

  pub active-insert : active_of (insert es i e) ≡ fin.insert (active_of es) e.path e.is_open
  active-insert = ap (λ l. from_entries l) (map-append pair_of (take i es) (e ∷ drop i es))
      ∙ active_with (pairs (take i es)) (pairs (drop i es)) (pair_of e) not_yet
      ∙ ap (λ l. fin.insert (from_entries l) e.path e.is_open) parts

  pub ascends-insert : Ascends (insert es i e)
  ascends-insert = ascends_with (take i es) (drop i es) e (subst Ascends (sym (take-append-drop i es)) kept) gap.before gap.behind

-- a path that has a gap isn't there
pub no_entry : (es : List Entry) (p : List ℕ) (i : ℕ) → IsGap es p i → find path_cmp p (pairs es) ≡ None
no_entry es p i gap = subst (λ l. find path_cmp p (pairs l) ≡ None) (take-append-drop i es) (gap_free (take i es) (drop i es) p gap.before gap.behind)

-- an entry that is there is found
pub has_entry : (es : List Entry) (p : List ℕ) (i : ℕ) → Ascends es → IsAt es p i → IsSome (find path_cmp p (pairs es))
has_entry [] p i kept at = absurd (omega (arith, at.within))
has_entry (x ∷ es) p i kept at = ap is_some (mark-at (x ∷ es) i x p at.within (at.found x) kept)

-- an active path is found among the entries
pub is_found : (es : List Entry) (u : Active) (p : List ℕ) → active_of es ≡ u → IsActive u p → IsSome (find path_cmp p (pairs es))
is_found es u p v a = ap is_some (sym (get_of (pairs es) p) ∙ ap (λ w. fin.get w p) v) ∙ a

-- what stands behind a place is among the paths
pub in_behind : (es : List Entry) (i : ℕ) (d : Entry) (q : List ℕ) → i < length es → In q (paths (drop (suc i) es)) → In q (paths es)
in_behind es i d q lt m = subst (λ l. In q (paths l)) (sym (split_at es i d lt))
    (subst (In q) (sym (map-append (λ (e : Entry). e.path) (take i es) (get_or es i d ∷ drop (suc i) es)))
    (in_right q (paths (take i es)) (paths (get_or es i d ∷ drop (suc i) es)) (inr m)))

-- a path has an entry or a gap, not both
pub is_gap : (es : List Entry) (p : List ℕ) (i : ℕ) → IsGap es p i → IsSome (find path_cmp p (pairs es)) → ⊥
is_gap es p i gap some = true≢false (sym some ∙ ap is_some (no_entry es p i gap))

pub is_at : (es : List Entry) (p : List ℕ) (i : ℕ) → Ascends es → IsAt es p i → find path_cmp p (pairs es) ≡ None → ⊥
is_at es p i kept at none = true≢false (sym (has_entry es p i kept at) ∙ ap is_some none)
