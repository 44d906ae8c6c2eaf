-- Each call's edits of the entries are its change of the universe, and keep what the entries keep.
use Rattle.std.proofs.Common.{◌≡◌, ◌≢◌, ℕ, Bool, true, false, ◌||◌, List, [], ◌∷◌, get_or, set, take, drop, suc, Option, Some, None, is_some, refl, sym, ap, subst, ◌∙◌, ⊎_elim}
use Rattle.std.specs.List.{remove}
use Rattle.std.specs.declared.cmp.Ordering.TheVariants.{Less}
use Rattle.std.specs.FinMap as fin
use Rattle.std.specs.FinMap.{find}
use Rattle.vx_path.specs.Path.{path_lt, begins, meets, under, Eof, eof_path, next}
use Rattle.vx_path.proofs.Path.{apart_lt, begins-refl, begins-under, lt_irrefl}
use Rattle.vx_sequence.specs.declared.entries.Entry.{Entry}
use Rattle.vx_sequence.specs.Universe.{path_cmp, Active, IsActive, IsOpen, IsUniverse, place_of, advanced, descended, split_from, released}
use Rattle.vx_sequence.specs.Entries.{pairs, active_of, AreBelow, IsBelow, Ascends, IsAt, IsKept}
use Rattle.vx_sequence.proofs.Places.{eof_path-place_of, not_true, child_above}
use Rattle.vx_sequence.proofs.Sets.{one_path, same_active, get-inserted, get-insert_other, get-removed, get-remove_other, is_open_active, is_active_more, active_insert}
use Rattle.vx_sequence.proofs.Uses.{advanced_active, advanced_next, advanced_id, open_active}
use Rattle.vx_sequence.proofs.Rules.{removed_rules, sibling_free, child_free, advanced_rules, descended_rules}
use Rattle.vx_sequence.proofs.Kept.{get_of}
use Rattle.vx_sequence.proofs.Ascending.{less_lt, lt_less, are_below_trans, below_from, some_entry}
use Rattle.vx_sequence.proofs.Edits.{before_it, behind_it, active-set, ascends-set, active-remove, ascends-remove, in_behind}
use Rattle.vx_sequence.proofs.Least.{is_active_in}

module _ (u : Active) (p n : List ℕ) (apart : n ≢ p) where
  abbrev opened : Active
  opened = fin.insert u n true

  abbrev closed : Active
  closed = fin.insert u p false

  beside : (q : List ℕ) → q ≢ p → fin.get opened q ≡ fin.get (fin.insert closed n true) q
  beside q other = ⊎_elim
      (λ s. subst (λ r. fin.get opened r ≡ fin.get (fin.insert closed n true) r) (sym s) (get-inserted u n true ∙ sym (get-inserted closed n true)))
      (λ t. get-insert_other u n true q t ∙ sym (get-insert_other closed n true q t ∙ get-insert_other u p false q other))
      (one_path q n)

  -- the two puts of `advance`, in the other order
  put_both : fin.insert (fin.remove opened p) p false ≡ fin.insert closed n true
  put_both = same_active (fin.insert (fin.remove opened p) p false) (fin.insert closed n true) (λ q. ⊎_elim
      (λ s. subst (λ r. fin.get (fin.insert (fin.remove opened p) p false) r ≡ fin.get (fin.insert closed n true) r) (sym s)
      (get-inserted (fin.remove opened p) p false ∙ sym (get-insert_other closed n true p (λ e. apart (sym e)) ∙ get-inserted u p false)))
      (λ other. get-insert_other (fin.remove opened p) p false q other ∙ get-remove_other opened p q other ∙ beside q other)
      (one_path q p))

  -- what is left without the path doesn't show whether it was closed
  without_either : fin.remove opened p ≡ fin.remove (fin.insert closed n true) p
  without_either = same_active (fin.remove opened p) (fin.remove (fin.insert closed n true) p) (λ q. ⊎_elim
      (λ s. subst (λ r. fin.get (fin.remove opened p) r ≡ fin.get (fin.remove (fin.insert closed n true) p) r) (sym s)
      (get-removed opened p ∙ sym (get-removed (fin.insert closed n true) p)))
      (λ other. get-remove_other opened p q other ∙ beside q other ∙ sym (get-remove_other (fin.insert closed n true) p q other))
      (one_path q p))

none_is_not : (o : Option Bool) (b : Bool) → o ≡ None → o ≡ Some b → ⊥
none_is_not o b n s = cc

-- the next sibling is another path
next_apart : (u : Active) (e : Eof) → IsUniverse u → IsOpen u (eof_path e) → eof_path (next e) ≢ eof_path e
next_apart u e r o same = none_is_not (fin.get u (eof_path e)) true
    (subst (λ q. fin.get u q ≡ None) same (sibling_free u e r o)) o

-- A path's first child stands where the path stands: above what is below the path, and below the other active paths above it.

either_false : (a b : Bool) → a ≡ false → b ≡ false → (a || b) ≡ false
either_false a b f g = rw f g

child_less : (u : Active) (p q : List ℕ) → IsUniverse u → IsActive u p → IsActive u q → path_cmp p q ≡ Less → path_cmp (under p 0) q ≡ Less
child_less u p q r a b h =
    let lt : path_lt p q ≡ true = less_lt p q h in
    let other : p ≡ q → ⊥ = λ e. lt_irrefl q (subst (λ x. path_lt x q ≡ true) e lt) in
    let apart : meets p q ≡ false = either_false (begins p q) (begins q p)
    (not_true (begins p q) (λ t. other (r.prefix_free p q a b t)))
    (not_true (begins q p) (λ t. other (sym (r.prefix_free q p b a t)))) in
    lt_less (under p 0) q (apart_lt p q (under p 0) q lt apart (begins-under p 0) (begins-refl q))

less_child : (p : List ℕ) → path_cmp p (under p 0) ≡ Less
less_child p = lt_less p (under p 0) (child_above p 0)

-- What the change of the entry at i, whose path is p, does to the entries ls, where v has their paths.
module _ (ls : List Entry) (asc : Ascends ls) (p : List ℕ) (i : ℕ) (at : IsAt ls p i) (m : Entry) where
  module _ (same : m.path ≡ p) where
    pub ascends_closed : Ascends (set ls i m)
    ascends_closed = ascends-set ls i m p at.within (at.found m) asc m
        (subst (AreBelow (take i ls)) (sym same) (before_it ls i m p at.within (at.found m) asc))
        (subst (λ q. IsBelow q (drop (suc i) ls)) (sym same) (behind_it ls i m p at.within (at.found m) asc))

    free_own : fin.get (fin.remove (active_of ls) p) m.path ≡ None
    free_own = ap (fin.get (fin.remove (active_of ls) p)) same ∙ get-removed (active_of ls) p

    pub active_closed : active_of (set ls i m) ≡ fin.insert (fin.remove (active_of ls) p) m.path m.is_open
    active_closed = active-set ls i m p at.within (at.found m) asc m free_own

  module _ (v : Active) (r : IsUniverse v) (a : IsActive v p) (all : (q : List ℕ) → IsActive (active_of ls) q → IsActive v q) (first : m.path ≡ under p 0) where
    pub ascends_below : Ascends (set ls i m)
    ascends_below = ascends-set ls i m p at.within (at.found m) asc m
        (subst (AreBelow (take i ls)) (sym first)
        (are_below_trans (take i ls) p (under p 0) (before_it ls i m p at.within (at.found m) asc) (less_child p)))
        (subst (λ q. IsBelow q (drop (suc i) ls)) (sym first)
        (below_from p (under p 0) (drop (suc i) ls)
        (λ q b l. child_less v p q r a (all q (is_active_in ls q (in_behind ls i m q at.within b))) l)
        (behind_it ls i m p at.within (at.found m) asc)))

-- An entry for the next sibling is put in, and then the path's own entry, at i, is changed for another.
module _ (es : List Entry) (kept : IsKept es) (e : Eof) (o : IsOpen (active_of es) (eof_path e)) (ls : List Entry) (asc : Ascends ls)
    (more : active_of ls ≡ fin.insert (active_of es) (eof_path (next e)) true) (i : ℕ) (at : IsAt ls (eof_path e) i) (m : Entry) where
  apart : eof_path (next e) ≢ eof_path e
  apart = next_apart (active_of es) e kept.rules o

  -- `advance`: the path's own entry is closed
  module _ (mp : m.path ≡ eof_path e) (mo : m.is_open ≡ false) where
    pub active_advanced : active_of (set ls i m) ≡ advanced (active_of es) e
    active_advanced = active_closed ls asc (eof_path e) i at m mp
        ∙ (λ j. fin.insert (fin.remove (more j) (eof_path e)) (mp j) (mo j))
        ∙ put_both (active_of es) (eof_path e) (eof_path (next e)) apart

    pub kept_advanced : IsKept (set ls i m)
    kept_advanced = record {
      ascends = ascends_closed ls asc (eof_path e) i at m mp;
      rules = subst IsUniverse (sym active_advanced) (advanced_rules (active_of es) e kept.rules o);
    }

  -- `split_off`: the path's first child stands in its place
  module _ (mp : m.path ≡ under (eof_path e) 0) (mo : m.is_open ≡ true) where
    rules_then : IsUniverse (advanced (active_of es) e)
    rules_then = advanced_rules (active_of es) e kept.rules o

    -- the entries have the paths that `advance` leaves
    then_active : (q : List ℕ) → IsActive (active_of ls) q → IsActive (advanced (active_of es) e) q
    then_active q a = ⊎_elim
        (λ s. subst (IsActive (advanced (active_of es) e)) (sym s) (open_active (advanced (active_of es) e) (eof_path (next e)) (advanced_next (active_of es) e)))
        (λ b. advanced_active (active_of es) e q b)
        (active_insert (active_of es) (eof_path (next e)) true q (subst (λ w. IsActive w q) more a))

    left : fin.remove (active_of ls) (eof_path e) ≡ fin.remove (advanced (active_of es) e) (eof_path e)
    left = ap (λ u. fin.remove u (eof_path e)) more ∙ without_either (active_of es) (eof_path e) (eof_path (next e)) apart

    free_child : fin.get (fin.remove (active_of ls) (eof_path e)) m.path ≡ None
    free_child = (λ j. fin.get (left j) (mp j))
        ∙ child_free (advanced (active_of es) e) (eof_path e) rules_then (advanced_id (active_of es) e)

    pub active_split : active_of (set ls i m) ≡ split_from (active_of es) e
    active_split = active-set ls i m (eof_path e) at.within (at.found m) asc m free_child
        ∙ (λ j. fin.insert (left j) (mp j) (mo j))

    pub kept_split : IsKept (set ls i m)
    kept_split = record {
      ascends = ascends_below ls asc (eof_path e) i at m (advanced (active_of es) e) rules_then (advanced_id (active_of es) e) then_active mp;
      rules = subst IsUniverse (sym active_split)
          (descended_rules (advanced (active_of es) e) (eof_path e) rules_then (advanced_id (active_of es) e));
    }

module _ (es : List Entry) (kept : IsKept es) (p : List ℕ) (i : ℕ) (at : IsAt es p i) where
  -- `descend`: the path's first child stands in its place
  module _ (a : IsActive (active_of es) p) (m : Entry) (mp : m.path ≡ under p 0) (mo : m.is_open ≡ true) where
    free_first : fin.get (fin.remove (active_of es) p) m.path ≡ None
    free_first = ap (fin.get (fin.remove (active_of es) p)) mp ∙ child_free (active_of es) p kept.rules a

    pub active_descended : active_of (set es i m) ≡ descended (active_of es) p
    active_descended = active-set es i m p at.within (at.found m) kept.ascends m free_first ∙ (λ j. fin.insert (fin.remove (active_of es) p) (mp j) (mo j))

    pub kept_descended : IsKept (set es i m)
    kept_descended = record {
      ascends = ascends_below es kept.ascends p i at m (active_of es) kept.rules a (λ q b. b) mp;
      rules = subst IsUniverse (sym active_descended) (descended_rules (active_of es) p kept.rules a);
    }

  -- `release`
  pub kept_released : (d : Entry) → IsKept (remove es i)
  kept_released d = record {
    ascends = ascends-remove es i d p at.within (at.found d) kept.ascends;
    rules = subst IsUniverse (sym (active-remove es i d p at.within (at.found d) kept.ascends)) (removed_rules (active_of es) p kept.rules);
  }

-- The same, as the calls meet it: the path comes as a list, the entries ls with the next sibling from `put`.
module _ (es : List Entry) (kept : IsKept es) (u : Active) (view : active_of es ≡ u) (path : List ℕ) (stem : path ≢ []) (o : IsOpen u path)
    (copy : List ℕ) (is_next : copy ≡ eof_path (next (place_of path))) where
  here : eof_path (place_of path) ≡ path
  here = eof_path-place_of path stem

  is_open : IsOpen (active_of es) (eof_path (place_of path))
  is_open = (λ j. fin.get (view j) (here j)) ∙ o

  -- the next sibling isn't there yet
  pub next_is_new : find path_cmp copy (pairs es) ≡ None
  next_is_new = sym (get_of (pairs es) copy) ∙ ap (fin.get (active_of es)) is_next ∙ sibling_free (active_of es) (place_of path) kept.rules is_open

  module _ (ls : List Entry) (asc : Ascends ls) (shows : active_of ls ≡ fin.insert (active_of es) copy true) where
    more : active_of ls ≡ fin.insert (active_of es) (eof_path (next (place_of path))) true
    more = shows ∙ ap (λ q. fin.insert (active_of es) q true) is_next

    -- the path is still among the entries
    pub still_there : is_some (find path_cmp path (pairs ls)) ≡ true
    still_there = ap is_some (sym (get_of (pairs ls) path)) ∙ ap (λ w. is_some (fin.get w path)) shows
        ∙ is_active_more (active_of es) copy true path (is_open_active (active_of es) path (ap (λ w. fin.get w path) view ∙ o))

    module _ (i : ℕ) (at : IsAt ls path i) where
      at_place : IsAt ls (eof_path (place_of path)) i
      at_place = subst (λ q. IsAt ls q i) (sym here) at

      module _ (own : Entry) (own_is : own ≡ get_or ls i own) where
        abbrev closed_own : Entry
        closed_own = record { path = own.path; is_open = false }

        path_is : own.path ≡ eof_path (place_of path)
        path_is = ap (λ (e : Entry). e.path) own_is ∙ at_place.found own

        pub keeps_advanced : IsKept (set ls i closed_own)
        keeps_advanced = kept_advanced es kept (place_of path) is_open ls asc more i at_place closed_own path_is refl

        pub shows_advanced : active_of (set ls i closed_own) ≡ advanced u (place_of path)
        shows_advanced = active_advanced es kept (place_of path) is_open ls asc more i at_place closed_own path_is refl
            ∙ ap (λ w. advanced w (place_of path)) view

      module _ (child : List ℕ) (is_child : child ≡ under path 0) where
        abbrev first : Entry
        first = record { path = child; is_open = true }

        child_is : child ≡ under (eof_path (place_of path)) 0
        child_is = is_child ∙ ap (λ p. under p 0) (sym here)

        pub keeps_split : IsKept (set ls i first)
        keeps_split = kept_split es kept (place_of path) is_open ls asc more i at_place first child_is refl

        pub shows_split : active_of (set ls i first) ≡ split_from u (place_of path)
        shows_split = active_split es kept (place_of path) is_open ls asc more i at_place first child_is refl
            ∙ ap (λ w. split_from w (place_of path)) view

module _ (es : List Entry) (kept : IsKept es) (u : Active) (view : active_of es ≡ u) (path : List ℕ) (a : IsActive u path)
    (i : ℕ) (at : IsAt es path i) where
  was : IsActive (active_of es) path
  was = subst (λ w. IsActive w path) (sym view) a

  module _ (child : List ℕ) (is_child : child ≡ under path 0) where
    abbrev only_child : Entry
    only_child = record { path = child; is_open = true }

    pub keeps_descended : IsKept (set es i only_child)
    keeps_descended = kept_descended es kept path i at was only_child is_child refl

    pub shows_descended : active_of (set es i only_child) ≡ descended u path
    shows_descended = active_descended es kept path i at was only_child is_child refl
        ∙ ap (λ w. descended w path) view

  any : Entry
  any = some_entry es i at.within

  pub keeps_released : IsKept (remove es i)
  keeps_released = kept_released es kept path i at any

  pub shows_released : active_of (remove es i) ≡ released u path
  shows_released = active-remove es i any path at.within (at.found any) kept.ascends ∙ ap (λ w. released w path) view
