-- What each call on ids and pointers moves.
use Rattle.std.proofs.Common.{◌≡◌, ◌≢◌, ℕ, ◌+◌, ◌≤◌, ◌⊎◌, Bool, true, false, List, Option, Some, None, is_some, refl, sym, ap, subst, ◌∙◌, ⊎_elim, arith}
use Rattle.std.specs.FinMap as map
use Rattle.vx_path.specs.Path.{under, Eof, eof_path, next, inside}
use Rattle.vx_sequence.specs.Universe.{Active, IsActive, IsOpen, IsUniverse, advanced, descended, split_from, released}
use Rattle.vx_sequence.proofs.Sets.{one_path, same_refl, same_false, get-inserted, get-insert_other, get-removed, get-remove_other, is_open_active}
use Rattle.vx_sequence.proofs.Rules.{sibling_free, child_free, advanced_rules}
use Rattle.vx_sequence.proofs.Places.{same_parts}
use Rattle.vx_machine_ids.specs.Stock.{Stock, held, same, one, none, both, id_stock, end_stock}
use Rattle.vx_machine_ids.specs.Balance.{active_at, Owned, Moved}
use Rattle.vx_machine_ids.proofs.MoveLaws.{active_one, open_one, moved_then, moved_behind, owned_now, owned_left, owned_right}

active_get : (u v : Active) (p : List ℕ) → map.get v p ≡ map.get u p → active_at v p ≡ active_at u p
active_get u v p e = ap (λ o. one (is_some o)) e

gone : (u : Active) (p : List ℕ) → map.get u p ≡ None → active_at u p ≡ 0
gone u p e = ap (λ o. one (is_some o)) e

here : (u : Active) (p : List ℕ) (b : Bool) → map.get u p ≡ Some b → active_at u p ≡ 1
here u p b e = ap (λ o. one (is_some o)) e

pub one_same : (p q : List ℕ) → p ≡ q → one (same p q) ≡ 1
one_same p q e = ap one (subst (λ r. same p r ≡ true) e (same_refl p))

pub one_other : (p q : List ℕ) → p ≢ q → one (same p q) ≡ 0
one_other p q n = ap one (same_false p q n)

-- a path that nobody held is made active, as an id's
pub inserted_moved : (u : Active) (p : List ℕ) → map.get u p ≡ None → Moved u (map.insert u p false) none (id_stock p)
inserted_moved u p f = record {
  balance = λ q. ⊎_elim
      (λ e. omega (arith, one_same q p e, gone u q (ap (map.get u) e ∙ f), here v q false (ap (map.get v) e ∙ get-inserted u p false)))
      (λ n. omega (arith, one_other q p n, active_get u v q (get-insert_other u p false q n)))
      (one_path q p);
  opened = λ q h. absurd (omega (arith, h));
  others = λ q h e. ⊎_elim
      (λ g. absurd (other_answer (map.get u q) h (ap (map.get u) g ∙ f)))
      (λ n. get-insert_other u p false q n ∙ h)
      (one_path q p);
}
  where
    v : Active
    v = map.insert u p false

    other_answer : (o : Option Bool) → o ≡ Some true → o ≡ None → ⊥
    other_answer o a b = cc

-- of one that holds the path, by an id or a pointer
pub released_held : (u : Active) (p : List ℕ) (s : Stock) → ((q : List ℕ) → held s q ≡ one (same q p)) → IsActive u p → Moved u (released u p) s none
released_held u p s f a = record {
  balance = λ q. ⊎_elim
      (λ e. omega (arith, f q, one_same q p e, active_one u q (subst (λ r. IsActive u r) (sym e) a), gone (released u p) q (ap (map.get (released u p)) e ∙ get-removed u p)))
      (λ n. omega (arith, f q, one_other q p n, active_get u (released u p) q (get-remove_other u p q n)))
      (one_path q p);
  opened = λ q h. absurd (omega (arith, h));
  others = λ q h e. ⊎_elim
      (λ g. absurd (omega (arith, e, f q, one_same q p g)))
      (λ n. get-remove_other u p q n ∙ h)
      (one_path q p);
}

pub released_moved : (u : Active) (p : List ℕ) → IsActive u p → Moved u (released u p) (id_stock p) none
released_moved u p a = released_held u p (id_stock p) (λ q. omega arith) a

-- a pointer's path, given up as an id
pub downgraded_moved : (u : Active) (e : Eof) → IsActive u (eof_path e) → Moved u (released u (eof_path e)) (end_stock e) none
downgraded_moved u e a = released_held u (eof_path e) (end_stock e) (λ q. omega arith) a

pub owned_active : (u : Active) (p : List ℕ) → Owned u (id_stock p) → IsActive u p
owned_active u p o = by (map.contains_key u p) (omega (arith, o.within p, one_same p p refl))
  where
    by : (b : Bool) → 1 ≤ one b → b ≡ true
    by true h = refl
    by false h = absurd (omega (arith, h))

pub owned_open : (u : Active) (e : Eof) → Owned u (end_stock e) → IsOpen u (eof_path e)
owned_open u e o = o.opened (eof_path e) (omega (arith, one_same (eof_path e) (eof_path e) refl))

pub end_active : (u : Active) (e : Eof) → Owned u (end_stock e) → IsActive u (eof_path e)
end_active u e o = is_open_active u (eof_path e) (owned_open u e o)

siblings : (e : Eof) → eof_path e ≢ eof_path (next e)
siblings e h = let w : (e.stem ≡ e.stem) × (e.last ≡ e.last + 1) = same_parts e.stem e.stem e.last (e.last + 1) h in absurd (omega (arith, w.1))

pub advanced_moved : (u : Active) (e : Eof) → IsUniverse u → IsOpen u (eof_path e) → Moved u (advanced u e) (end_stock e) (both (end_stock (next e)) (id_stock (eof_path e)))
advanced_moved u e r o = record {
  balance = λ q. ⊎_elim
      (λ g. omega (arith, one_same q n g, one_other q c (λ k. siblings e (sym k ∙ g)), gone u q (ap (map.get u) g ∙ sibling_free u e r o), here v q true (ap (map.get v) g ∙ get-inserted w n true)))
      (λ g. ⊎_elim
      (λ k. omega (arith, one_other q n g, one_same q c k, open_one u q (subst (λ x. IsOpen u x) (sym k) o), here v q false (ap (map.get v) k ∙ get-insert_other w n true c (siblings e) ∙ get-inserted u c false)))
      (λ k. omega (arith, one_other q n g, one_other q c k, active_get u v q (get-insert_other w n true q g ∙ get-insert_other u c false q k)))
      (one_path q c))
      (one_path q n);
  opened = λ q h. ⊎_elim (λ g. ap (map.get v) g ∙ get-inserted w n true) (λ g. absurd (omega (arith, h, one_other q n g))) (one_path q n);
  others = λ q h k. ⊎_elim
      (λ g. ap (map.get v) g ∙ get-inserted w n true)
      (λ g. get-insert_other w n true q g ∙ get-insert_other u c false q (λ x. absurd (omega (arith, k, one_same q c x))) ∙ h)
      (one_path q n);
}
  where
    c : List ℕ
    c = eof_path e

    n : List ℕ
    n = eof_path (next e)

    w : Active
    w = map.insert u c false

    v : Active
    v = advanced u e

first_of : List ℕ → Eof
first_of p = record { stem = p; last = 0 }

pub descended_moved : (u : Active) (p : List ℕ) → IsUniverse u → IsActive u p → Moved u (descended u p) (id_stock p) (end_stock (record { stem = p; last = 0 }))
descended_moved u p r a = record {
  balance = λ q. ⊎_elim
      (λ g. omega (arith, one_same q k g, by q g, here v q true (ap (map.get v) g ∙ get-inserted w k true)))
      (λ g. ⊎_elim
      (λ x. omega (arith, one_other q k g, one_same q p x, active_one u q (subst (λ y. IsActive u y) (sym x) a), gone v q (get-insert_other w k true q g ∙ ap (map.get w) x ∙ get-removed u p)))
      (λ x. omega (arith, one_other q k g, one_other q p x, active_get u v q (get-insert_other w k true q g ∙ get-remove_other u p q x)))
      (one_path q p))
      (one_path q k);
  opened = λ q h. ⊎_elim (λ g. ap (map.get v) g ∙ get-inserted w k true) (λ g. absurd (omega (arith, h, one_other q k g))) (one_path q k);
  others = λ q h x. ⊎_elim
      (λ g. ap (map.get v) g ∙ get-inserted w k true)
      (λ g. get-insert_other w k true q g ∙ get-remove_other u p q (λ y. absurd (omega (arith, x, one_same q p y))) ∙ h)
      (one_path q k);
}
  where
    k : List ℕ
    k = under p 0

    w : Active
    w = map.remove u p

    v : Active
    v = descended u p

    -- at the child: it isn't active before, unless it is the path itself, which it isn't
    by : (q : List ℕ) → q ≡ k → active_at u q + one (same q p) ≡ one (same q p) + one (same q p)
    by q g = ⊎_elim
        (λ x. omega (arith, one_same q p x, active_one u q (subst (λ y. IsActive u y) (sym x) a)))
        (λ x. omega (arith, one_other q p x, gone u q (sym (get-remove_other u p q x) ∙ ap (map.get w) g ∙ child_free u p r a)))
        (one_path q p)

pub split_moved : (u : Active) (e : Eof) → IsUniverse u → IsOpen u (eof_path e) → Moved u (split_from u e) (end_stock e) (both (end_stock (next e)) (end_stock (inside e)))
split_moved u e r o =
    let v : Active = advanced u e in
    let s : Stock = end_stock e in
    let n : Stock = end_stock (next e) in
    let i : Stock = id_stock (eof_path e) in
    let m : Moved u v s (both n i) = advanced_moved u e r o in
    let k : Owned v (both n i) = record { within = λ p. within p; opened = m.opened } in
    moved_then u v (split_from u e) s (both n i) (both n (end_stock (inside e))) m
    (moved_behind v (split_from u e) n i (end_stock (inside e)) k
    (descended_moved v (eof_path e) (advanced_rules u e r o) (owned_active v (eof_path e) (owned_right v n i k))))
  where
    within : (p : List ℕ) → held (both (end_stock (next e)) (id_stock (eof_path e))) p ≤ active_at (advanced u e) p
    within p = ⊎_elim
        (λ g. omega (arith, (advanced_moved u e r o).balance p, open_one u p (subst (λ x. IsOpen u x) (sym g) o), one_same p (eof_path e) g))
        (λ g. omega (arith, (advanced_moved u e r o).balance p, one_other p (eof_path e) g))
        (one_path p (eof_path e))
