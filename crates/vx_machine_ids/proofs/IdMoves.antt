-- What calls on an order move, as their answers tell.
use Rattle.std.proofs.Common.{◌≡◌, ◌≢◌, ℕ, zero, suc, ◌+◌, ◌≤◌, ◌<◌, false, List, [], ◌∷◌, ◌++◌, length, None, refl, sym, subst, ◌∙◌, ⊎_elim, arith}
use Rattle.std.proofs.lemmas.List.{length-append}
use Rattle.std.specs.FinMap as map
use Rattle.vx_path.specs.Path.{under, Eof, eof_path, next, inside}
use Rattle.vx_path.proofs.Path.{begins-under}
use Rattle.vx_sequence.specs.Universe.{Active, IsActive, IsUniverse, advanced, descended, released, split_from}
use Rattle.vx_sequence.proofs.Sets.{none_active, active_remove, get-insert_other}
use Rattle.vx_sequence.proofs.Places.{same_parts}
use Rattle.vx_order.specs.Ids.{children, with_children, SplitRefused}
use Rattle.vx_machine_ids.specs.Stock.{Stock, none, both, id_stock, end_stock, ids_stock}
use Rattle.vx_machine_ids.specs.Balance.{Owned, Moved}
use Rattle.vx_machine_ids.proofs.Stocks.{both_none, all_push}
use Rattle.vx_machine_ids.proofs.MoveLaws.{moved_none, moved_then, moved_behind, owned_now, owned_right, owned_as}
use Rattle.vx_machine_ids.proofs.CallLaws.{owned_active, owned_open, advanced_moved, descended_moved, split_moved, released_moved, inserted_moved}

-- ---- pointers

pub took : (u v : Active) (e e' : Eof) (p : List ℕ) → IsUniverse u → v ≡ advanced u e → e' ≡ next e → p ≡ eof_path e → Owned u (end_stock e)
    → Moved u v (end_stock e) (both (end_stock e') (id_stock p))
took u v e e' p r a b d o =
    subst (λ x. Moved u x (end_stock e) (both (end_stock e') (id_stock p))) (sym a)
    (subst (λ x. Moved u (advanced u e) (end_stock e) (both (end_stock x) (id_stock p))) (sym b)
    (subst (λ x. Moved u (advanced u e) (end_stock e) (both (end_stock (next e)) (id_stock x))) (sym d) (advanced_moved u e r (owned_open u e o))))

pub not_took : (u v : Active) (e e' : Eof) → v ≡ u → e' ≡ e → Owned u (end_stock e) → Moved u v (end_stock e) (both (end_stock e') none)
not_took u v e e' a b o =
    subst (λ x. Moved u x (end_stock e) (both (end_stock e') none)) (sym a)
    (subst (λ x. Moved u u (end_stock e) (both (end_stock x) none)) (sym b)
    (subst (λ x. Moved u u (end_stock e) x) (sym (both_none (end_stock e))) (moved_none u (end_stock e) o)))

pub split_took : (u v : Active) (e e' off : Eof) → IsUniverse u → v ≡ split_from u e → e' ≡ next e → off ≡ inside e → Owned u (end_stock e)
    → Moved u v (end_stock e) (both (end_stock e') (end_stock off))
split_took u v e e' off r a b d o =
    subst (λ x. Moved u x (end_stock e) (both (end_stock e') (end_stock off))) (sym a)
    (subst (λ x. Moved u (split_from u e) (end_stock e) (both (end_stock x) (end_stock off))) (sym b)
    (subst (λ x. Moved u (split_from u e) (end_stock e) (both (end_stock (next e)) (end_stock x))) (sym d) (split_moved u e r (owned_open u e o))))

-- the pointer goes on, and the id is lost
lost : (u : Active) (e : Eof) → IsUniverse u → Owned u (end_stock e) → Moved u (released (advanced u e) (eof_path e)) (end_stock e) (both (end_stock (next e)) none)
lost u e r o =
    let v : Active = advanced u e in
    let n : Stock = end_stock (next e) in
    let i : Stock = id_stock (eof_path e) in
    let m : Moved u v (end_stock e) (both n i) = advanced_moved u e r (owned_open u e o) in
    let k : Owned v (both n i) = owned_now u v (end_stock e) (both n i) o m in
    moved_then u v (released v (eof_path e)) (end_stock e) (both n i) (both n none) m
    (moved_behind v (released v (eof_path e)) n i none k (released_moved v (eof_path e) (owned_active v (eof_path e) (owned_right v n i k))))

pub split_not : (u v : Active) (e e' : Eof) → IsUniverse u → SplitRefused u e v e' → Owned u (end_stock e) → Moved u v (end_stock e) (both (end_stock e') none)
split_not u v e e' r s o = ⊎_elim
    (λ a. not_took u v e e' a.1 a.0 o)
    (λ a. subst (λ x. Moved u x (end_stock e) (both (end_stock e') none)) (sym a.1)
    (subst (λ x. Moved u (released (advanced u e) (eof_path e)) (end_stock e) (both (end_stock x) none)) (sym a.0) (lost u e r o)))
    s

-- ---- children of an id

child_free : (u : Active) (p : List ℕ) → IsUniverse u → IsActive u p → (n : ℕ) → map.get (map.remove u p) (under p n) ≡ None
child_free u p r a n = none_active (map.remove u p) (under p n) (λ b.
    let c : (under p n ≢ p) × IsActive u (under p n) = active_remove u p (under p n) b in
    c.0 (sym (r.prefix_free p (under p n) a c.1 (begins-under p n))))

other_child : (p : List ℕ) (k n : ℕ) → n < k → under p k ≢ under p n
other_child p k n h e = let w : (p ≡ p) × (k ≡ n) = same_parts p p k n e in absurd (omega (arith, h, w.1))

module _ (w : Active) (p : List ℕ) (free : (n : ℕ) → map.get w (under p n) ≡ None) where
  later_free : (n k : ℕ) → n ≤ k → map.get (with_children w p n) (under p k) ≡ None
  later_free zero k h = free k
  later_free (suc n) k h = get-insert_other (with_children w p n) (under p n) false (under p k) (other_child p k n (omega (arith, h)))
      ∙ later_free n k (omega (arith, h))

  nothing : Owned w none
  nothing = record { within = λ q. omega arith; opened = λ q h. absurd (omega (arith, h)) }

  made : (n : ℕ) → Moved w (with_children w p n) none (ids_stock (children p n))
  made zero = moved_none w none nothing
  made (suc n) =
      let v : Active = with_children w p n in
      let s : Stock = ids_stock (children p n) in
      let q : List ℕ = under p n in
      let m : Moved w v none s = made n in
      let o : Owned v (both s none) = owned_as v s (both s none) (sym (both_none s)) (owned_now w v none s nothing m) in
      let k : Moved v (map.insert v q false) (both s none) (both s (id_stock q)) = moved_behind v (map.insert v q false) s none (id_stock q) o
      (inserted_moved v q (later_free n n (omega arith))) in
      subst (λ x. Moved w (map.insert v q false) none x) (sym (all_push id_stock (children p n) q))
      (moved_then w v (map.insert v q false) none s (both s (id_stock q)) m
      (subst (λ x. Moved v (map.insert v q false) x (both s (id_stock q))) (both_none s) k))

pub children_moved : (u v : Active) (p : List ℕ) (n : ℕ) (ids : List (List ℕ)) → IsUniverse u → v ≡ with_children (released u p) p n → ids ≡ children p n → Owned u (id_stock p)
    → Moved u v (id_stock p) (ids_stock ids)
children_moved u v p n ids r a b o =
    let q : IsActive u p = owned_active u p o in
    subst (λ x. Moved u x (id_stock p) (ids_stock ids)) (sym a)
    (subst (λ x. Moved u (with_children (released u p) p n) (id_stock p) (ids_stock x)) (sym b)
    (moved_then u (released u p) (with_children (released u p) p n) (id_stock p) none (ids_stock (children p n)) (released_moved u p q)
    (made (released u p) p (child_free u p r q) n)))

pub id_lost : (u v : Active) (p : List ℕ) → v ≡ released u p → Owned u (id_stock p) → Moved u v (id_stock p) none
id_lost u v p a o = subst (λ x. Moved u x (id_stock p) none) (sym a) (released_moved u p (owned_active u p o))

pub children_count : (p : List ℕ) (n : ℕ) → length (children p n) ≡ n
children_count p zero = refl
children_count p (suc n) =
    let e : length (children p n) ≡ n = children_count p n in
    let a : length (children p n ++ (under p n ∷ [])) ≡ length (children p n) + 1 = length-append (children p n) (under p n ∷ []) in
    omega (arith, e, a)

-- ---- a pointer below an id

pub below_took : (u v : Active) (p : List ℕ) (e : Eof) → IsUniverse u → v ≡ descended u p → e.stem ≡ p → e.last ≡ 0 → Owned u (id_stock p) → Moved u v (id_stock p) (end_stock e)
below_took u v p e r a b d o =
    let w : e ≡ record { stem = p; last = 0 } = λ j. record { stem = b j; last = d j } in
    subst (λ x. Moved u x (id_stock p) (end_stock e)) (sym a) (subst (λ x. Moved u (descended u p) (id_stock p) (end_stock x)) (sym w) (descended_moved u p r (owned_active u p o)))

pub id_gone : (u v w : Active) (p q : List ℕ) → v ≡ u → q ≡ p → w ≡ released v q → Owned u (id_stock p) → Moved u w (id_stock p) none
id_gone u v w p q a b d o = id_lost u w p (d ∙ (λ j. released (a j) (b j))) o
