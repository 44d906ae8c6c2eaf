-- Ids of a path's first children: made one by one, and released again.
use Rattle.std.proofs.Common.{◌≡◌, ◌≢◌, ℕ, ◌+◌, ◌<◌, ◌≤◌, Bool, true, false, zero, suc, List, [], ◌∷◌, ◌++◌, reverse, None, refl, sym, ap, subst, ◌∙◌, ⊎_elim, arith, add-one}
use Rattle.std.proofs.lemmas.List.{reverse-append}
use Rattle.std.specs.FinMap as map
use Rattle.vx_path.specs.Path.{under, Eof, eof_path, next}
use Rattle.vx_path.proofs.Path.{begins-under}
use Rattle.vx_sequence.specs.Universe.{Active, IsActive, IsOpen, IsUniverse, advanced, descended, released}
use Rattle.vx_sequence.specs.Part.{CanPart, left_of}
use Rattle.vx_sequence.proofs.Places.{same_parts}
use Rattle.vx_sequence.proofs.Sets.{one_path, same_active, get-inserted, get-insert_other, get-removed, get-remove_other, none_active, is_inserted, active_remove}
use Rattle.vx_sequence.proofs.Uses.{descended_child}
use Rattle.vx_order.specs.Ids.{children, with_children}

-- the last mark put stands
pub put_twice : (w : Active) (p : List ℕ) (a b : Bool) → map.insert (map.insert w p a) p b ≡ map.insert w p b
put_twice w p a b = same_active (map.insert (map.insert w p a) p b) (map.insert w p b) (λ q. ⊎_elim
    (λ s. subst (λ r. map.get (map.insert (map.insert w p a) p b) r ≡ map.get (map.insert w p b) r) (sym s)
    (get-inserted (map.insert w p a) p b ∙ sym (get-inserted w p b)))
    (λ n. get-insert_other (map.insert w p a) p b q n ∙ get-insert_other w p a q n ∙ sym (get-insert_other w p b q n))
    (one_path q p))

-- what is put in and taken out leaves nothing
pub put_released : (w : Active) (p : List ℕ) (b : Bool) → map.get w p ≡ None → released (map.insert w p b) p ≡ w
put_released w p b free = same_active (released (map.insert w p b) p) w (λ q. ⊎_elim
    (λ s. subst (λ r. map.get (released (map.insert w p b) p) r ≡ map.get w r) (sym s) (get-removed (map.insert w p b) p ∙ sym free))
    (λ n. get-remove_other (map.insert w p b) p q n ∙ get-insert_other w p b q n)
    (one_path q p))

-- where a path was active, no child of it is
child_gone : (u : Active) (p : List ℕ) (k : ℕ) → IsUniverse u → IsActive u p → map.get (released u p) (under p k) ≡ None
child_gone u p k r a = none_active (released u p) (under p k) (λ b.
    let c : (under p k ≢ p) × IsActive u (under p k) = active_remove u p (under p k) b in
    c.0 (sym (r.prefix_free p (under p k) a c.1 (begins-under p k))))

pub child_is_new : (u : Active) (p : List ℕ) (n k : ℕ) → IsUniverse u → IsActive u p → n ≤ k → map.get (with_children (released u p) p n) (under p k) ≡ None
child_is_new u p zero k r a le = child_gone u p k r a
child_is_new u p (suc n) k r a le =
    get-insert_other (with_children (released u p) p n) (under p n) false (under p k)
    (λ e. let same : k ≡ n = (same_parts p p k n e).1 in absurd (omega (arith, same)))
    ∙ child_is_new u p n k r a (omega arith)

-- `advance` of a pointer at the child behind them
pub one_more_child : (w : Active) (s : List ℕ) (n : ℕ) (e : Eof) → e.stem ≡ s → e.last ≡ n
    → advanced (map.insert (with_children w s n) (eof_path e) true) e ≡ map.insert (with_children w s (n + 1)) (eof_path (next e)) true
one_more_child w s n e is at =
    ap (λ v. map.insert v (eof_path (next e)) true)
    (put_twice (with_children w s n) (eof_path e) true false
    ∙ (λ j. map.insert (with_children w s n) (under (is j) (at j)) false)
    ∙ ap (with_children w s) (sym (add-one n)))

pub children_more : (s : List ℕ) (n : ℕ) (ids : List (List ℕ)) (e : Eof) → ids ≡ children s n → e.stem ≡ s → e.last ≡ n → ids ++ (eof_path e ∷ []) ≡ children s (n + 1)
children_more s n ids e is stem last =
    (λ j. is j ++ (under (stem j) (last j) ∷ [])) ∙ ap (children s) (sym (add-one n))

last_first : (s : List ℕ) (n : ℕ) → reverse (children s (suc n)) ≡ under s n ∷ reverse (children s n)
last_first s n = reverse-append (children s n) (under s n ∷ [])

-- all of them can be released, and nothing is left
pub can_release : (w : Active) (s : List ℕ) (n : ℕ) → ((k : ℕ) → k < n → map.get (with_children w s k) (under s k) ≡ None)
    → CanPart (with_children w s n) (reverse (children s n))
can_release w s zero new = tt
can_release w s (suc n) new =
    let back : released (with_children w s (suc n)) (under s n) ≡ with_children w s n = put_released (with_children w s n) (under s n) false (new n (omega arith)) in
    subst (CanPart (with_children w s (suc n))) (sym (last_first s n)) (
      is_inserted (with_children w s n) (under s n) false,
      subst (λ v. CanPart v (reverse (children s n))) (sym back) (can_release w s n (λ k lt. new k (omega (arith, lt)))),
    )

pub all_released : (w : Active) (s : List ℕ) (n : ℕ) → ((k : ℕ) → k < n → map.get (with_children w s k) (under s k) ≡ None)
    → left_of (with_children w s n) (reverse (children s n)) ≡ w
all_released w s zero new = refl
all_released w s (suc n) new =
    ap (left_of (with_children w s (suc n))) (last_first s n)
    ∙ ap (λ v. left_of v (reverse (children s n))) (put_released (with_children w s n) (under s n) false (new n (omega arith)))
    ∙ all_released w s n (λ k lt. new k (omega (arith, lt)))

-- The last of a list is the first to be released.

reversed : (xs ys : List (List ℕ)) (x : List ℕ) → xs ≡ ys ++ (x ∷ []) → reverse xs ≡ x ∷ reverse ys
reversed xs ys x is = ap reverse is ∙ reverse-append ys (x ∷ [])

pub last_can : (u : Active) (xs ys : List (List ℕ)) (x : List ℕ) → xs ≡ ys ++ (x ∷ []) → CanPart u (reverse xs)
    → IsActive u x × CanPart (released u x) (reverse ys)
last_can u xs ys x is can = subst (CanPart u) (reversed xs ys x is) can

pub last_left : (u : Active) (xs ys : List (List ℕ)) (x : List ℕ) → xs ≡ ys ++ (x ∷ []) → left_of (released u x) (reverse ys) ≡ left_of u (reverse xs)
last_left u xs ys x is = sym (ap (left_of u) (reversed xs ys x is))

-- what n ids below id leave of a universe u in which id was active
pub record IdsMade (u : Active) (id : List ℕ) (x : Active) (ids : List (List ℕ)) (n : ℕ) : Type 0 where
  pub left : x ≡ with_children (released u id) id n
  pub can : CanPart x (reverse ids)
  pub gone : left_of x (reverse ids) ≡ released u id

-- What `make_ids` does to a universe u, where id is active: the pointer e below it, the pointer f behind n ids.
module _ (u : Active) (id : List ℕ) (r : IsUniverse u) (a : IsActive u id) (v : Active) (e : Eof) (down : v ≡ descended u id) (below : (e.stem ≡ id) × (e.last ≡ 0)) where
  here : eof_path e ≡ under id 0
  here j = under (below.0 j) (below.1 j)

  pub first_open : IsOpen v (eof_path e)
  first_open = (λ j. map.get (down j) (here j)) ∙ descended_child u id

  pub first_made : v ≡ map.insert (released u id) (eof_path e) true
  first_made = down ∙ ap (λ p. map.insert (released u id) p true) (sym here)

  module _ (w : Active) (f : Eof) (n : ℕ) (made : w ≡ map.insert (with_children (released u id) e.stem n) (eof_path f) true)
      (there : (f.stem ≡ e.stem) × (f.last ≡ n)) (p : List ℕ) (is : p ≡ eof_path f) where
    pub last_active : IsActive w p
    last_active = subst (λ x. IsActive x p) (sym made)
        (subst (IsActive (map.insert (with_children (released u id) e.stem n) (eof_path f) true)) (sym is)
        (is_inserted (with_children (released u id) e.stem n) (eof_path f) true))

    last_new : map.get (with_children (released u id) e.stem n) (eof_path f) ≡ None
    last_new =
        let stem : f.stem ≡ id = there.0 ∙ below.0 in
        let all : n ≤ n = omega arith in
        (λ j. map.get (with_children (released u id) (below.0 j) n) (under (stem j) (there.1 j))) ∙ child_is_new u id n n r a all

    module _ (x : Active) (gone : x ≡ released w p) (ids : List (List ℕ)) (all_ids : ids ≡ children e.stem n) where
      ids_left : x ≡ with_children (released u id) id n
      ids_left = gone ∙ (λ j. released (made j) (is j)) ∙ put_released (with_children (released u id) e.stem n) (eof_path f) true last_new
          ∙ ap (λ s. with_children (released u id) s n) below.0

      ids_are : ids ≡ children id n
      ids_are = all_ids ∙ ap (λ s. children s n) below.0

      each_new : (k : ℕ) → k < n → map.get (with_children (released u id) id k) (under id k) ≡ None
      each_new k lt = let all : k ≤ k = omega arith in child_is_new u id k k r a all

      ids_can : CanPart x (reverse ids)
      ids_can = subst (λ y. CanPart y (reverse ids)) (sym ids_left)
          (subst (λ is. CanPart (with_children (released u id) id n) (reverse is)) (sym ids_are) (can_release (released u id) id n each_new))

      ids_gone : left_of x (reverse ids) ≡ released u id
      ids_gone = (λ j. left_of (ids_left j) (reverse (ids_are j))) ∙ all_released (released u id) id n each_new

      pub all_made : IdsMade u id x ids n
      all_made = record { left = ids_left; can = ids_can; gone = ids_gone }

pub ids_made : (u : Active) (id : List ℕ) (r : IsUniverse u) (a : IsActive u id) (v : Active) (e : Eof) (down : v ≡ descended u id) (below : (e.stem ≡ id) × (e.last ≡ 0))
    (w : Active) (f : Eof) (n : ℕ) (made : (o : Active) → v ≡ map.insert o (eof_path e) true → w ≡ map.insert (with_children o e.stem n) (eof_path f) true)
    (there : (f.stem ≡ e.stem) × (f.last ≡ n)) (p : List ℕ) (is : p ≡ eof_path f)
    (x : Active) (gone : x ≡ released w p) (ids : List (List ℕ)) (all_ids : ids ≡ children e.stem n) → IdsMade u id x ids n
ids_made u id r a v e down below w f n made there p is x gone ids all_ids =
    all_made u id r a v e down below w f n (made (released u id) (first_made u id r a v e down below)) there p is x gone ids all_ids
