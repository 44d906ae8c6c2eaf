-- Parts of lists that are owned, and moved.
use Rattle.std.proofs.Common.{map as list_map, ◌≡◌, ℕ, zero, suc, ◌+◌, ◌-◌, ◌<◌, ◌≤◌, List, [], ◌∷◌, ◌++◌, length, get_or, set, refl, sym, ap, subst, ◌∙◌, arith}
use Rattle.vx_sequence.specs.Universe.{Active}
use Rattle.vx_machine_ids.specs.Stock.{Stock, none, both, all_stock}
use Rattle.vx_machine_ids.specs.Balance.{Owned, Moved}
use Rattle.vx_machine_ids.proofs.Stocks.{stock_is, both_swap, both_assoc, all_push}
use Rattle.vx_machine_ids.proofs.MoveLaws.{owned_left, owned_right, owned_now, owned_as, moved_as, moved_beside, moved_behind, moved_drop, moved_drop_first}

-- the last is taken off
module _ {A : Type 0} (f : A → Stock) (u : Active) (all xs : List A) (x : A) (is : all ≡ xs ++ (x ∷ [])) (o : Owned u (all_stock f all)) where
  parts : all_stock f all ≡ both (all_stock f xs) (f x)
  parts = ap (all_stock f) is ∙ all_push f xs x

  pub pop_owned : Owned u (f x)
  pop_owned = owned_right u (all_stock f xs) (f x) (subst (λ s. Owned u s) parts o)

  pub pop_moved : (v : Active) → Moved u v (f x) none → Moved u v (all_stock f all) (all_stock f xs)
  pop_moved v m = subst (λ s. Moved u v s (all_stock f xs)) (sym parts) (moved_drop u v (all_stock f xs) (f x) (subst (λ s. Owned u s) parts o) m)

  pub pop_rest : (v : Active) → Moved u v (f x) none → Owned v (all_stock f xs)
  pop_rest v m = owned_now u v (all_stock f all) (all_stock f xs) o (pop_moved v m)

-- the first
module _ {A : Type 0} (f : A → Stock) (u : Active) (all cs : List A) (c : A) (is : all ≡ c ∷ cs) (o : Owned u (all_stock f all)) where
  row : Owned u (both (f c) (all_stock f cs))
  row = subst (λ s. Owned u (all_stock f s)) is o

  pub first_owned : Owned u (f c)
  first_owned = owned_left u (f c) (all_stock f cs) row

  pub later_owned : Owned u (all_stock f cs)
  later_owned = owned_right u (f c) (all_stock f cs) row

  pub first_moved : (v : Active) (e : A) → Moved u v (f c) (f e) → Moved u v (all_stock f all) (all_stock f (e ∷ cs))
  first_moved v e m = subst (λ s. Moved u v (all_stock f s) (all_stock f (e ∷ cs))) (sym is) (moved_beside u v (f c) (f e) (all_stock f cs) row m)

  pub later_moved : (v : Active) (es : List A) → Moved u v (all_stock f cs) (all_stock f es) → Moved u v (all_stock f all) (all_stock f (c ∷ es))
  later_moved v es m = subst (λ s. Moved u v (all_stock f s) (all_stock f (c ∷ es))) (sym is) (moved_behind u v (f c) (all_stock f cs) (all_stock f es) row m)

  pub shift_moved : (v : Active) → Moved u v (f c) none → Moved u v (all_stock f all) (all_stock f cs)
  shift_moved v m = subst (λ s. Moved u v (all_stock f s) (all_stock f cs)) (sym is) (moved_drop_first u v (f c) (all_stock f cs) row m)

-- one in the middle gets more, or less
pub set_ids : {A : Type 0} (f : A → Stock) (xs : List A) (i : ℕ) (x y : A) (p : List ℕ) → i < length xs → get_or xs i x ≡ x
    → (all_stock f (set xs i y)).ids p + (f x).ids p ≡ (all_stock f xs).ids p + (f y).ids p
set_ids f [] i x y p h e = absurd (omega (arith, h))
set_ids f (z ∷ zs) zero x y p h e = let g : (f z).ids p ≡ (f x).ids p = ap (λ w. (f w).ids p) e in omega (arith, g)
set_ids f (z ∷ zs) (suc i) x y p h e = omega (arith, set_ids f zs i x y p (omega (arith, h)) e)

pub set_ends : {A : Type 0} (f : A → Stock) (xs : List A) (i : ℕ) (x y : A) (p : List ℕ) → i < length xs → get_or xs i x ≡ x
    → (all_stock f (set xs i y)).ends p + (f x).ends p ≡ (all_stock f xs).ends p + (f y).ends p
set_ends f [] i x y p h e = absurd (omega (arith, h))
set_ends f (z ∷ zs) zero x y p h e = let g : (f z).ends p ≡ (f x).ends p = ap (λ w. (f w).ends p) e in omega (arith, g)
set_ends f (z ∷ zs) (suc i) x y p h e = omega (arith, set_ends f zs i x y p (omega (arith, h)) e)

pub set_stock : {A : Type 0} (f : A → Stock) (xs : List A) (i : ℕ) (x y : A) → i < length xs → get_or xs i x ≡ x
    → both (all_stock f (set xs i y)) (f x) ≡ both (all_stock f xs) (f y)
set_stock f xs i x y h e = stock_is (both (all_stock f (set xs i y)) (f x)) (both (all_stock f xs) (f y)) (λ p. set_ids f xs i x y p h e) (λ p. set_ends f xs i x y p h e)

pub set_same : {A : Type 0} (f : A → Stock) (xs : List A) (i : ℕ) (x y : A) → i < length xs → get_or xs i x ≡ x → f y ≡ f x
    → all_stock f (set xs i y) ≡ all_stock f xs
set_same f xs i x y h e s = stock_is (all_stock f (set xs i y)) (all_stock f xs)
    (λ p. let a : (f y).ids p ≡ (f x).ids p = ap (λ (w : Stock). w.ids p) s in omega (arith, a, set_ids f xs i x y p h e))
    (λ p. let a : (f y).ends p ≡ (f x).ends p = ap (λ (w : Stock). w.ends p) s in omega (arith, a, set_ends f xs i x y p h e))

-- one of a list gets more
pub set_more : {A : Type 0} (f : A → Stock) (xs : List A) (i : ℕ) (x y : A) (s : Stock) → i < length xs → get_or xs i x ≡ x → f y ≡ both (f x) s
    → all_stock f (set xs i y) ≡ both (all_stock f xs) s
set_more f xs i x y s h e g = stock_is (all_stock f (set xs i y)) (both (all_stock f xs) s)
    (λ p. let a : (f y).ids p ≡ (f x).ids p + s.ids p = ap (λ (w : Stock). w.ids p) g in omega (arith, a, set_ids f xs i x y p h e))
    (λ p. let a : (f y).ends p ≡ (f x).ends p + s.ends p = ap (λ (w : Stock). w.ends p) g in omega (arith, a, set_ends f xs i x y p h e))

-- one of a list is owned with the list, and moves as it does
pub at_within : {A : Type 0} (f : A → Stock) (xs : List A) (i : ℕ) (x : A) (p : List ℕ) → i < length xs → get_or xs i x ≡ x
    → ((f x).ids p ≤ (all_stock f xs).ids p) × ((f x).ends p ≤ (all_stock f xs).ends p)
at_within f [] i x p h e = absurd (omega (arith, h))
at_within f (z ∷ zs) zero x p h e =
    let a : (f z).ids p ≡ (f x).ids p = ap (λ w. (f w).ids p) e in
    let b : (f z).ends p ≡ (f x).ends p = ap (λ w. (f w).ends p) e in
    (omega (arith, a), omega (arith, b))
at_within f (z ∷ zs) (suc i) x p h e =
    let w = at_within f zs i x p (omega (arith, h)) e in
    (omega (arith, w.0), omega (arith, w.1))

pub at_owned : {A : Type 0} (f : A → Stock) (u : Active) (xs : List A) (i : ℕ) (x : A) → i < length xs → get_or xs i x ≡ x
    → Owned u (all_stock f xs) → Owned u (f x)
at_owned f u xs i x h e o = record {
  within = λ p. (let w = at_within f xs i x p h e in omega (arith, w.0, w.1, o.within p));
  opened = λ p k. o.opened p (let w = at_within f xs i x p h e in omega (arith, w.1, k));
}

-- what the others hold
others_of : {A : Type 0} → (A → Stock) → List A → A → Stock
others_of f xs x = record { ids = λ p. (all_stock f xs).ids p - (f x).ids p; ends = λ p. (all_stock f xs).ends p - (f x).ends p }

parts_of : {A : Type 0} (f : A → Stock) (xs : List A) (i : ℕ) (x : A) → i < length xs → get_or xs i x ≡ x → both (f x) (others_of f xs x) ≡ all_stock f xs
unfolding others_of
parts_of f xs i x h e = stock_is (both (f x) (others_of f xs x)) (all_stock f xs)
    (λ p. let w = at_within f xs i x p h e in omega (arith, w.0))
    (λ p. let w = at_within f xs i x p h e in omega (arith, w.1))

changed_of : {A : Type 0} (f : A → Stock) (xs : List A) (i : ℕ) (x y : A) → i < length xs → get_or xs i x ≡ x → both (f y) (others_of f xs x) ≡ all_stock f (set xs i y)
unfolding others_of
changed_of f xs i x y h e = stock_is (both (f y) (others_of f xs x)) (all_stock f (set xs i y))
    (λ p. let w = at_within f xs i x p h e in omega (arith, w.0, set_ids f xs i x y p h e))
    (λ p. let w = at_within f xs i x p h e in omega (arith, w.1, set_ends f xs i x y p h e))

pub at_moved : {A : Type 0} (f : A → Stock) (u v : Active) (xs : List A) (i : ℕ) (x y : A) → i < length xs → get_or xs i x ≡ x
    → Owned u (all_stock f xs) → Moved u v (f x) (f y) → Moved u v (all_stock f xs) (all_stock f (set xs i y))
at_moved f u v xs i x y h e o m = moved_as u v (both (f x) (others_of f xs x)) (all_stock f xs) (both (f y) (others_of f xs x)) (all_stock f (set xs i y))
    (parts_of f xs i x h e) (changed_of f xs i x y h e)
    (moved_beside u v (f x) (f y) (others_of f xs x) (owned_as u (all_stock f xs) (both (f x) (others_of f xs x)) (sym (parts_of f xs i x h e)) o) m)
