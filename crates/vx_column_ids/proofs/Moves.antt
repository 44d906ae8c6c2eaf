-- What calls move, of what is held in lists.
use Rattle.std.proofs.Common.{◌≡◌, ℕ, ◌-◌, ◌<◌, List, [], ◌∷◌, ◌++◌, length, get_or, set, refl, sym, ap, subst, ◌∙◌, arith}
use Rattle.vx_path.specs.Path.{Eof}
use Rattle.vx_sequence.specs.Universe.{Active, root, only}
use Rattle.vx_machine_ids.specs.Stock.{Stock, none, both, all_stock, id_stock, end_stock, ids_stock}
use Rattle.vx_machine_ids.specs.Balance.{Owned, Moved}
use Rattle.vx_machine_ids.proofs.Stocks.{stock_is, both_none, both_assoc, both_swap, all_push}
use Rattle.vx_machine_ids.proofs.MoveLaws.{moved_as, moved_none, moved_then, moved_beside, moved_behind, moved_drop, moved_drop_first, owned_as, owned_left, owned_right, owned_now}
use Rattle.vx_machine_ids.proofs.Lists.{at_within, set_ids, set_ends}
use Rattle.vx_machine_ids.proofs.Roots.{only_owned}
use Rattle.vx_column_ids.specs.Outsets.{ends_stock}

-- what is made is put behind a list
pub put_behind : {A : Type 0} (f : A → Stock) (u v : Active) (s s' : Stock) (xs : List A) (x : A) → Owned u (both s (all_stock f xs)) → Moved u v s (both s' (f x))
    → Moved u v (both s (all_stock f xs)) (both s' (all_stock f (xs ++ (x ∷ []))))
put_behind f u v s s' xs x o m =
    moved_as u v (both s (all_stock f xs)) (both s (all_stock f xs)) (both (both s' (f x)) (all_stock f xs)) (both s' (all_stock f (xs ++ (x ∷ []))))
    refl (both_assoc s' (f x) (all_stock f xs) ∙ ap (both s') (both_swap (f x) (all_stock f xs) ∙ sym (all_push f xs x)))
    (moved_beside u v s (both s' (f x)) (all_stock f xs) o m)

-- nothing is made
pub put_nothing : (u v : Active) (s s' r : Stock) → Owned u (both s r) → Moved u v s (both s' none) → Moved u v (both s r) (both s' r)
put_nothing u v s s' r o m = moved_beside u v s s' r o (moved_as u v s s (both s' none) s' refl (both_none s') m)

-- what the others of a list hold
abbrev rest_of : {A : Type 0} → (A → Stock) → List A → A → Stock
rest_of f xs x = record { ids = λ p. (all_stock f xs).ids p - (f x).ids p; ends = λ p. (all_stock f xs).ends p - (f x).ends p }

-- one of a list makes something
pub made_at : {A : Type 0} (f : A → Stock) (u v : Active) (xs : List A) (i : ℕ) (x y : A) (s : Stock) → i < length xs → get_or xs i x ≡ x
    → Owned u (all_stock f xs) → Moved u v (f x) (both (f y) s) → Moved u v (all_stock f xs) (both (all_stock f (set xs i y)) s)
made_at f u v xs i x y s h e o m =
    moved_as u v (both (f x) (rest_of f xs x)) (all_stock f xs) (both (both (f y) s) (rest_of f xs x)) (both (all_stock f (set xs i y)) s) before
    (stock_is (both (both (f y) s) (rest_of f xs x)) (both (all_stock f (set xs i y)) s)
    (λ p. let w = at_within f xs i x p h e in omega (arith, w.0, set_ids f xs i x y p h e))
    (λ p. let w = at_within f xs i x p h e in omega (arith, w.1, set_ends f xs i x y p h e)))
    (moved_beside u v (f x) (both (f y) s) (rest_of f xs x) (owned_as u (all_stock f xs) (both (f x) (rest_of f xs x)) (sym before) o) m)
  where
    before : both (f x) (rest_of f xs x) ≡ all_stock f xs
    before = stock_is (both (f x) (rest_of f xs x)) (all_stock f xs)
        (λ p. let w = at_within f xs i x p h e in omega (arith, w.0))
        (λ p. let w = at_within f xs i x p h e in omega (arith, w.1))

-- a pointer of a list gives an id, or gives none
pub id_at : (u v : Active) (es : List Eof) (i : ℕ) (e e' : Eof) (p : List ℕ) (ids : List (List ℕ)) → i < length es → get_or es i e ≡ e
    → Owned u (both (ends_stock es) (ids_stock ids)) → Moved u v (end_stock e) (both (end_stock e') (id_stock p))
    → Moved u v (both (ends_stock es) (ids_stock ids)) (both (ends_stock (set es i e')) (ids_stock (ids ++ (p ∷ []))))
id_at u v es i e e' p ids h g o m =
    put_behind id_stock u v (ends_stock es) (ends_stock (set es i e')) ids p o
    (made_at end_stock u v es i e e' (id_stock p) h g (owned_left u (ends_stock es) (ids_stock ids) o) m)

pub no_id_at : (u v : Active) (es : List Eof) (i : ℕ) (e e' : Eof) (ids : List (List ℕ)) → i < length es → get_or es i e ≡ e
    → Owned u (both (ends_stock es) (ids_stock ids)) → Moved u v (end_stock e) (both (end_stock e') none)
    → Moved u v (both (ends_stock es) (ids_stock ids)) (both (ends_stock (set es i e')) (ids_stock ids))
no_id_at u v es i e e' ids h g o m =
    put_nothing u v (ends_stock es) (ends_stock (set es i e')) (ids_stock ids) o
    (made_at end_stock u v es i e e' none h g (owned_left u (ends_stock es) (ids_stock ids) o) m)

-- ---- pointers p of batches, ids i of them, and the pointer e behind them

pub after_ids : (u v : Active) (p p' i e : Stock) → Owned u (both p e) → Moved u v p (both p' i) → Owned v (both p' (both i e))
after_ids u v p p' i e o m =
    owned_as v (both (both p' i) e) (both p' (both i e)) (both_assoc p' i e) (owned_now u v (both p e) (both (both p' i) e) o (moved_beside u v p (both p' i) e o m))

-- the ids are given up
pub ids_gone : (v w : Active) (p i e : Stock) → Owned v (both p (both i e)) → Moved v w i none → Owned w (both p e)
ids_gone v w p i e o m =
    owned_now v w (both p (both i e)) (both p e) o (moved_behind v w p (both i e) e o (moved_drop_first v w i e (owned_right v p (both i e) o) m))

-- or go with a pointer below e
pub parted_off : (v w : Active) (p i e e' : Stock) → Owned v (both p (both i e)) → Moved v w (both i e) e' → Owned w (both p e')
parted_off v w p i e e' o m = owned_now v w (both p (both i e)) (both p e') o (moved_behind v w p (both i e) e' o m)

-- below e a pointer b is made
module _ (u v : Active) (i e e' b : Stock) (o : Owned u (both i e)) (m : Moved u v e (both e' b)) where
  order : both i (both e' b) ≡ both e' (both i b)
  order = stock_is (both i (both e' b)) (both e' (both i b)) (λ q. omega arith) (λ q. omega arith)

  made : Moved u v (both i e) (both e' (both i b))
  made = moved_as u v (both i e) (both i e) (both i (both e' b)) (both e' (both i b)) refl order (moved_behind u v i e (both e' b) o m)

  held : Owned v (both e' (both i b))
  held = owned_now u v (both i e) (both e' (both i b)) o made

  pub below_owned : Owned v (both i b)
  below_owned = owned_right v e' (both i b) held

  pub below_moved : (w : Active) → Moved v w (both i b) none → Moved u w (both i e) e'
  below_moved w n = moved_then u v w (both i e) (both e' (both i b)) e' made (moved_drop v w e' (both i b) held n)

-- or none is
module _ (u v : Active) (i e e' : Stock) (o : Owned u (both i e)) (m : Moved u v e (both e' none)) where
  lost : Moved u v (both i e) (both i e')
  lost = moved_behind u v i e e' o (moved_as u v e e (both e' none) e' refl (both_none e') m)

  left : Owned v (both i e')
  left = owned_now u v (both i e) (both i e') o lost

  pub lost_owned : Owned v i
  lost_owned = owned_left v i e' left

  pub lost_moved : (w : Active) → Moved v w i none → Moved u w (both i e) e'
  lost_moved w n = moved_then u v w (both i e) (both i e') e' lost (moved_drop_first v w i e' left n)

-- ---- the stream's pointer

-- no pointer yet
pub empty_owned : {A : Type 0} (f : A → Stock) (u : Active) (s : Stock) (xs : List A) → xs ≡ [] → Owned u s → Owned u (both s (all_stock f xs))
empty_owned f u s xs e o = owned_as u s (both s (all_stock f xs)) (sym (both_none s) ∙ ap (λ ys. both s (all_stock f ys)) (sym e)) o

pub empty_moved : {A : Type 0} (f : A → Stock) (u : Active) (s : Stock) (xs : List A) → xs ≡ [] → Owned u s → Moved u u s (both s (all_stock f xs))
empty_moved f u s xs e o = moved_as u u s s s (both s (all_stock f xs)) refl (sym (both_none s) ∙ ap (λ ys. both s (all_stock f ys)) (sym e)) (moved_none u s o)

-- it is given up, and what was made of it stays, or is given up too
module _ (u v : Active) (s s' t : Stock) (o : Owned u s) (m : Moved u v s (both s' t)) where
  both_held : Owned v (both s' t)
  both_held = owned_now u v s (both s' t) o m

  pub stream_owned : Owned v s'
  stream_owned = owned_left v s' t both_held

  pub made_owned : Owned v t
  made_owned = owned_right v s' t both_held

  pub rest_moved : (w : Active) → Moved v w s' none → Moved u w s t
  rest_moved w n = moved_then u v w s (both s' t) t m (moved_drop_first v w s' t both_held n)

  pub rest_owned : (w : Active) → Moved v w s' none → Owned w t
  rest_owned w n = owned_now u w s t o (rest_moved w n)

  pub all_gone : (w x : Active) → Moved v w s' none → Moved w x t none → Moved u x s none
  all_gone w x n k = moved_then u w x s t none (rest_moved w n) k

  -- what was made becomes p, or is given up
  pub turned : (w : Active) (p : Stock) → Moved v w t p → Owned w (both p s')
  turned w p n = owned_as w (both s' p) (both p s') (both_swap s' p) (owned_now v w (both s' t) (both s' p) both_held (moved_behind v w s' t p both_held n))

  pub made_gone : (w : Active) → Moved v w t none → Owned w s'
  made_gone w n = owned_now v w (both s' t) s' both_held (moved_drop v w s' t both_held n)

-- ---- the root

pub root_owned : (u : Active) (e : Eof) → u ≡ only root → e ≡ root → Owned u (end_stock e)
root_owned u e a b = subst (λ v. Owned v (end_stock e)) (sym a) (subst (λ f. Owned (only root) (end_stock f)) (sym b) (only_owned root))
