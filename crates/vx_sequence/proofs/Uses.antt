-- For callers: what is active, and what is open, after each call.
use Rattle.std.proofs.Common.{◌≡◌, ◌≢◌, ℕ, ◌+◌, ◌⊎◌, arith, true, false, List, is_some, sym, ap, subst, ◌∙◌, inl, inr, ⊎_elim}
use Rattle.std.specs.FinMap as map
use Rattle.vx_path.specs.Path.{under, Eof, eof_path, next, inside}
use Rattle.vx_sequence.specs.Universe.{Active, IsActive, IsOpen, only, advanced, descended, split_from, released}
use Rattle.vx_sequence.proofs.Places.{same_parts}
use Rattle.vx_sequence.proofs.Sets.{one_path, get-inserted, get-insert_other, get-remove_other, is_open_active, is_inserted, is_active_more, active_insert, active_remove}

pub only_open : (e : Eof) → IsOpen (only e) (eof_path e)
only_open e = get-inserted map.empty (eof_path e) true

-- after `advance`: the id is active, the pointer is open, and the others are as before

pub advanced_id : (u : Active) (e : Eof) → IsActive (advanced u e) (eof_path e)
advanced_id u e = is_active_more (map.insert u (eof_path e) false) (eof_path (next e)) true (eof_path e) (is_inserted u (eof_path e) false)

pub advanced_next : (u : Active) (e : Eof) → IsOpen (advanced u e) (eof_path (next e))
advanced_next u e = get-inserted (map.insert u (eof_path e) false) (eof_path (next e)) true

pub advanced_active : (u : Active) (e : Eof) (q : List ℕ) → IsActive u q → IsActive (advanced u e) q
advanced_active u e q a = is_active_more (map.insert u (eof_path e) false) (eof_path (next e)) true q (is_active_more u (eof_path e) false q a)

pub advanced_open : (u : Active) (e : Eof) (q : List ℕ) → q ≢ eof_path e → IsOpen u q → IsOpen (advanced u e) q
advanced_open u e q n o = ⊎_elim
    (λ s. subst (λ r. IsOpen (advanced u e) r) (sym s) (advanced_next u e))
    (λ m. get-insert_other (map.insert u (eof_path e) false) (eof_path (next e)) true q m ∙ get-insert_other u (eof_path e) false q n ∙ o)
    (one_path q (eof_path (next e)))

-- and nothing else is active
pub advanced_is : (u : Active) (e : Eof) (q : List ℕ) → IsActive (advanced u e) q
    → (q ≡ eof_path e) ⊎ ((q ≡ eof_path (next e)) ⊎ IsActive u q)
advanced_is u e q a = ⊎_elim
    (λ s. inr (inl s))
    (λ b. ⊎_elim (λ s. inl s) (λ c. inr (inr c)) (active_insert u (eof_path e) false q b))
    (active_insert (map.insert u (eof_path e) false) (eof_path (next e)) true q a)

-- after `descend`: the pointer is open, and the others are as before

pub descended_child : (u : Active) (p : List ℕ) → IsOpen (descended u p) (under p 0)
descended_child u p = get-inserted (map.remove u p) (under p 0) true

pub descended_active : (u : Active) (p q : List ℕ) → q ≢ p → IsActive u q → IsActive (descended u p) q
descended_active u p q n a = is_active_more (map.remove u p) (under p 0) true q (ap is_some (get-remove_other u p q n) ∙ a)

pub descended_open : (u : Active) (p q : List ℕ) → q ≢ p → IsOpen u q → IsOpen (descended u p) q
descended_open u p q n o = ⊎_elim
    (λ s. subst (λ r. IsOpen (descended u p) r) (sym s) (descended_child u p))
    (λ m. get-insert_other (map.remove u p) (under p 0) true q m ∙ get-remove_other u p q n ∙ o)
    (one_path q (under p 0))

-- and nothing else is active
pub descended_is : (u : Active) (p q : List ℕ) → IsActive (descended u p) q → (q ≡ under p 0) ⊎ ((q ≢ p) × IsActive u q)
descended_is u p q a = ⊎_elim (λ s. inl s) (λ b. inr (active_remove u p q b)) (active_insert (map.remove u p) (under p 0) true q a)

-- after `split_off`: both pointers are open, and the others are as before

pub split_first : (u : Active) (e : Eof) → IsOpen (split_from u e) (eof_path (inside e))
split_first u e = descended_child (advanced u e) (eof_path e)

pub split_second : (u : Active) (e : Eof) → IsOpen (split_from u e) (eof_path (next e))
split_second u e = descended_open (advanced u e) (eof_path e) (eof_path (next e))
    (λ s. one_less e.last (same_parts e.stem e.stem (e.last + 1) e.last s).1) (advanced_next u e)
  where
    one_less : (n : ℕ) → n + 1 ≡ n → ⊥
    one_less n h = omega (arith, h)

pub split_active : (u : Active) (e : Eof) (q : List ℕ) → q ≢ eof_path e → IsActive u q → IsActive (split_from u e) q
split_active u e q n a = descended_active (advanced u e) (eof_path e) q n (advanced_active u e q a)

pub split_open : (u : Active) (e : Eof) (q : List ℕ) → q ≢ eof_path e → IsOpen u q → IsOpen (split_from u e) q
split_open u e q n o = descended_open (advanced u e) (eof_path e) q n (advanced_open u e q n o)

-- and nothing else is active
pub split_is : (u : Active) (e : Eof) (q : List ℕ) → IsActive (split_from u e) q
    → (q ≡ eof_path (inside e)) ⊎ ((q ≡ eof_path (next e)) ⊎ ((q ≢ eof_path e) × IsActive u q))
split_is u e q a = ⊎_elim
    (λ s. inl s)
    (λ b. inr (⊎_elim
    (λ s. absurd (b.0 s))
    (λ c. ⊎_elim (λ s. inl s) (λ d. inr (b.0, d)) c)
    (advanced_is u e q b.1)))
    (descended_is (advanced u e) (eof_path e) q a)

-- after `release`: the others are as before

pub released_active : (u : Active) (p q : List ℕ) → q ≢ p → IsActive u q → IsActive (released u p) q
released_active u p q n a = ap is_some (get-remove_other u p q n) ∙ a

pub released_open : (u : Active) (p q : List ℕ) → q ≢ p → IsOpen u q → IsOpen (released u p) q
released_open u p q n o = get-remove_other u p q n ∙ o

-- and nothing else is active
pub released_is : (u : Active) (p q : List ℕ) → IsActive (released u p) q → (q ≢ p) × IsActive u q
released_is = active_remove

pub open_active : (u : Active) (p : List ℕ) → IsOpen u p → IsActive u p
open_active = is_open_active
