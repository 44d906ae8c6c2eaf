-- How moves follow each other, and leave alone what is held beside.
use Rattle.std.proofs.Common.{◌≡◌, ℕ, zero, suc, ◌+◌, ◌≤◌, ◌⊎◌, Bool, true, false, List, Option, Some, None, is_some, refl, ap, subst, inl, inr, ⊎_elim, arith}
use Rattle.std.specs.FinMap as map
use Rattle.vx_sequence.specs.Universe.{Active, IsActive, IsOpen}
use Rattle.vx_sequence.proofs.Sets.{is_open_active}
use Rattle.vx_machine_ids.specs.Stock.{Stock, one, none, both}
use Rattle.vx_machine_ids.specs.Balance.{active_at, Owned, Moved, Exact, IsNone}
use Rattle.vx_machine_ids.proofs.Stocks.{both_none, none_both, both_swap}

one_le : (b : Bool) → one b ≤ 1
one_le true = omega arith
one_le false = omega arith

pub active_le : (u : Active) (p : List ℕ) → active_at u p ≤ 1
active_le u p = one_le (map.contains_key u p)

pub active_one : (u : Active) (p : List ℕ) → IsActive u p → active_at u p ≡ 1
active_one u p h = ap one h

pub open_one : (u : Active) (p : List ℕ) → IsOpen u p → active_at u p ≡ 1
open_one u p h = active_one u p (is_open_active u p h)

pub moved_none : (u : Active) (s : Stock) → Owned u s → Moved u u s s
moved_none u s o = record { balance = λ p. refl; opened = o.opened; others = λ p h e. h }

pub moved_then : (u v w : Active) (s t r : Stock) → Moved u v s t → Moved v w t r → Moved u w s r
moved_then u v w s t r a b = record {
  balance = λ p. omega (arith, a.balance p, b.balance p);
  opened = b.opened;
  others = λ p h e. b.others p (a.others p h e) (omega (arith, a.balance p, open_one u p h, active_le v p, e));
}

pub owned_left : (u : Active) (s r : Stock) → Owned u (both s r) → Owned u s
owned_left u s r o = record { within = λ p. omega (arith, o.within p); opened = λ p h. o.opened p (omega (arith, h)) }

pub owned_right : (u : Active) (s r : Stock) → Owned u (both s r) → Owned u r
owned_right u s r o = record { within = λ p. omega (arith, o.within p); opened = λ p h. o.opened p (omega (arith, h)) }

pub owned_now : (u v : Active) (s t : Stock) → Owned u s → Moved u v s t → Owned v t
owned_now u v s t o m = record { within = λ p. omega (arith, o.within p, m.balance p); opened = m.opened }

some_of : (a b : ℕ) → 1 ≤ a + b → (1 ≤ a) ⊎ (1 ≤ b)
some_of zero b h = inr (omega (arith, h))
some_of (suc a) b h = inl (omega arith)

pub moved_beside : (u v : Active) (s t r : Stock) → Owned u (both s r) → Moved u v s t → Moved u v (both s r) (both t r)
moved_beside u v s t r o m = record {
  balance = λ p. omega (arith, m.balance p);
  opened = λ p h. ⊎_elim (λ a. m.opened p a)
      (λ b. m.others p (o.opened p (omega (arith, b))) (omega (arith, o.within p, active_le u p, b)))
      (some_of (t.ends p) (r.ends p) h);
  others = λ p h e. m.others p h (omega (arith, e));
}

pub moved_behind : (u v : Active) (r s t : Stock) → Owned u (both r s) → Moved u v s t → Moved u v (both r s) (both r t)
moved_behind u v r s t o m = subst (λ x. Moved u v x (both r t)) (both_swap s r)
    (subst (λ x. Moved u v (both s r) x) (both_swap t r) (moved_beside u v s t r (subst (λ x. Owned u x) (both_swap r s) o) m))

-- one of two parts is given up
pub moved_drop : (u v : Active) (r s : Stock) → Owned u (both r s) → Moved u v s none → Moved u v (both r s) r
moved_drop u v r s o m = subst (λ x. Moved u v (both r s) x) (both_none r) (moved_behind u v r s none o m)

pub moved_drop_first : (u v : Active) (s r : Stock) → Owned u (both s r) → Moved u v s none → Moved u v (both s r) r
moved_drop_first u v s r o m = subst (λ x. Moved u v (both s r) x) (none_both r) (moved_beside u v s none r o m)

-- what is held is the same
pub owned_as : (u : Active) (s t : Stock) → s ≡ t → Owned u s → Owned u t
owned_as u s t e o = subst (λ x. Owned u x) e o

pub moved_as : (u v : Active) (s s' t t' : Stock) → s ≡ s' → t ≡ t' → Moved u v s t → Moved u v s' t'
moved_as u v s s' t t' e f m = subst (λ x. Moved u v s' x) f (subst (λ x. Moved u v x t) e m)

pub leaves_none : (u v : Active) (s : Stock) → Exact u s → Moved u v s none → IsNone v
leaves_none u v s e m = λ p. omega (arith, e p, m.balance p)

-- both parts are given up, one after the other
pub moved_twice : (u v w : Active) (s t : Stock) → Owned u (both s t) → Moved u v s none → Moved v w t none → Moved u w (both s t) none
moved_twice u v w s t o a b = moved_then u v w (both s t) t none (moved_drop_first u v s t o a) b

-- what is left once the first part is given up is owned
pub owned_rest : (u v : Active) (s t : Stock) → Owned u (both s t) → Moved u v s none → Owned v t
owned_rest u v s t o a = owned_now u v (both s t) t o (moved_drop_first u v s t o a)

-- a part changes, and then the other
pub moved_parts : (u v w : Active) (s t s' t' : Stock) → Owned u (both s t) → Moved u v s s' → Moved v w t t' → Moved u w (both s t) (both s' t')
moved_parts u v w s t s' t' o a b =
    let m : Moved u v (both s t) (both s' t) = moved_beside u v s s' t o a in
    moved_then u v w (both s t) (both s' t) (both s' t') m (moved_behind v w s' t t' (owned_now u v (both s t) (both s' t) o m) b)
