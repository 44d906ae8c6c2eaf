-- What holds over any list of calls.
use Rattle.std.proofs.Common.{◌≡◌, ℕ, ◌+◌, ◌⊎◌, true, false, List, [], ◌∷◌, sym, ap, subst, ◌∙◌, inl, inr, ⊎_elim, arith}
use Rattle.std.specs.FinMap as map
use Rattle.vx_path.specs.Path.{path_lt, begins, under, Eof, raised, eof_path, next, inside}
use Rattle.vx_path.proofs.Path.{path_le-trans, lt_le, under_lt, begins-refl, begins-trans, begins-under, below_raised, begins-inside, raised-next, raised-zero}
use Rattle.vx_sequence.specs.Universe.{Active, IsActive, IsLeast, IsUniverse, only}
use Rattle.vx_sequence.specs.Calls.{Call, advance, descend, release, MayCall, after, MayRun, after_all, IsAbove, GoesOn}
use Rattle.vx_sequence.proofs.Places.{same_parts, begins_under, child_above}
use Rattle.vx_sequence.proofs.Sets.{is_open_active, not_empty, active_insert, active_remove}
use Rattle.vx_sequence.proofs.Rules.{removed_rules, advanced_rules, descended_rules}

pub call_rules : (u : Active) (c : Call) → IsUniverse u → MayCall u c → IsUniverse (after u c)
call_rules u (advance e) r m = advanced_rules u e r m
call_rules u (descend p) r m = descended_rules u p r m
call_rules u (release p) r m = removed_rules u p r

pub all_rules : (u : Active) (calls : List Call) → IsUniverse u → MayRun u calls → IsUniverse (after_all u calls)
all_rules u [] r m = r
all_rules u (c ∷ calls) r m = all_rules (after u c) calls (call_rules u c r m.0) m.1

-- what a call makes active was active, or is above something that was
pub made : (u : Active) (c : Call) → MayCall u c → (q : List ℕ) → IsActive (after u c) q → IsActive u q ⊎ IsAbove u q
made u (advance e) m q a = ⊎_elim
    (λ s. inr (
      eof_path e,
      is_open_active u (eof_path e) m,
      subst (λ x. path_lt (eof_path e) x ≡ true) (sym s) (under_lt e.stem e.last (e.last + 1) (omega arith)),
    ))
    (λ b. inl (⊎_elim (λ s. subst (λ x. IsActive u x) (sym s) (is_open_active u (eof_path e) m)) (λ c. c)
    (active_insert u (eof_path e) false q b)))
    (active_insert (map.insert u (eof_path e) false) (eof_path (next e)) true q a)
made u (descend p) m q a = ⊎_elim
    (λ s. inr (p, m, subst (λ x. path_lt p x ≡ true) (sym s) (child_above p 0)))
    (λ b. inl (active_remove u p q b).1)
    (active_insert (map.remove u p) (under p 0) true q a)
made u (release p) m q a = inl (active_remove u p q a).1

pub call_least : (u : Active) (c : Call) (p : List ℕ) → MayCall u c → IsLeast u p → IsLeast (after u c) p
call_least u c p m l q a = ⊎_elim
    (λ b. l q b)
    (λ b. path_le-trans p b.0 q (l b.0 b.1) (lt_le b.0 q b.2))
    (made u c m q a)

pub all_least : (u : Active) (calls : List Call) (p : List ℕ) → MayRun u calls → IsLeast u p → IsLeast (after_all u calls) p
all_least u [] p m l = l
all_least u (c ∷ calls) p m l = all_least (after u c) calls p m.1 (call_least u c p m.0 l)

-- Where a pointer goes on.

goes_on_under : (e : Eof) (p : List ℕ) (j : ℕ) → GoesOn e p → GoesOn e (under p j)
goes_on_under e p j h = (h.0, begins-trans (raised e h.0) p (under p j) h.1 (begins-under p j))

goes_on_next : (e f : Eof) → GoesOn e (eof_path f) → GoesOn e (eof_path (next f))
goes_on_next e f h = ⊎_elim
    (λ s. let same : (e.stem ≡ f.stem) × (e.last + h.0 ≡ f.last) = same_parts e.stem f.stem (e.last + h.0) f.last s in
    let k : e.last + (h.0 + 1) ≡ f.last + 1 = omega (arith, same.1) in
    (h.0 + 1, subst (λ x. begins (raised e (h.0 + 1)) x ≡ true) (λ i. under (same.0 i) (k i)) (begins-refl (raised e (h.0 + 1)))))
    (λ b. (h.0, begins-trans (raised e h.0) f.stem (eof_path (next f)) b (begins-under f.stem (f.last + 1))))
    (begins_under (raised e h.0) f.stem f.last h.1)

goes_on_call : (e : Eof) (u : Active) (c : Call) → MayCall u c → ((q : List ℕ) → IsActive u q → GoesOn e q) → (q : List ℕ) → IsActive (after u c) q → GoesOn e q
goes_on_call e u (advance f) m g q a =
    let here : GoesOn e (eof_path f) = g (eof_path f) (is_open_active u (eof_path f) m) in
    ⊎_elim
    (λ s. subst (λ x. GoesOn e x) (sym s) (goes_on_next e f here))
    (λ b. ⊎_elim (λ s. subst (λ x. GoesOn e x) (sym s) here) (λ c. g q c) (active_insert u (eof_path f) false q b))
    (active_insert (map.insert u (eof_path f) false) (eof_path (next f)) true q a)
goes_on_call e u (descend p) m g q a = ⊎_elim
    (λ s. subst (λ x. GoesOn e x) (sym s) (goes_on_under e p 0 (g p m)))
    (λ b. g q (active_remove u p q b).1)
    (active_insert (map.remove u p) (under p 0) true q a)
goes_on_call e u (release p) m g q a = g q (active_remove u p q a).1

goes_on_all : (e : Eof) (u : Active) (calls : List Call) → MayRun u calls → ((q : List ℕ) → IsActive u q → GoesOn e q) → (q : List ℕ) → IsActive (after_all u calls) q → GoesOn e q
goes_on_all e u [] m g = g
goes_on_all e u (c ∷ calls) m g = goes_on_all e (after u c) calls m.1 (goes_on_call e u c m.0 g)

goes_on_itself : (e : Eof) (q : List ℕ) → IsActive (only e) q → GoesOn e q
goes_on_itself e q a = ⊎_elim
    (λ s. let k : e.last + 0 ≡ e.last = omega arith in
    (0, subst (λ x. begins (raised e 0) x ≡ true) (ap (λ n. under e.stem n) k ∙ sym s) (begins-refl (raised e 0))))
    (λ b. absurd (not_empty q b))
    (active_insert map.empty (eof_path e) true q a)

-- all that a pointer ever makes goes on from it or from a later sibling
pub goes_on : (e : Eof) (calls : List Call) → MayRun (only e) calls → (q : List ℕ) → IsActive (after_all (only e) calls) q → GoesOn e q
goes_on e calls m = goes_on_all e (only e) calls m (goes_on_itself e)

-- what goes on inside a path is below what goes on from its next sibling
pub split_lt : (e : Eof) (x y : List ℕ) → GoesOn (inside e) x → GoesOn (next e) y → path_lt x y ≡ true
split_lt e x y a b =
    let left : begins (eof_path e) x ≡ true = begins-trans (eof_path e) (raised (inside e) a.0) x (begins-inside e a.0) a.1 in
    let right : begins (raised e (b.0 + 1)) y ≡ true = subst (λ z. begins z y ≡ true) (raised-next e b.0) b.1 in
    below_raised e 0 (b.0 + 1) x y (omega arith) (subst (λ z. begins z x ≡ true) (sym (raised-zero e)) left) right
