-- Each call keeps the two rules of a universe.
use Rattle.std.proofs.Common.{◌≡◌, ◌≢◌, ℕ, ◌+◌, ◌⊎◌, Bool, true, false, List, None, sym, subst, ◌∙◌, inl, inr, ⊎_elim, arith, zero, suc}
use Rattle.std.proofs.lemmas.Bool.{true≢false}
use Rattle.std.specs.FinMap as map
use Rattle.vx_path.specs.Path.{begins, under, Eof, raised, eof_path, next}
use Rattle.vx_path.proofs.Path.{begins-refl, begins-trans, begins-under}
use Rattle.vx_sequence.specs.Universe.{Active, IsActive, IsOpen, IsUniverse, only, advanced, descended}
use Rattle.vx_sequence.proofs.Places.{not_true, same_parts, same_place, begins_under, siblings_apart}
use Rattle.vx_sequence.proofs.Uses.{descended_is}
use Rattle.vx_sequence.proofs.Sets.{is_open_active, none_active, not_empty, active_insert, open_insert, active_remove, open_remove}

clash : (b : Bool) → b ≡ true → b ≡ false → ⊥
clash b t f = true≢false (sym t ∙ f)

-- giving a path up keeps them
pub removed_rules : (u : Active) (p : List ℕ) → IsUniverse u → IsUniverse (map.remove u p)
removed_rules u p r = record {
  prefix_free = λ x y a b h. r.prefix_free x y (active_remove u p x a).1 (active_remove u p y b).1 h;
  nothing_behind = λ e j q o a. r.nothing_behind e j q (open_remove u p (eof_path e) o).1 (active_remove u p q a).1;
}

module _ (u : Active) (e : Eof) (r : IsUniverse u) (o : IsOpen u (eof_path e)) where
  -- nothing active begins with the next sibling of an open path ..
  behind : (q : List ℕ) → IsActive u q → begins (eof_path (next e)) q ≡ true → ⊥
  behind q a b = clash (begins (eof_path (next e)) q) b (r.nothing_behind e 0 q o a)

  -- .. nor is a prefix of it
  before : (q : List ℕ) → IsActive u q → begins q (eof_path (next e)) ≡ true → ⊥
  before q a b = ⊎_elim
      (λ s. behind q a (subst (λ x. begins (eof_path (next e)) x ≡ true) (sym s) (begins-refl (eof_path (next e)))))
      (λ s. let h : begins q (eof_path e) ≡ true = begins-trans q e.stem (eof_path e) s (begins-under e.stem e.last) in
      let same : q ≡ eof_path e = r.prefix_free q (eof_path e) a (is_open_active u (eof_path e) o) h in
      clash (begins (eof_path e) (eof_path (next e))) (subst (λ x. begins x (eof_path (next e)) ≡ true) same b)
      (siblings_apart e.stem e.last (e.last + 1) (omega arith)).0)
      (begins_under q e.stem (e.last + 1) b)

  -- so the next sibling is not active
  pub sibling_free : map.get u (eof_path (next e)) ≡ None
  sibling_free = none_active u (eof_path (next e)) (λ a. behind (eof_path (next e)) a (begins-refl (eof_path (next e))))

  -- what is active and what is open after `advance`
  was_active : (q : List ℕ) → IsActive (advanced u e) q → (q ≡ eof_path (next e)) ⊎ IsActive u q
  was_active q a = ⊎_elim (λ s. inl s)
      (λ b. inr (⊎_elim (λ s. subst (λ x. IsActive u x) (sym s) (is_open_active u (eof_path e) o)) (λ c. c)
      (active_insert u (eof_path e) false q b)))
      (active_insert (map.insert u (eof_path e) false) (eof_path (next e)) true q a)

  was_open : (q : List ℕ) → IsOpen (advanced u e) q → (q ≡ eof_path (next e)) ⊎ ((q ≢ eof_path e) × IsOpen u q)
  was_open q a = ⊎_elim (λ s. inl s.0)
      (λ b. ⊎_elim (λ s. absurd (true≢false (sym s.1))) (λ c. inr c) (open_insert u (eof_path e) false q b.1))
      (open_insert (map.insert u (eof_path e) false) (eof_path (next e)) true q a)

  -- no later sibling of another open path is a prefix of the next sibling
  not_later : (f : Eof) (j : ℕ) → eof_path f ≢ eof_path e → IsOpen u (eof_path f) → begins (raised f (j + 1)) (eof_path (next e)) ≡ true → ⊥
  not_later f j n b h = ⊎_elim
      (λ s. let same : (f.stem ≡ e.stem) × (f.last + (j + 1) ≡ e.last + 1) = same_parts f.stem e.stem (f.last + (j + 1)) (e.last + 1) s in
      at j same.0 (omega (arith, same.1)))
      (λ s. clash (begins (raised f (j + 1)) (eof_path e)) (begins-trans (raised f (j + 1)) e.stem (eof_path e) s (begins-under e.stem e.last))
      (r.nothing_behind f j (eof_path e) b (is_open_active u (eof_path e) o)))
      (begins_under (raised f (j + 1)) e.stem (e.last + 1) h)
    where
      at : (i : ℕ) → f.stem ≡ e.stem → f.last + i ≡ e.last → ⊥
      at zero s l = n (let k : f.last ≡ e.last = omega (arith, l) in λ i. under (s i) (k i))
      at (suc i) s l =
          let k : f.last + (i + 1) ≡ e.last = omega (arith, l) in
          let same : raised f (i + 1) ≡ eof_path e = λ m. under (s m) (k m) in
          clash (begins (raised f (i + 1)) (eof_path e)) (subst (λ x. begins (raised f (i + 1)) x ≡ true) same (begins-refl (raised f (i + 1))))
          (r.nothing_behind f i (eof_path e) b (is_open_active u (eof_path e) o))

  behind_next : (f : Eof) (j : ℕ) (q : List ℕ) → eof_path f ≡ eof_path (next e) → IsActive (advanced u e) q → begins (raised f (j + 1)) q ≡ true → ⊥
  behind_next f j q s a h =
      let g : begins (raised (next e) (j + 1)) q ≡ true = subst (λ x. begins (raised x (j + 1)) q ≡ true) (same_place f (next e) s) h in
      ⊎_elim
      (λ t. clash (begins (raised (next e) (j + 1)) (eof_path (next e))) (subst (λ x. begins (raised (next e) (j + 1)) x ≡ true) t g)
      (siblings_apart e.stem (e.last + 1) (e.last + 1 + (j + 1)) (omega arith)).1)
      (λ b. let k : e.last + 1 + (j + 1) ≡ e.last + (j + 1 + 1) = omega arith in
      clash (begins (raised e (j + 1 + 1)) q) (subst (λ n. begins (under e.stem n) q ≡ true) k g) (r.nothing_behind e (j + 1) q o b))
      (was_active q a)

  pub advanced_rules : IsUniverse (advanced u e)
  advanced_rules = record {
    prefix_free = λ x y a b h. ⊎_elim
        (λ s. ⊎_elim (λ t. s ∙ sym t) (λ c. absurd (behind y c (subst (λ z. begins z y ≡ true) s h))) (was_active y b))
        (λ c. ⊎_elim (λ t. absurd (before x c (subst (λ z. begins x z ≡ true) t h))) (λ d. r.prefix_free x y c d h) (was_active y b))
        (was_active x a);
    nothing_behind = λ f j q b a. not_true (begins (raised f (j + 1)) q) (λ h. ⊎_elim
        (λ s. behind_next f j q s a h)
        (λ c. ⊎_elim
        (λ t. not_later f j c.0 c.1 (subst (λ z. begins (raised f (j + 1)) z ≡ true) t h))
        (λ d. clash (begins (raised f (j + 1)) q) h (r.nothing_behind f j q c.1 d))
        (was_active q a))
        (was_open (eof_path f) b));
  }

module _ (u : Active) (p : List ℕ) (r : IsUniverse u) (a : IsActive u p) where
  -- nothing active but the path itself begins with its first child, or is a prefix of it
  below_child : (q : List ℕ) → IsActive u q → begins (under p 0) q ≡ true → q ≡ p
  below_child q b h = sym (r.prefix_free p q a b (begins-trans p (under p 0) q (begins-under p 0) h))

  above_child : (q : List ℕ) → q ≢ p → IsActive u q → begins q (under p 0) ≡ true → ⊥
  above_child q n b h = ⊎_elim
      (λ s. n (sym (r.prefix_free p q a b (subst (λ x. begins p x ≡ true) (sym s) (begins-under p 0)))))
      (λ s. n (r.prefix_free q p b a s))
      (begins_under q p 0 h)

  pub child_free : map.get (map.remove u p) (under p 0) ≡ None
  child_free = none_active (map.remove u p) (under p 0) (λ b.
      let c : (under p 0 ≢ p) × IsActive u (under p 0) = active_remove u p (under p 0) b in
      c.0 (below_child (under p 0) c.1 (begins-refl (under p 0))))

  -- what is open after `descend`
  stays_open : (q : List ℕ) → IsOpen (descended u p) q → (q ≡ under p 0) ⊎ ((q ≢ p) × IsOpen u q)
  stays_open q b = ⊎_elim (λ s. inl s.0) (λ c. inr (open_remove u p q c.1)) (open_insert (map.remove u p) (under p 0) true q b)

  behind_child : (f : Eof) (j : ℕ) (q : List ℕ) → eof_path f ≡ under p 0 → IsActive (descended u p) q → begins (raised f (j + 1)) q ≡ true → ⊥
  behind_child f j q s b h =
      let same : (f.stem ≡ p) × (f.last ≡ 0) = same_parts f.stem p f.last 0 s in
      let k : f.last + (j + 1) ≡ j + 1 = omega (arith, same.1) in
      let g : begins (under p (j + 1)) q ≡ true = subst (λ x. begins x q ≡ true) (λ i. under (same.0 i) (k i)) h in
      ⊎_elim
      (λ t. clash (begins (under p (j + 1)) (under p 0)) (subst (λ x. begins (under p (j + 1)) x ≡ true) t g)
      (siblings_apart p 0 (j + 1) (omega arith)).1)
      (λ c. c.0 (sym (r.prefix_free p q a c.1 (begins-trans p (under p (j + 1)) q (begins-under p (j + 1)) g))))
      (descended_is u p q b)

  child_not_behind : (f : Eof) (j : ℕ) → IsOpen u (eof_path f) → begins (raised f (j + 1)) (under p 0) ≡ true → ⊥
  child_not_behind f j b h = ⊎_elim
      (λ s. let same : (f.stem ≡ p) × (f.last + (j + 1) ≡ 0) = same_parts f.stem p (f.last + (j + 1)) 0 s in
      absurd (omega (arith, same.1)))
      (λ s. clash (begins (raised f (j + 1)) p) s (r.nothing_behind f j p b a))
      (begins_under (raised f (j + 1)) p 0 h)

  pub descended_rules : IsUniverse (descended u p)
  descended_rules = record {
    prefix_free = λ x y b c h. ⊎_elim
        (λ s. ⊎_elim (λ t. s ∙ sym t) (λ d. absurd (d.0 (below_child y d.1 (subst (λ z. begins z y ≡ true) s h)))) (descended_is u p y c))
        (λ d. ⊎_elim (λ t. absurd (above_child x d.0 d.1 (subst (λ z. begins x z ≡ true) t h)))
        (λ k. r.prefix_free x y d.1 k.1 h) (descended_is u p y c))
        (descended_is u p x b);
    nothing_behind = λ f j q b c. not_true (begins (raised f (j + 1)) q) (λ h. ⊎_elim
        (λ s. behind_child f j q s c h)
        (λ d. ⊎_elim
        (λ t. child_not_behind f j d.1 (subst (λ z. begins (raised f (j + 1)) z ≡ true) t h))
        (λ k. clash (begins (raised f (j + 1)) q) h (r.nothing_behind f j q d.1 k.1))
        (descended_is u p q c))
        (stays_open (eof_path f) b));
  }

-- the rules of a universe of one path
pub only_rules : (e : Eof) → IsUniverse (only e)
only_rules e = record {
  prefix_free = λ x y a b h. one x a ∙ sym (one y b);
  nothing_behind = λ f j q o a. not_true (begins (raised f (j + 1)) q) (λ h.
      let same : f ≡ e = same_place f e (one (eof_path f) (is_open_active (only e) (eof_path f) o)) in
      let g : begins (raised e (j + 1)) (eof_path e) ≡ true =
      subst (λ x. begins (raised e (j + 1)) x ≡ true) (one q a) (subst (λ x. begins (raised x (j + 1)) q ≡ true) same h) in
      clash (begins (raised e (j + 1)) (eof_path e)) g (siblings_apart e.stem e.last (e.last + (j + 1)) (omega arith)).1);
}
  where
    one : (q : List ℕ) → IsActive (only e) q → q ≡ eof_path e
    one q a = ⊎_elim (λ s. s) (λ b. absurd (not_empty q b)) (active_insert map.empty (eof_path e) true q a)
