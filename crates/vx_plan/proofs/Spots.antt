-- Where a node's paths lie.
use Rattle.std.proofs.Common.{◌≡◌, ℕ, ◌+◌, true, false, List, [], ◌∷◌, ◌++◌, refl, sym, ◌∙◌, subst, inl, inr, ⊎_elim, arith}
use Rattle.vx_path.specs.Lists.{In}
use Rattle.vx_path.specs.Path.{begins, meets, Scattered, Eof, raised, eof_path, inside, next, Region}
use Rattle.vx_path.proofs.Lists.{in_left, in_right, in_cases}
use Rattle.vx_path.proofs.Path.{begins-trans, begins-refl, meets-sym, apart_begins, raised_apart, raised-next, raised-zero, begins-inside, region_next, region_more, region_inside}

-- No path of a stream is a prefix of another, and each is off the eof path e and all of e + j.
pub record Apart (ps : List (List ℕ)) (e : Eof) : Type 0 where
  pub scattered : Scattered ps
  pub off : (p : List ℕ) → In p ps → (j : ℕ) → meets p (raised e j) ≡ false

-- All paths are of the region, and none is a prefix of another.
pub record Lies (R : List ℕ → Type 0) (xs : List (List ℕ)) : Type 0 where
  pub scattered : Scattered xs
  pub within : (x : List ℕ) → In x xs → R x

pub lies_none : (R : List ℕ → Type 0) → Lies R []
lies_none R = record { scattered = tt; within = λ x h. absurd h }

pub lies_one : (R : List ℕ → Type 0) (x : List ℕ) → R x → Lies R (x ∷ [])
lies_one R x r = record { scattered = (λ q h. absurd h, tt); within = λ y h. ⊎_elim (λ e. subst R (sym e) r) (λ n. absurd n) h }

pub scattered_left : (ps qs : List (List ℕ)) → Scattered (ps ++ qs) → Scattered ps
scattered_left [] qs h = tt
scattered_left (p ∷ ps) qs h = (λ q i. h.0 q (in_left q ps qs i), scattered_left ps qs h.1)

pub scattered_right : (ps qs : List (List ℕ)) → Scattered (ps ++ qs) → Scattered qs
scattered_right [] qs h = h
scattered_right (p ∷ ps) qs h = scattered_right ps qs h.1

pub scattered_cross : (ps qs : List (List ℕ)) → Scattered (ps ++ qs) → (p q : List ℕ) → In p ps → In q qs → meets p q ≡ false
scattered_cross [] qs h p q i j = absurd i
scattered_cross (r ∷ ps) qs h p q i j = ⊎_elim (λ e. subst (λ z. meets z q ≡ false) (sym e) (h.0 q (in_right q ps qs j))) (λ k. scattered_cross ps qs h.1 p q k j) i

pub scattered_both : (ps qs : List (List ℕ)) → Scattered ps → Scattered qs → ((p q : List ℕ) → In p ps → In q qs → meets p q ≡ false) → Scattered (ps ++ qs)
scattered_both [] qs f g h = g
scattered_both (p ∷ ps) qs f g h =
    (λ q i. ⊎_elim (λ l. f.0 q l) (λ r. h p q (inl refl) r) (in_cases q ps qs i), scattered_both ps qs f.1 g (λ a b i j. h a b (inr i) j))

-- what goes on from two paths that don't meet doesn't meet
pub apart_both : (p q x y : List ℕ) → meets p q ≡ false → begins p x ≡ true → begins q y ≡ true → meets x y ≡ false
apart_both p q x y m b c = meets-sym x y ∙ apart_begins q x y (meets-sym q x ∙ apart_begins p q x m b) c

pub inside_begins : (e : Eof) (j : ℕ) (x : List ℕ) → begins (raised (inside e) j) x ≡ true → begins (raised e 0) x ≡ true
inside_begins e j x h = rw (raised-zero e) (begins-trans (eof_path e) (raised (inside e) j) x (begins-inside e j) h)

-- a child with e's first path below it
pub apart_inside : (ps : List (List ℕ)) (e : Eof) → Apart ps e → Apart ps (inside e)
apart_inside ps e a = record { scattered = a.scattered; off = λ p i j. off p (raised (inside e) j) (a.off p i 0) (inside_begins e j (raised (inside e) j) (begins-refl (raised (inside e) j))) }
  where
    off : (p r : List ℕ) → meets p (raised e 0) ≡ false → begins (raised e 0) r ≡ true → meets p r ≡ false
    off p r m b = apart_both p (raised e 0) p r m (begins-refl p) b

pub apart_next : (ps : List (List ℕ)) (e : Eof) → Apart ps e → Apart ps (next e)
apart_next ps e a = record { scattered = a.scattered; off = λ p i j. rw (raised-next e j) (a.off p i (j + 1)) }

pub apart_left : (ps qs : List (List ℕ)) (e : Eof) → Apart (ps ++ qs) e → Apart ps e
apart_left ps qs e a = record { scattered = scattered_left ps qs a.scattered; off = λ p i j. a.off p (in_left p ps qs i) j }

pub apart_right : (ps qs : List (List ℕ)) (e : Eof) → Apart (ps ++ qs) e → Apart qs e
apart_right ps qs e a = record { scattered = scattered_right ps qs a.scattered; off = λ p i j. a.off p (in_right p ps qs i) j }

-- The paths of a child on the stream ps inside e, and those of what stands behind it on qs from e + 1.
pub two_parts : (ps qs : List (List ℕ)) (e : Eof) (xs ys : List (List ℕ)) → Apart (ps ++ qs) e
    → Lies (Region ps (inside e)) xs → Lies (Region qs (next e)) ys → Lies (Region (ps ++ qs) e) (xs ++ ys)
two_parts ps qs e xs ys a l r = record {
  scattered = scattered_both xs ys l.scattered r.scattered (λ x y i j. cross x y (l.within x i) (r.within y j));
  within = λ x h. ⊎_elim
      (λ i. region_more ps (ps ++ qs) e x (λ p k. in_left p ps qs k) (region_inside ps e x (l.within x i)))
      (λ i. region_more qs (ps ++ qs) e x (λ p k. in_right p ps qs k) (region_next qs e x (r.within x i)))
      (in_cases x xs ys h);
}
  where
    cross : (x y : List ℕ) → Region ps (inside e) x → Region qs (next e) y → meets x y ≡ false
    cross x y (inl p) (inl q) = apart_both p.0 q.0 x y (scattered_cross ps qs a.scattered p.0 q.0 p.1 q.1) p.2 q.2
    cross x y (inl p) (inr j) = apart_both p.0 (raised e (j.0 + 1)) x y (a.off p.0 (in_left p.0 ps qs p.1) (j.0 + 1)) p.2 (subst (λ z. begins z y ≡ true) (raised-next e j.0) j.1)
    cross x y (inr i) (inl q) = apart_both (raised e 0) q.0 x y (meets-sym (raised e 0) q.0 ∙ a.off q.0 (in_right q.0 ps qs q.1) 0) (inside_begins e i.0 x i.1) q.2
    cross x y (inr i) (inr j) = apart_both (raised e 0) (raised e (j.0 + 1)) x y (raised_apart e 0 (j.0 + 1) (omega arith)) (inside_begins e i.0 x i.1) (subst (λ z. begins z y ≡ true) (raised-next e j.0) j.1)
