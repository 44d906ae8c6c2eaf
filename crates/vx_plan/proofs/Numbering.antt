-- Numbers by place: each path finds the bytes of its pair.
use Rattle.std.proofs.Common.{◌≡◌, ℕ, suc, ◌+◌, ◌-◌, nat_lt, bytes_eq, true, false, List, [], ◌∷◌, Some, refl, sym, ap, ◌∙◌, subst, inl, inr, ⊎_elim, arith}
use Rattle.std.proofs.lemmas.Bool.{cases_Bool, true≢false}
use Rattle.std.proofs.lemmas.Bool.Decides.{nat_tests}
use Rattle.std.specs.Cmp.Lexicographic.{bytes_decides}
use Rattle.std.specs.Prelude.{if◌then◌else◌}
use Rattle.vx_path.specs.Lists.{In}
use Rattle.vx_path.specs.Path.{meets, Scattered}
use Rattle.vx_path.proofs.Path.{meets-refl}
use Rattle.vx_path.proofs.Sort.{in_sorted, from_sorted}
use Rattle.vx_plan.specs.PlanData.{Pair, Plan, paths, stored}
use Rattle.vx_plan.specs.Number.{path_of, sorted, segments, place_of, number_of, element, segment_at}
use Rattle.vx_plan.proofs.PlanLists.{Holds}

pub in_paths : (p : Pair) (ps : List Pair) → In p ps → In p.0 (paths ps)
in_paths p [] h = absurd h
in_paths p (q ∷ ps) h = ⊎_elim (λ e. inl (ap path_of e)) (λ t. inr (in_paths p ps t)) h

pub clash : (p : List ℕ) → meets p p ≡ false → ⊥
clash p f = true≢false (sym (meets-refl p) ∙ f)

-- two pairs of one path are one pair
pub one_content : (ps : List Pair) → Scattered (paths ps) → (p q : Pair) → In p ps → In q ps → p.0 ≡ q.0 → p ≡ q
one_content [] s p q i j e = absurd i
one_content (r ∷ ps) s p q i j e = ⊎_elim
    (λ a. ⊎_elim (λ b. a ∙ sym b)
    (λ b. absurd (clash q.0 (subst (λ z. meets z q.0 ≡ false) (sym (ap path_of a) ∙ e) (s.0 q.0 (in_paths q ps b))))) j)
    (λ a. ⊎_elim (λ b. absurd (clash p.0 (subst (λ z. meets z p.0 ≡ false) (sym (ap path_of b) ∙ sym e) (s.0 p.0 (in_paths p ps a)))))
    (λ b. one_content ps s.1 p q a b e) j) i

-- the place of a path has the bytes of a pair with that path
place_found : (path : List ℕ) (bytes : List ℕ) (qs : List Pair) → ((q : Pair) → In q qs → q.0 ≡ path → q.1 ≡ bytes)
    → (r : Pair) → In r qs → r.0 ≡ path → element (stored qs) (place_of path qs) ≡ Some bytes
place_found path bytes [] f r i e = absurd i
place_found path bytes (q ∷ qs) f r i e = ⊎_elim
    (λ (t : bytes_eq path q.0 ≡ true). ap (λ b. element (q.1 ∷ stored qs) (if b then 0 else suc (place_of path qs))) t
    ∙ ap Some (f q (inl refl) (sym ((bytes_decides path q.0).0 t))))
    (λ (n : bytes_eq path q.0 ≡ false). ap (λ b. element (q.1 ∷ stored qs) (if b then 0 else suc (place_of path qs))) n
    ∙ place_found path bytes qs (λ z k. f z (inr k)) r (later n i) e)
    (cases_Bool (bytes_eq path q.0))
  where
    later : bytes_eq path q.0 ≡ false → In r (q ∷ qs) → In r qs
    later n (inl a) = absurd (true≢false (sym ((bytes_decides path q.0).1 (sym e ∙ ap path_of a)) ∙ n))
    later n (inr b) = b

pub segment_at-first : (first : ℕ) (list : List (List ℕ)) (k : ℕ) → segment_at first list (first + k) ≡ element list k
segment_at-first first list k =
    let a : nat_lt (first + k) first ≡ false = grind (arith, nat_tests) in
    let b : (first + k) - first ≡ k = omega arith in
    rw (a, b) refl

holds_all : (first : ℕ) (list : List (List ℕ)) (place : List ℕ → ℕ) (ps : List Pair)
    → ((p : Pair) → In p ps → element list (place p.0) ≡ Some p.1) → Holds (λ x. segment_at first list (first + place x)) ps
holds_all first list place [] f = tt
holds_all first list place (p ∷ ps) f = (segment_at-first first list (place p.0) ∙ f p (inl refl), holds_all first list place ps (λ q i. f q (inr i)))

-- each path, numbered, finds the bytes of its pair
pub numbers_hold : (p : Plan) (first : ℕ) → Scattered (paths p.pairs) → Holds (λ x. segment_at first (segments p) (number_of p.pairs first x)) p.pairs
numbers_hold p first s = holds_all first (segments p) (λ x. place_of x (sorted p.pairs)) p.pairs
    (λ q i. place_found q.0 q.1 (sorted p.pairs) (λ r j e. ap (λ z. z.1) (one_content p.pairs s r q (from_sorted path_of r p.pairs j) i e))
    q (in_sorted path_of q p.pairs i) refl)
