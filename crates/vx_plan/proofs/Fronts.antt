-- A front of all sorted pairs that lies among the pairs of the batches taken is a front of their sorted pairs.
use Rattle.std.proofs.Common.{◌≡◌, ℕ, true, false, List, [], ◌∷◌, ◌++◌, refl, sym, ap, ap₂, ◌∙◌, subst, inl, inr, ⊎_elim}
use Rattle.std.proofs.lemmas.Bool.{cases_Bool}
use Rattle.vx_path.specs.Lists.{In}
use Rattle.vx_path.specs.Path.{meets, Scattered, path_le}
use Rattle.vx_path.specs.Sort.{insert_by, Ascends}
use Rattle.vx_path.proofs.Lists.{in_left}
use Rattle.vx_path.proofs.Path.{meets-sym, path_le-antisym, path_le-refl}
use Rattle.vx_path.proofs.Sort.{insert_by-head, insert_by-tail, from_insert, in_sorted, from_sorted, sort_ascends}
use Rattle.vx_plan.specs.PlanData.{Pair, paths}
use Rattle.vx_plan.specs.Number.{path_of, sorted}
use Rattle.vx_plan.proofs.Numbering.{in_paths, one_content, clash}

-- a path of a list of pairs is that of one of them
from_paths : (x : List ℕ) (ps : List Pair) → In x (paths ps) → (p : Pair) × In p ps × (x ≡ p.0)
from_paths x [] h = absurd h
from_paths x (p ∷ ps) h = ⊎_elim (λ e. (p, inl refl, e)) (λ t. let r : (q : Pair) × In q ps × (x ≡ q.0) = from_paths x ps t in (r.0, inr r.1, r.2)) h

scattered_insert : (x : Pair) (ys : List Pair) → Scattered (paths (x ∷ ys)) → Scattered (paths (insert_by path_of x ys))
scattered_insert x [] s = s
scattered_insert x (y ∷ ys) s = ⊎_elim
    (λ t. subst (λ z. Scattered (paths z)) (sym (insert_by-head path_of x y ys t)) s)
    (λ f. subst (λ z. Scattered (paths z)) (sym (insert_by-tail path_of x y ys f))
    (off, scattered_insert x ys (λ q i. s.0 q (inr i), s.1.1)))
    (cases_Bool (path_le x.0 y.0))
  where
    off : (q : List ℕ) → In q (paths (insert_by path_of x ys)) → meets y.0 q ≡ false
    off q i =
        let r : (p : Pair) × In p (insert_by path_of x ys) × (q ≡ p.0) = from_paths q (insert_by path_of x ys) i in
        ⊎_elim (λ e. subst (λ z. meets y.0 z ≡ false) (sym (r.2 ∙ ap path_of e)) (meets-sym y.0 x.0 ∙ s.0 y.0 (inl refl)))
        (λ k. subst (λ z. meets y.0 z ≡ false) (sym r.2) (s.1.0 r.0.0 (in_paths r.0 ys k)))
        (from_insert path_of r.0 x ys r.1)

pub scattered_sorted : (ps : List Pair) → Scattered (paths ps) → Scattered (paths (sorted ps))
scattered_sorted [] s = tt
scattered_sorted (p ∷ ps) s = scattered_insert p (sorted ps) (off, scattered_sorted ps s.1)
  where
    off : (q : List ℕ) → In q (paths (sorted ps)) → meets p.0 q ≡ false
    off q i =
        let r : (x : Pair) × In x (sorted ps) × (q ≡ x.0) = from_paths q (sorted ps) i in
        subst (λ z. meets p.0 z ≡ false) (sym r.2) (s.0 r.0.0 (in_paths r.0 ps (from_sorted path_of r.0 ps r.1)))

-- a scattered list doesn't have its first pair again
not_again : (x : Pair) (ps : List Pair) → Scattered (paths (x ∷ ps)) → In x ps → ⊥
not_again x ps s i = clash x.0 (s.0 x.0 (in_paths x ps i))

-- the second list's pairs are all of the first's, and those of the front are all of the second's
pub fronts : (done rest bs : List Pair) → Ascends path_of (done ++ rest) → Ascends path_of bs → Scattered (paths (done ++ rest)) → Scattered (paths bs)
    → ((x : Pair) → In x bs → In x (done ++ rest)) → ((x : Pair) → In x done → In x bs)
    → (more : List Pair) × (bs ≡ done ++ more)
fronts [] rest bs a b s t f g = (bs, refl)
fronts (x ∷ done) rest [] a b s t f g = absurd (g x (inl refl))
fronts (x ∷ done) rest (y ∷ bs) a b s t f g =
    let r : (more : List Pair) × (bs ≡ done ++ more) = fronts done rest bs a.1 b.1 s.1 t.1 inner front in
    (r.0, ap₂ (λ u v. u ∷ v) (sym same) r.1)
  where
    x_le : path_le x.0 y.0 ≡ true
    x_le = ⊎_elim (λ e. subst (λ z. path_le x.0 z ≡ true) (sym (ap path_of e)) (path_le-refl x.0)) (λ i. a.0 y i) (f y (inl refl))

    y_le : path_le y.0 x.0 ≡ true
    y_le = ⊎_elim (λ e. subst (λ z. path_le y.0 z ≡ true) (sym (ap path_of e)) (path_le-refl y.0)) (λ i. b.0 x i) (g x (inl refl))

    same : x ≡ y
    same = one_content (x ∷ done ++ rest) s x y (inl refl) (f y (inl refl)) (path_le-antisym x.0 y.0 x_le y_le)

    inner : (z : Pair) → In z bs → In z (done ++ rest)
    inner z i = ⊎_elim (λ e. absurd (not_again y bs t (subst (λ w. In w bs) (e ∙ same) i))) (λ j. j) (f z (inr i))

    front : (w : Pair) → In w done → In w bs
    front w i = ⊎_elim (λ e. absurd (not_again x (done ++ rest) s (in_left x done rest (subst (λ z. In z done) (e ∙ sym same) i)))) (λ j. j) (g w (inr i))

-- the same of sorted pairs
pub sorted_fronts : (ps qs done rest : List Pair) → Scattered (paths ps) → Scattered (paths qs) → ((x : Pair) → In x qs → In x ps)
    → sorted ps ≡ done ++ rest → ((x : Pair) → In x done → In x qs) → (more : List Pair) × (sorted qs ≡ done ++ more)
sorted_fronts ps qs done rest s t f e g =
    fronts done rest (sorted qs) (subst (Ascends path_of) e (sort_ascends path_of ps)) (sort_ascends path_of qs)
    (subst (λ z. Scattered (paths z)) e (scattered_sorted ps s)) (scattered_sorted qs t)
    (λ x i. subst (λ z. In x z) e (in_sorted path_of x ps (f x (from_sorted path_of x qs i))))
    (λ x i. in_sorted path_of x qs (g x i))
