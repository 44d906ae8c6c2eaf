-- A plan's pairs get their numbers in order of path, one by one.
use Rattle.std.proofs.Common.{◌≡◌, ◌+◌, ◌∙◌, ℕ, suc, bytes_eq, true, false, List, [], ◌∷◌, length, map, refl, sym, ap, ap₂, subst, inl, inr, ⊎_elim, arith}
use Rattle.std.specs.Prelude.{if◌then◌else◌}
use Rattle.std.specs.Cmp.Lexicographic.{bytes_decides}
use Rattle.std.proofs.lemmas.Bool.{cases_Bool, true≢false}
use Rattle.vx_path.specs.Lists.{In}
use Rattle.vx_path.specs.Path.{path_le, meets, Scattered}
use Rattle.vx_path.specs.Sort.{insert_by}
use Rattle.vx_path.proofs.Lists.{in_map, from_map}
use Rattle.vx_path.proofs.Path.{meets-refl}
use Rattle.vx_path.proofs.Sort.{insert_by-head, insert_by-tail, from_insert, from_sorted, length-sort_by}
use Rattle.vx_plan.specs.PlanData.{Pair, paths}
use Rattle.vx_plan.specs.Number.{path_of, sorted, place_of, number_of}
use Rattle.vx_plan.proofs.Numbering.{in_paths}
use Rattle.vx_machine.specs.Progress.{numbers_from}

-- ---- no path is there twice

abbrev Differ : List (List ℕ) → Type 0
Differ [] = Unit {0}
Differ (p ∷ ps) = (In p ps → ⊥) × Differ ps

differ_pairs : (ps : List Pair) → Scattered (paths ps) → Differ (map path_of ps)
differ_pairs [] s = tt
differ_pairs (x ∷ ps) s = (off, differ_pairs ps s.1)
  where
    off : In x.0 (map path_of ps) → ⊥
    off i =
        let r : (y : Pair) × In y ps × (x.0 ≡ path_of y) = from_map path_of x.0 ps i in
        true≢false (sym (meets-refl x.0) ∙ ap (meets x.0) r.2 ∙ s.0 r.0.0 (in_paths r.0 ps r.1))

differ_insert : (x : Pair) (ys : List Pair) → Differ (map path_of (x ∷ ys)) → Differ (map path_of (insert_by path_of x ys))
differ_insert x [] d = d
differ_insert x (y ∷ ys) d = ⊎_elim
    (λ t. subst (λ z. Differ (map path_of z)) (sym (insert_by-head path_of x y ys t)) d)
    (λ f. subst (λ z. Differ (map path_of z)) (sym (insert_by-tail path_of x y ys f)) (off, differ_insert x ys ((λ i. d.0 (inr i)), d.1.1)))
    (cases_Bool (path_le x.0 y.0))
  where
    off : In y.0 (map path_of (insert_by path_of x ys)) → ⊥
    off i =
        let r : (z : Pair) × In z (insert_by path_of x ys) × (y.0 ≡ path_of z) = from_map path_of y.0 (insert_by path_of x ys) i in
        ⊎_elim (λ e. d.0 (inl (sym (r.2 ∙ ap path_of e)))) (λ j. d.1.0 (subst (λ q. In q (map path_of ys)) (sym r.2) (in_map path_of r.0 ys j)))
        (from_insert path_of r.0 x ys r.1)

differ_sorted : (ps : List Pair) → Differ (map path_of ps) → Differ (map path_of (sorted ps))
differ_sorted [] d = tt
differ_sorted (p ∷ ps) d = differ_insert p (sorted ps) (off, differ_sorted ps d.1)
  where
    off : In p.0 (map path_of (sorted ps)) → ⊥
    off i =
        let r : (z : Pair) × In z (sorted ps) × (p.0 ≡ path_of z) = from_map path_of p.0 (sorted ps) i in
        d.0 (subst (λ q. In q (map path_of ps)) (sym r.2) (in_map path_of r.0 ps (from_sorted path_of r.0 ps r.1)))

-- ---- places

-- where this numbers the paths by their places from n on
numbers_are : (n : ℕ) (f : List ℕ → ℕ) (qs : List Pair) → Differ (map path_of qs) → ((q : Pair) → In q qs → f q.0 ≡ n + place_of q.0 qs) → map (λ (q : Pair). f q.0) qs ≡ numbers_from n (length qs)
numbers_are n f [] d h = refl
numbers_are n f (p ∷ qs) d h = ap₂ (λ (x : ℕ) (xs : List ℕ). x ∷ xs) first (numbers_are (suc n) f qs d.1 rest)
  where
    self : bytes_eq p.0 p.0 ≡ true
    self = (bytes_decides p.0 p.0).1 refl

    first : f p.0 ≡ n
    first = let e : f p.0 ≡ n + 0 = h p (inl refl) ∙ ap (λ b. n + (if b then 0 else suc (place_of p.0 qs))) self in omega (arith, e)

    other : (q : Pair) → In q qs → bytes_eq q.0 p.0 ≡ false
    other q i = ⊎_elim (λ t. absurd (d.0 (subst (λ z. In z (map path_of qs)) ((bytes_decides q.0 p.0).0 t) (in_map path_of q qs i)))) (λ e. e) (cases_Bool (bytes_eq q.0 p.0))

    rest : (q : Pair) → In q qs → f q.0 ≡ suc n + place_of q.0 qs
    rest q i = let e : f q.0 ≡ n + suc (place_of q.0 qs) = h q (inr i) ∙ ap (λ b. n + (if b then 0 else suc (place_of q.0 qs))) (other q i) in omega (arith, e)

pub numbers_in_order : (ps : List Pair) → Scattered (paths ps) → map (λ (q : Pair). number_of ps 0 q.0) (sorted ps) ≡ numbers_from 0 (length ps)
numbers_in_order ps s =
    numbers_are 0 (number_of ps 0) (sorted ps) (differ_sorted ps (differ_pairs ps s)) (λ q i. refl) ∙ ap (numbers_from 0) (length-sort_by path_of ps)
