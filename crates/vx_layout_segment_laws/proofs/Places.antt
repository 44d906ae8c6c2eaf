-- What follows where a layout names a plan's segments: each stands once, and its number is its place.
use Rattle.std.proofs.Common.{◌≡◌, ℕ, suc, ◌+◌, ◌<◌, bytes_eq, false, List, [], ◌∷◌, length, map, slice_index_or, refl, sym, ap, ap₂, ◌∙◌, subst, inl, inr, ⊎_elim, arith}
use Rattle.std.specs.Prelude.{if◌then◌else◌, ◌≢◌, Bool}
use Rattle.std.specs.List.{Contains}
use Rattle.std.specs.List.Sorted.{IsPermutation}
use Rattle.std.proofs.lemmas.Bool.{cases_Bool, true≢false}
use Rattle.std.proofs.lemmas.Slice.Eq.{bytes_eq-Decides}
use Rattle.std.proofs.lemmas.List.{length-map, get_or-map}
use Rattle.std.proofs.lemmas.List.Elements.{Contains-get_or}
use Rattle.std.proofs.lemmas.List.Kept.{AllPairs-cons}
use Rattle.std.proofs.lemmas.List.Sorted.{IsPermutation-refl, IsPermutation-sym, IsPermutation-trans, IsPermutation-cons, IsPermutation-middle, IsPermutation-map, length_permutation, Contains-permutation, sum_by-IsPermutation}
use Rattle.std.proofs.lemmas.List.Recursion.{is_sum_by}
use Rattle.std.proofs.lemmas.Map.Keys.{IsDistinct-IsPermutation}
use Rattle.std.proofs.lemmas.Map.Made.{AllPairs-from_IsDistinct, IsDistinct-from_AllPairs}
use Rattle.vx_model.specs.Words.{total_by}
use Rattle.vx_path.specs.Lists.{In, Each}
use Rattle.vx_path.specs.Path.{path_le, Scattered}
use Rattle.vx_path.specs.Sort.{insert_by, sort_by}
use Rattle.vx_path.proofs.Lists.{in_contains, contains_in, from_map}
use Rattle.vx_path.proofs.Sort.{insert_by-head, insert_by-tail, length-sort_by}
use Rattle.vx_layout_segments.specs.Segments.{segments_in}
use Rattle.vx_layout_segments.proofs.SegmentLaws.{segments_in-renamed}
use Rattle.vx_plan.specs.PlanData.{Pair, Plan, paths}
use Rattle.vx_plan.specs.Number.{path_of, sorted, place_of, number_of}
use Rattle.vx_plan.proofs.Numbering.{clash}
use Rattle.vx_layout_segment_laws.specs.Named.{StandOnce, place_in}
use Rattle.vx_layout_segment_laws.specs.Statements.{PairsNamedOnce}

-- ---- lists that have the same elements

total_permuted : {X : Type 0} (f : X → ℕ) (xs ys : List X) → IsPermutation xs ys → total_by f ys ≡ total_by f xs
total_permuted f xs ys h = is_sum_by (total_by f) f refl (λ x zs. refl) ys ∙ sum_by-IsPermutation f xs ys h ∙ sym (is_sum_by (total_by f) f refl (λ x zs. refl) xs)

in_permuted : {X : Type 0} (xs ys : List X) → IsPermutation xs ys → Each (λ x. In x xs) ys
in_permuted xs ys h x i = contains_in x xs (Contains-permutation ys xs x (IsPermutation-sym xs ys h) (in_contains x ys i))

insert_permutes : {A : Type 0} (key : A → List ℕ) (x : A) (ys : List A) → IsPermutation (x ∷ ys) (insert_by key x ys)
insert_permutes key x [] = IsPermutation-refl (x ∷ [])
insert_permutes key x (y ∷ ys) = ⊎_elim
    (λ t. subst (IsPermutation (x ∷ y ∷ ys)) (sym (insert_by-head key x y ys t)) (IsPermutation-refl (x ∷ y ∷ ys)))
    (λ f. subst (IsPermutation (x ∷ y ∷ ys)) (sym (insert_by-tail key x y ys f))
    (IsPermutation-trans (x ∷ y ∷ ys) (y ∷ x ∷ ys) (y ∷ insert_by key x ys) (IsPermutation-sym (y ∷ x ∷ ys) (x ∷ y ∷ ys) (IsPermutation-middle (y ∷ []) x ys))
    (IsPermutation-cons y (x ∷ ys) (insert_by key x ys) (insert_permutes key x ys))))
    (cases_Bool (path_le (key x) (key y)))

sort_permutes : {A : Type 0} (key : A → List ℕ) (xs : List A) → IsPermutation xs (sort_by key xs)
sort_permutes key [] = IsPermutation-refl []
sort_permutes key (x ∷ xs) =
    IsPermutation-trans (x ∷ xs) (x ∷ sort_by key xs) (insert_by key x (sort_by key xs)) (IsPermutation-cons x xs (sort_by key xs) (sort_permutes key xs)) (insert_permutes key x (sort_by key xs))

paths-map : (ps : List Pair) → map path_of ps ≡ paths ps
paths-map [] = refl
paths-map (p ∷ ps) = ap (λ z. p.0 ∷ z) (paths-map ps)

length-paths : (ps : List Pair) → length (paths ps) ≡ length ps
length-paths [] = refl
length-paths (p ∷ ps) = ap suc (length-paths ps)

sorted_permutes : (ps : List Pair) → IsPermutation (paths ps) (paths (sorted ps))
sorted_permutes ps =
    subst (λ z. IsPermutation z (paths (sorted ps))) (paths-map ps) (subst (IsPermutation (map path_of ps)) (paths-map (sorted ps)) (IsPermutation-map path_of ps (sorted ps) (sort_permutes path_of ps)))

-- ---- paths that are apart

bytes_eq-sym : (p q : List ℕ) → bytes_eq p q ≡ bytes_eq q p
bytes_eq-sym p q = ⊎_elim
    (λ t. t ∙ sym ((bytes_eq-Decides q p).1 (sym ((bytes_eq-Decides p q).0 t))))
    (λ f. ⊎_elim (λ t. absurd (true≢false (sym ((bytes_eq-Decides p q).1 (sym ((bytes_eq-Decides q p).0 t))) ∙ f))) (λ g. f ∙ sym g) (cases_Bool (bytes_eq q p)))
    (cases_Bool (bytes_eq p q))

scattered_once : (ps : List (List ℕ)) → Scattered ps → StandOnce ps
scattered_once [] h = λ i j d l lt. absurd (omega arith)
scattered_once (p ∷ ps) h =
    AllPairs-cons (λ x y. x ≢ y) p ps
    (λ k d lt e. clash p (h.0 p (contains_in p ps (subst (Contains ps) (sym e) (Contains-get_or ps k d lt)))))
    (scattered_once ps h.1)

once_permuted : (ps qs : List (List ℕ)) → IsPermutation ps qs → StandOnce ps → StandOnce qs
once_permuted ps qs h once = AllPairs-from_IsDistinct bytes_eq-Decides qs (IsDistinct-IsPermutation bytes_eq bytes_eq-sym ps qs h (IsDistinct-from_AllPairs bytes_eq-Decides ps once))

-- ---- places

place_below : (x : List ℕ) (qs : List Pair) → In x (paths qs) → place_of x qs < length qs
place_below x [] i = absurd i
place_below x (q ∷ qs) i = ⊎_elim
    (λ t. subst (λ b. (if b then 0 else suc (place_of x qs)) < suc (length qs)) (sym t) (omega arith))
    (λ f. subst (λ b. (if b then 0 else suc (place_of x qs)) < suc (length qs)) (sym f) (let r : place_of x qs < length qs = place_below x qs (later f i) in omega arith))
    (cases_Bool (bytes_eq x q.0))
  where
    later : bytes_eq x q.0 ≡ false → In x (paths (q ∷ qs)) → In x (paths qs)
    later f (inl e) = absurd (true≢false (sym ((bytes_eq-Decides x q.0).1 e) ∙ f))
    later f (inr j) = j

-- there it stands
place_holds : (x d : List ℕ) (qs : List Pair) → In x (paths qs) → slice_index_or (paths qs) (place_of x qs) d ≡ x
place_holds x d [] i = absurd i
place_holds x d (q ∷ qs) i = ⊎_elim
    (λ t. ap (λ (b : Bool). slice_index_or (q.0 ∷ paths qs) (if b then 0 else suc (place_of x qs)) d) t ∙ sym ((bytes_eq-Decides x q.0).0 t))
    (λ f. ap (λ (b : Bool). slice_index_or (q.0 ∷ paths qs) (if b then 0 else suc (place_of x qs)) d) f ∙ place_holds x d qs (later f i))
    (cases_Bool (bytes_eq x q.0))
  where
    later : bytes_eq x q.0 ≡ false → In x (paths (q ∷ qs)) → In x (paths qs)
    later f (inl e) = absurd (true≢false (sym ((bytes_eq-Decides x q.0).1 e) ∙ f))
    later f (inr j) = j

-- of names that are among the paths

each_below : (qs : List Pair) (names : List (List ℕ)) → Each (λ x. In x (paths qs)) names → Each (λ n. n < length qs) (map (λ x. place_of x qs) names)
each_below qs names h n i =
    let r : (x : List ℕ) × In x names × (n ≡ place_of x qs) = from_map (λ x. place_of x qs) n names i in
    subst (λ k. k < length qs) (sym r.2) (place_below r.0 qs (h r.0 r.1))

each_found : (qs : List Pair) (names : List (List ℕ)) → Each (λ x. In x (paths qs)) names → map (λ n. slice_index_or (paths qs) n []) (map (λ x. place_of x qs) names) ≡ names
each_found qs [] h = refl
each_found qs (x ∷ names) h = ap₂ (λ y ys. y ∷ ys) (place_holds x [] qs (h x (inl refl))) (each_found qs names (λ y i. h y (inr i)))

-- names that differ stand at places that differ
each_once : (qs : List Pair) (names : List (List ℕ)) → Each (λ x. In x (paths qs)) names → StandOnce names → StandOnce (map (λ x. place_of x qs) names)
each_once qs names h once i j d l lt e =
    let g : List ℕ → ℕ = λ x. place_of x qs in
    let long : length (map g names) ≡ length names = length-map names g in
    let below : j < length names = omega arith in
    let above : i < length names = omega arith in
    let x : List ℕ = slice_index_or names i [] in
    let y : List ℕ = slice_index_or names j [] in
    let same : place_of x qs ≡ place_of y qs = sym (get_or-map g names i [] d above) ∙ e ∙ get_or-map g names j [] d below in
    once i j [] l below
    (sym (place_holds x [] qs (h x (contains_in x names (Contains-get_or names i [] above)))) ∙ ap (λ n. slice_index_or (paths qs) n []) same
    ∙ place_holds y [] qs (h y (contains_in y names (Contains-get_or names j [] below))))

same_places : (p : Plan) (names : List (List ℕ)) → map (number_of p.pairs 0) names ≡ map (place_in p) names
same_places p [] = refl
same_places p (x ∷ names) = ap₂ (λ n ns. n ∷ ns) (let z : 0 + place_in p x ≡ place_in p x = omega arith in z) (same_places p names)

pub pairs_named_once : PairsNamedOnce
pairs_named_once p h =
    let shuffled : IsPermutation (paths (sorted p.pairs)) (segments_in p.layout) =
    IsPermutation-trans (paths (sorted p.pairs)) (paths p.pairs) (segments_in p.layout) (IsPermutation-sym (paths p.pairs) (paths (sorted p.pairs)) (sorted_permutes p.pairs)) h in
    let among : Each (λ path. In path (paths (sorted p.pairs))) (segments_in p.layout) = in_permuted (paths (sorted p.pairs)) (segments_in p.layout) shuffled in
    let once : Scattered (paths p.pairs) → StandOnce (segments_in p.layout) = λ a. once_permuted (paths p.pairs) (segments_in p.layout) h (scattered_once (paths p.pairs) a) in
    let long : length (segments_in p.layout) ≡ length p.pairs = length_permutation (paths p.pairs) (segments_in p.layout) h ∙ length-paths p.pairs in
    record {
      totals = λ f. total_permuted f (paths p.pairs) (segments_in p.layout) h;
      as_many = long;
      among = in_permuted (paths p.pairs) (segments_in p.layout) h;
      once = once;
      shuffled = shuffled;
      as_many_sorted = long ∙ sym (length-sort_by path_of p.pairs);
      among_sorted = among;
      places_below = each_below (sorted p.pairs) (segments_in p.layout) among;
      places_once = λ a. each_once (sorted p.pairs) (segments_in p.layout) among (once a);
      places_found = each_found (sorted p.pairs) (segments_in p.layout) among;
      places_are_numbers = segments_in-renamed (number_of p.pairs 0) p.layout ∙ same_places p (segments_in p.layout);
    }
