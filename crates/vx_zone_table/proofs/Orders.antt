-- A stable sort by keys is the insertion sort by them.
use Rattle.std.proofs.Common.{◌≡◌, ℕ, zero, suc, ◌<◌, ◌&&◌, Bool, true, false, not, cond, List, [], ◌∷◌, length, get_or, map, filter, refl, sym, subst, ap, ap₂, ◌∙◌, inl, inr, ⊎_elim, Bor, Ordering, arith, add-one, suc-le-suc, zero-le}
use Rattle.std.specs.Ordering.{nat_cmp, is_lt}
use Rattle.std.specs.Cmp.{IsStrictWeakOrder}
use Rattle.std.specs.Cmp.Lexicographic.{slice_cmp, nat_list_cmp_total}
use Rattle.std.specs.Fn.{Called, ComparesAs, Mut}
use Rattle.std.specs.List.Sorted.{IsSortedBy, IsStableBy, ties}
use Rattle.std.proofs.lemmas.Bool.{cases_Bool, cond-true, cond-false, true≢false, and_parts, and_from}
use Rattle.std.proofs.lemmas.Bool.Decides.{nat_tests}
use Rattle.std.proofs.lemmas.Cmp.{same_from_slice_cmp}
use Rattle.std.proofs.lemmas.Fn.{always_returns_same}
use Rattle.std.proofs.lemmas.List.Sorted.{ranks_by}
use Rattle.vx_path.specs.Lists.{In}
use Rattle.vx_path.specs.Path.{path_le}
use Rattle.vx_path.specs.Sort.{insert_by, sort_by, Ascends}
use Rattle.vx_path.proofs.Path.{path_le-refl, path_le-trans}
use Rattle.vx_path.proofs.Sort.{insert_by-head, insert_by-tail, sort_ascends}

-- ---- the order of texts

abbrev below : List ℕ → List ℕ → Bool
below p q = not (path_le q p)

below_is : (p q : List ℕ) → is_lt (slice_cmp nat_cmp p q) ≡ below p q
below_is p q = same_from_slice_cmp nat_cmp is_lt below refl (λ _ _. refl) (λ _ _. refl) (λ x y xs ys o h. grind (arith, nat_tests)) p q (slice_cmp nat_cmp p q) refl

module _ {X : Type 0} (key : X → List ℕ) where
  abbrev le : X → X → Bool
  le x y = path_le (key x) (key y)

  abbrev tie : X → X → Bool
  tie x y = le x y && le y x

  ties_are : (x y : X) → ties (λ a b. is_lt (slice_cmp nat_cmp (key a) (key b))) x y ≡ tie x y
  ties_are x y = ap₂ (λ (a b : Bool). not a && not b) (below_is (key x) (key y)) (below_is (key y) (key x)) ∙ go (le x y) (le y x)
    where
      go : (a b : Bool) → (not (not b) && not (not a)) ≡ (a && b)
      go true true = refl
      go true false = refl
      go false true = refl
      go false false = refl

  le_refl : (x : X) → le x x ≡ true
  le_refl x = path_le-refl (key x)

  le_trans : (x y z : X) → le x y ≡ true → le y z ≡ true → le x z ≡ true
  le_trans x y z = path_le-trans (key x) (key y) (key z)

  kept : (p : X → Bool) (y : X) (ys : List X) → p y ≡ true → filter p (y ∷ ys) ≡ y ∷ filter p ys
  kept p y ys h = cond-true _ _ _ h

  dropped : (p : X → Bool) (y : X) (ys : List X) → p y ≡ false → filter p (y ∷ ys) ≡ filter p ys
  dropped p y ys h = cond-false _ _ _ h

  -- ---- sorting keeps ties in their order

  filter_insert : (x c : X) (ds : List X) → filter (tie x) (insert_by key c ds) ≡ filter (tie x) (c ∷ ds)
  filter_insert x c [] = refl
  filter_insert x c (d ∷ ds) = ⊎_elim
      (λ (h : le c d ≡ true). ap (filter (tie x)) (insert_by-head key c d ds h))
      (λ (h : le c d ≡ false). ap (filter (tie x)) (insert_by-tail key c d ds h) ∙ past h (filter_insert x c ds))
      (cases_Bool (le c d))
    where
      past : le c d ≡ false → filter (tie x) (insert_by key c ds) ≡ filter (tie x) (c ∷ ds) → filter (tie x) (d ∷ insert_by key c ds) ≡ filter (tie x) (c ∷ d ∷ ds)
      past h rest = ⊎_elim
          (λ (with : tie x d ≡ true). ⊎_elim
          (λ (two : tie x c ≡ true). absurd (true≢false (sym (le_trans c x d (and_parts (le x c) (le c x) two).1 (and_parts (le x d) (le d x) with).0) ∙ h)))
          (λ (one : tie x c ≡ false).
          kept (tie x) d (insert_by key c ds) with ∙ ap (λ (l : List X). d ∷ l) (rest ∙ dropped (tie x) c ds one)
          ∙ sym (dropped (tie x) c (d ∷ ds) one ∙ kept (tie x) d ds with))
          (cases_Bool (tie x c)))
          (λ (without : tie x d ≡ false).
          dropped (tie x) d (insert_by key c ds) without ∙ rest ∙ ap (λ (l : List X). cond (tie x c) (c ∷ l) l) (sym (dropped (tie x) d ds without)))
          (cases_Bool (tie x d))

  filter_sorted : (x : X) (xs : List X) → filter (tie x) (sort_by key xs) ≡ filter (tie x) xs
  filter_sorted x [] = refl
  filter_sorted x (c ∷ cs) = filter_insert x c (sort_by key cs) ∙ ap (λ (l : List X). cond (tie x c) (c ∷ l) l) (filter_sorted x cs)

  -- ---- two ascending lists with the same ties are one

  found : (w x : X) (ys : List X) (v : X) (vs : List X) → ((y : X) → In y ys → le w y ≡ true) → filter (tie x) ys ≡ v ∷ vs → le w x ≡ true
  found w x [] v vs h e = cc
  found w x (y ∷ ys) v vs h e = ⊎_elim
      (λ (with : tie x y ≡ true). le_trans w y x (h y (inl refl)) (and_parts (le x y) (le y x) with).1)
      (λ (without : tie x y ≡ false). found w x ys v vs (λ z i. h z (inr i)) (sym (dropped (tie x) y ys without) ∙ e))
      (cases_Bool (tie x y))

  at_least : (y : X) (ys : List X) → Ascends key (y ∷ ys) → (z : X) → In z (y ∷ ys) → le y z ≡ true
  at_least y ys h z i = ⊎_elim (λ e. subst (λ (a : X). le y a ≡ true) (sym e) (le_refl y)) (λ j. h.0 z j) i

  self : (y : X) → tie y y ≡ true
  self y = and_from (le y y) (le y y) (le_refl y) (le_refl y)

  unique : (ys zs : List X) → Ascends key ys → Ascends key zs → ((x : X) → filter (tie x) ys ≡ filter (tie x) zs) → ys ≡ zs
  unique [] [] up vp same = refl
  unique [] (z ∷ zs) up vp same = let clash : [] ≡ z ∷ filter (tie z) zs = same z ∙ kept (tie z) z zs (self z) in cc
  unique (y ∷ ys) [] up vp same = let clash : y ∷ filter (tie y) ys ≡ [] = sym (kept (tie y) y ys (self y)) ∙ same y in cc
  unique (y ∷ ys) (z ∷ zs) up vp same = ap₂ (λ (a : X) (l : List X). a ∷ l) head (unique ys zs up.1 vp.1 tails)
    where
      at_y : filter (tie y) (y ∷ ys) ≡ y ∷ filter (tie y) ys
      at_y = kept (tie y) y ys (self y)

      at_z : filter (tie z) (z ∷ zs) ≡ z ∷ filter (tie z) zs
      at_z = kept (tie z) z zs (self z)

      one : tie y z ≡ true
      one = and_from (le y z) (le z y)
          (found y z (y ∷ ys) z (filter (tie z) zs) (at_least y ys up) (same z ∙ at_z))
          (found z y (z ∷ zs) y (filter (tie y) ys) (at_least z zs vp) (sym (same y) ∙ at_y))

      heads : y ∷ filter (tie y) ys ≡ z ∷ filter (tie y) zs
      heads = sym at_y ∙ same y ∙ kept (tie y) z zs one

      head : y ≡ z
      head = let h : y ∷ filter (tie y) ys ≡ z ∷ filter (tie y) zs = heads in cc

      behind : (a b : X) (gs bs : List X) → a ∷ gs ≡ b ∷ bs → gs ≡ bs
      behind a b gs bs e = cc

      tails : (x : X) → filter (tie x) ys ≡ filter (tie x) zs
      tails x = ⊎_elim
          (λ (with : tie x y ≡ true). behind y z (filter (tie x) ys) (filter (tie x) zs) (sym (kept (tie x) y ys with) ∙ same x ∙ kept (tie x) z zs (ap (tie x) (sym head) ∙ with)))
          (λ (without : tie x y ≡ false). sym (dropped (tie x) y ys without) ∙ same x ∙ dropped (tie x) z zs (ap (tie x) (sym head) ∙ without))
          (cases_Bool (tie x y))

  -- ---- what a sort ensures

  abbrev Steps : List X → Type 0
  Steps ys = (k : ℕ) (d : X) → suc k < length ys → le (get_or ys k d) (get_or ys (suc k) d) ≡ true

  not_false : (b : Bool) → not b ≡ false → b ≡ true
  not_false true h = refl
  not_false false h = cc

  steps_of : (ys : List X) → IsSortedBy (λ a b. is_lt (slice_cmp nat_cmp (key a) (key b))) ys → Steps ys
  steps_of ys h k d lt =
      not_false (le (get_or ys k d) (get_or ys (suc k) d))
      (sym (below_is (key (get_or ys (suc k) d)) (key (get_or ys k d)))
      ∙ subst (λ (m : ℕ). m < length ys → is_lt (slice_cmp nat_cmp (key (get_or ys m d)) (key (get_or ys k d))) ≡ false) (add-one k) (h k d zero-le) lt)

  ascends_of : (ys : List X) → Steps ys → Ascends key ys
  ascends_of [] h = tt
  ascends_of (x ∷ []) h = (λ y i. absurd i, tt)
  ascends_of (x ∷ y ∷ ys) h =
      let rest : Ascends key (y ∷ ys) = ascends_of (y ∷ ys) (λ k d lt. h (suc k) d (suc-le-suc lt)) in
      let first : le x y ≡ true = h zero x (suc-le-suc (suc-le-suc zero-le)) in
      (λ z i. le_trans x y z first (at_least y ys rest z i), rest)

  pub sort_is : (xs ys : List X) → IsSortedBy (λ a b. is_lt (slice_cmp nat_cmp (key a) (key b))) ys → IsStableBy (λ a b. is_lt (slice_cmp nat_cmp (key a) (key b))) xs ys → ys ≡ sort_by key xs
  sort_is xs ys sorted stable =
      unique ys (sort_by key xs) (ascends_of ys (steps_of ys sorted)) (sort_ascends key xs)
      (λ x. same x ys ∙ stable x ∙ sym (same x xs) ∙ sym (filter_sorted x xs))
    where
      same : (x : X) (zs : List X) → filter (tie x) zs ≡ filter (ties (λ a b. is_lt (slice_cmp nat_cmp (key a) (key b))) x) zs
      same x zs = ap (λ (p : X → Bool). filter p zs) (λ i y. sym (ties_are x y) i)

-- ---- from a sort by a closure that compares keys

module _ {X : Type 0} (key : X → List ℕ) where
  abbrev sooner : X → X → Bool
  sooner x y = is_lt (slice_cmp nat_cmp (key x) (key y))

  pub sorted_is : {F : Type 0} {g : Mut F (Bor X × (Bor X × Unit {0})) Ordering} {f : F} (xs ys : List X)
      → ((lt : X → X → Bool) → IsStrictWeakOrder lt → ComparesAs g lt f → IsSortedBy lt ys)
      → ((lt : X → X → Bool) → IsStrictWeakOrder lt → ComparesAs g lt f → IsStableBy lt xs ys)
      → ((a : Bor X × (Bor X × Unit {0})) (r : Ordering) (f' : F) → Called g f a r f' → (r ≡ slice_cmp nat_cmp (key a.0.now) (key a.1.0.now)) × (f' ≡ f)) → ys ≡ sort_by key xs
  sorted_is {F} {g = g} {f = f} xs ys sorted stable h =
      sort_is key xs ys (sorted sooner (ranks_by nat_list_cmp_total key) compares) (stable sooner (ranks_by nat_list_cmp_total key) compares)
    where
      compares : ComparesAs g sooner f
      compares = always_returns_same g (λ a r. is_lt r ≡ sooner a.0.now a.1.0.now) f (λ a r f' k. (ap is_lt (h a r f' k).0, (h a r f' k).1))

-- ---- sorting what is seen

module _ {A B : Type 0} (f : A → B) (key : A → List ℕ) (name : B → List ℕ) (same : (a : A) → key a ≡ name (f a)) where
  map_insert : (x : A) (ys : List A) → map f (insert_by key x ys) ≡ insert_by name (f x) (map f ys)
  map_insert x [] = refl
  map_insert x (y ∷ ys) = ⊎_elim
      (λ (t : path_le (key x) (key y) ≡ true). ap (map f) (insert_by-head key x y ys t) ∙ sym (insert_by-head name (f x) (f y) (map f ys) (seen ∙ t)))
      (λ (t : path_le (key x) (key y) ≡ false). ap (map f) (insert_by-tail key x y ys t) ∙ ap (λ (l : List B). f y ∷ l) (map_insert x ys) ∙ sym (insert_by-tail name (f x) (f y) (map f ys) (seen ∙ t)))
      (cases_Bool (path_le (key x) (key y)))
    where
      seen : path_le (name (f x)) (name (f y)) ≡ path_le (key x) (key y)
      seen = ap₂ path_le (sym (same x)) (sym (same y))

  pub map_sort : (xs : List A) → map f (sort_by key xs) ≡ sort_by name (map f xs)
  map_sort [] = refl
  map_sort (x ∷ xs) = map_insert x (sort_by key xs) ∙ ap (insert_by name (f x)) (map_sort xs)
