-- The laws of lists sorted by path.
use Rattle.std.proofs.Common.{◌≡◌, ℕ, ◌⊎◌, true, false, List, [], ◌∷◌, ◌++◌, map, length, refl, sym, ap, ap₂, ◌∙◌, inl, inr, ⊎_elim, suc}
use Rattle.std.proofs.lemmas.Bool.{cases_Bool, true≢false}
use Rattle.vx_path.specs.Lists.{In}
use Rattle.vx_path.specs.Path.{path_le}
use Rattle.vx_path.specs.Sort.{insert_by, sort_by, sort, Ascends}
use Rattle.vx_path.proofs.Path.{path_le-total, path_le-trans, path_le-antisym}

-- Sorting keeps the elements.

pub insert_by-head : {A : Type 0} (key : A → List ℕ) (x y : A) (ys : List A) → path_le (key x) (key y) ≡ true → insert_by key x (y ∷ ys) ≡ x ∷ y ∷ ys
insert_by-head key x y ys h = rw h refl

pub insert_by-tail : {A : Type 0} (key : A → List ℕ) (x y : A) (ys : List A) → path_le (key x) (key y) ≡ false
    → insert_by key x (y ∷ ys) ≡ y ∷ insert_by key x ys
insert_by-tail key x y ys h = rw h refl

pub in_insert : {A : Type 0} (key : A → List ℕ) (z x : A) (ys : List A) → In z (x ∷ ys) → In z (insert_by key x ys)
in_insert key z x [] h = h
in_insert key z x (y ∷ ys) h = ⊎_elim
    (λ t. rw (insert_by-head key x y ys t) h)
    (λ f. rw (insert_by-tail key x y ys f) (⊎_elim (λ e. inr (in_insert key z x ys (inl e)))
    (λ r. ⊎_elim (λ e. inl e) (λ i. inr (in_insert key z x ys (inr i))) r) h))
    (cases_Bool (path_le (key x) (key y)))

pub from_insert : {A : Type 0} (key : A → List ℕ) (z x : A) (ys : List A) → In z (insert_by key x ys) → In z (x ∷ ys)
from_insert key z x [] h = h
from_insert key z x (y ∷ ys) h = ⊎_elim
    (λ t. rw (insert_by-head key x y ys t) at h)
    (λ f. let g : In z (y ∷ insert_by key x ys) = rw (insert_by-tail key x y ys f) at h in
    ⊎_elim (λ e. inr (inl e)) (λ i. ⊎_elim (λ e. inl e) (λ r. inr (inr r)) (from_insert key z x ys i)) g)
    (cases_Bool (path_le (key x) (key y)))

-- the sorted list has the elements of the list, and no others
pub in_sorted : {A : Type 0} (key : A → List ℕ) (z : A) (xs : List A) → In z xs → In z (sort_by key xs)
in_sorted key z [] h = h
in_sorted key z (x ∷ xs) h =
    in_insert key z x (sort_by key xs) (⊎_elim (λ e. inl e) (λ i. inr (in_sorted key z xs i)) h)

pub from_sorted : {A : Type 0} (key : A → List ℕ) (z : A) (xs : List A) → In z (sort_by key xs) → In z xs
from_sorted key z [] h = h
from_sorted key z (x ∷ xs) h =
    ⊎_elim (λ e. inl e) (λ i. inr (from_sorted key z xs i)) (from_insert key z x (sort_by key xs) h)

length-insert_by : {A : Type 0} (key : A → List ℕ) (x : A) (ys : List A) → length (insert_by key x ys) ≡ suc (length ys)
length-insert_by key x [] = refl
length-insert_by key x (y ∷ ys) = ⊎_elim
    (λ t. rw (insert_by-head key x y ys t) refl)
    (λ f. rw (insert_by-tail key x y ys f) (ap suc (length-insert_by key x ys)))
    (cases_Bool (path_le (key x) (key y)))

pub length-sort_by : {A : Type 0} (key : A → List ℕ) (xs : List A) → length (sort_by key xs) ≡ length xs
length-sort_by key [] = refl
length-sort_by key (x ∷ xs) = length-insert_by key x (sort_by key xs) ∙ ap suc (length-sort_by key xs)

-- The sorted list ascends.

other_way : (p q : List ℕ) → path_le p q ≡ false → path_le q p ≡ true
other_way p q f = ⊎_elim (λ t. absurd (true≢false (sym t ∙ f))) (λ h. h) (path_le-total p q)

above_all : {A : Type 0} (key : A → List ℕ) (x y : A) (ys : List A) → path_le (key x) (key y) ≡ true → Ascends key (y ∷ ys)
    → (z : A) → In z (y ∷ ys) → path_le (key x) (key z) ≡ true
above_all key x y ys t h z i = ⊎_elim (λ e. rw e t) (λ r. path_le-trans (key x) (key y) (key z) t (h.0 z r)) i

insert_ascends : {A : Type 0} (key : A → List ℕ) (x : A) (ys : List A) → Ascends key ys → Ascends key (insert_by key x ys)
insert_ascends key x [] h = (λ y i. absurd i, tt)
insert_ascends key x (y ∷ ys) h = ⊎_elim
    (λ t. rw (insert_by-head key x y ys t) (above_all key x y ys t h, h))
    (λ f. rw (insert_by-tail key x y ys f)
    (λ z i. ⊎_elim (λ e. rw e (below f)) (λ r. h.0 z r) (from_insert key z x ys i), insert_ascends key x ys h.1))
    (cases_Bool (path_le (key x) (key y)))
  where
    below : path_le (key x) (key y) ≡ false → path_le (key y) (key x) ≡ true
    below f = other_way (key x) (key y) f

pub sort_ascends : {A : Type 0} (key : A → List ℕ) (xs : List A) → Ascends key (sort_by key xs)
sort_ascends key [] = tt
sort_ascends key (x ∷ xs) = insert_ascends key x (sort_by key xs) (sort_ascends key xs)

-- what is at most all of a list goes in front of it
pub insert_least : {A : Type 0} (key : A → List ℕ) (x : A) (ys : List A) → ((y : A) → In y ys → path_le (key x) (key y) ≡ true)
    → insert_by key x ys ≡ x ∷ ys
insert_least key x [] f = refl
insert_least key x (y ∷ ys) f = insert_by-head key x y ys (f y (inl refl))

-- an ascending list is sorted
pub sort_by-ascending : {A : Type 0} (key : A → List ℕ) (xs : List A) → Ascends key xs → sort_by key xs ≡ xs
sort_by-ascending key [] h = refl
sort_by-ascending key (x ∷ xs) h =
    ap (λ s. insert_by key x s) (sort_by-ascending key xs h.1) ∙ insert_least key x xs h.0

-- Two elements go in in either order, where one path has one element.

same_swap : {A : Type 0} (key : A → List ℕ) (x y : A) (zs : List A) → x ≡ y → insert_by key x (insert_by key y zs) ≡ insert_by key y (insert_by key x zs)
same_swap key x y zs e = ap₂ (λ a b. insert_by key a (insert_by key b zs)) e (sym e)

swap_more : {A : Type 0} (key : A → List ℕ) (x y z : A) (zs : List A) → path_le (key x) (key y) ≡ true → path_le (key y) (key x) ≡ false
    → insert_by key x (insert_by key y zs) ≡ insert_by key y (insert_by key x zs)
    → (path_le (key x) (key z) ≡ true) ⊎ (path_le (key x) (key z) ≡ false)
    → (path_le (key y) (key z) ≡ true) ⊎ (path_le (key y) (key z) ≡ false)
    → insert_by key x (insert_by key y (z ∷ zs)) ≡ insert_by key y (insert_by key x (z ∷ zs))
swap_more key x y z zs h f ih (inl a) (inl b) =
    ap (λ s. insert_by key x s) (insert_by-head key y z zs b) ∙ insert_by-head key x y (z ∷ zs) h
    ∙ sym (ap (λ s. insert_by key y s) (insert_by-head key x z zs a) ∙ insert_by-tail key y x (z ∷ zs) f
    ∙ ap (λ s. x ∷ s) (insert_by-head key y z zs b))
swap_more key x y z zs h f ih (inl a) (inr b) =
    ap (λ s. insert_by key x s) (insert_by-tail key y z zs b) ∙ insert_by-head key x z (insert_by key y zs) a
    ∙ sym (ap (λ s. insert_by key y s) (insert_by-head key x z zs a) ∙ insert_by-tail key y x (z ∷ zs) f
    ∙ ap (λ s. x ∷ s) (insert_by-tail key y z zs b))
swap_more key x y z zs h f ih (inr a) (inl b) = absurd (true≢false (sym (path_le-trans (key x) (key y) (key z) h b) ∙ a))
swap_more key x y z zs h f ih (inr a) (inr b) =
    ap (λ s. insert_by key x s) (insert_by-tail key y z zs b) ∙ insert_by-tail key x z (insert_by key y zs) a
    ∙ ap (λ s. z ∷ s) ih
    ∙ sym (ap (λ s. insert_by key y s) (insert_by-tail key x z zs a) ∙ insert_by-tail key y z (insert_by key x zs) b)

swapped : {A : Type 0} (key : A → List ℕ) (x y : A) (zs : List A) → path_le (key x) (key y) ≡ true → (key x ≡ key y → x ≡ y)
    → insert_by key x (insert_by key y zs) ≡ insert_by key y (insert_by key x zs)
swapped key x y [] h one = ⊎_elim
    (λ t. same_swap key x y [] (one (path_le-antisym (key x) (key y) h t)))
    (λ f. insert_by-head key x y [] h ∙ sym (insert_by-tail key y x [] f))
    (cases_Bool (path_le (key y) (key x)))
swapped key x y (z ∷ zs) h one = ⊎_elim
    (λ t. same_swap key x y (z ∷ zs) (one (path_le-antisym (key x) (key y) h t)))
    (λ f. swap_more key x y z zs h f (swapped key x y zs h one) (cases_Bool (path_le (key x) (key z))) (cases_Bool (path_le (key y) (key z))))
    (cases_Bool (path_le (key y) (key x)))

pub insert_by-swap : {A : Type 0} (key : A → List ℕ) (x y : A) (zs : List A) → (key x ≡ key y → x ≡ y)
    → insert_by key x (insert_by key y zs) ≡ insert_by key y (insert_by key x zs)
insert_by-swap key x y zs one = ⊎_elim
    (λ h. swapped key x y zs h one) (λ h. sym (swapped key y x zs h (λ e. sym (one (sym e)))))
    (path_le-total (key x) (key y))

-- an element from inside a list goes in last as well
pub sort_by-middle : {A : Type 0} (key : A → List ℕ) (x : A) (front back : List A) → ((y : A) → In y front → key x ≡ key y → x ≡ y)
    → sort_by key (front ++ (x ∷ back)) ≡ insert_by key x (sort_by key (front ++ back))
sort_by-middle key x [] back one = refl
sort_by-middle key x (y ∷ front) back one =
    ap (λ s. insert_by key y s) (sort_by-middle key x front back (λ z i. one z (inr i)))
    ∙ sym (insert_by-swap key x y (sort_by key (front ++ back)) (one y (inl refl)))

-- the least path of a list comes first, and then the others sorted
pub sort-least : (p : List ℕ) (front back : List (List ℕ)) → ((q : List ℕ) → In q (front ++ back) → path_le p q ≡ true)
    → sort (front ++ (p ∷ back)) ≡ p ∷ sort (front ++ back)
sort-least p front back f =
    sort_by-middle (λ q. q) p front back (λ y i e. e)
    ∙ insert_least (λ q. q) p (sort (front ++ back)) (λ y i. f y (from_sorted (λ q. q) y (front ++ back) i))

-- the paths of what is sorted by path are the paths sorted
map-insert_by : {A : Type 0} (key : A → List ℕ) (x : A) (ys : List A) → map key (insert_by key x ys) ≡ insert_by (λ q. q) (key x) (map key ys)
map-insert_by key x [] = refl
map-insert_by key x (y ∷ ys) = ⊎_elim
    (λ t. ap (λ s. map key s) (insert_by-head key x y ys t) ∙ sym (insert_by-head (λ q. q) (key x) (key y) (map key ys) t))
    (λ f. ap (λ s. map key s) (insert_by-tail key x y ys f) ∙ ap (λ s. key y ∷ s) (map-insert_by key x ys)
    ∙ sym (insert_by-tail (λ q. q) (key x) (key y) (map key ys) f))
    (cases_Bool (path_le (key x) (key y)))

pub map-sort_by : {A : Type 0} (key : A → List ℕ) (xs : List A) → map key (sort_by key xs) ≡ sort (map key xs)
map-sort_by key [] = refl
map-sort_by key (x ∷ xs) = map-insert_by key x (sort_by key xs) ∙ ap (λ s. insert_by (λ q. q) (key x) s) (map-sort_by key xs)
