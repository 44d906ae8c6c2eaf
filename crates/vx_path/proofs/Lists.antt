-- Membership under ++, map and a split of the list.
use Rattle.std.proofs.Common.{◌≡◌, ℕ, ◌⊎◌, List, [], ◌∷◌, ◌++◌, map, length, Contains, slice_index_or, ◌<◌, zero, arith, suc-le-suc, refl, sym, ap, inl, inr, ⊎_elim, suc}
use Rattle.vx_path.specs.Lists.{In}

pub in_left : {A : Type 0} (x : A) (xs ys : List A) → In x xs → In x (xs ++ ys)
in_left x [] ys h = absurd h
in_left x (z ∷ xs) ys h = ⊎_elim (λ e. inl e) (λ t. inr (in_left x xs ys t)) h

pub in_right : {A : Type 0} (x : A) (xs ys : List A) → In x ys → In x (xs ++ ys)
in_right x [] ys h = h
in_right x (z ∷ xs) ys h = inr (in_right x xs ys h)

pub in_cases : {A : Type 0} (x : A) (xs ys : List A) → In x (xs ++ ys) → In x xs ⊎ In x ys
in_cases x [] ys h = inr h
in_cases x (z ∷ xs) ys h =
    ⊎_elim (λ e. inl (inl e)) (λ t. ⊎_elim (λ l. inl (inr l)) (λ r. inr r) (in_cases x xs ys t)) h

pub in_map : {A B : Type 0} (f : A → B) (x : A) (xs : List A) → In x xs → In (f x) (map f xs)
in_map f x [] h = absurd h
in_map f x (y ∷ xs) h = ⊎_elim (λ e. inl (ap f e)) (λ t. inr (in_map f x xs t)) h

-- an element of a mapped list comes from one of the list
pub from_map : {A B : Type 0} (f : A → B) (y : B) (xs : List A) → In y (map f xs) → (x : A) × In x xs × (y ≡ f x)
from_map f y [] h = absurd h
from_map f y (x ∷ xs) h =
    ⊎_elim (λ e. (x, inl refl, e)) (λ t. let r = from_map f y xs t in (r.0, inr r.1, r.2)) h

-- a list with the element has a part before it and a part behind it
pub split_at : {A : Type 0} (x : A) (xs : List A) → In x xs → (front : List A) × (back : List A) × (xs ≡ front ++ (x ∷ back))
split_at x [] h = absurd h
split_at x (y ∷ xs) h =
    ⊎_elim (λ e. ([], xs, ap (λ z. z ∷ xs) (sym e)))
    (λ t. let r = split_at x xs t in (y ∷ r.0, r.1, ap (λ z. y ∷ z) r.2)) h

-- what is in a list without one element is in the list
pub in_rest : {A : Type 0} (x y : A) (front back : List A) → In y (front ++ back) → In y (front ++ (x ∷ back))
in_rest x y front back h =
    ⊎_elim (λ l. in_left y front (x ∷ back) l) (λ r. in_right y front (x ∷ back) (inr r)) (in_cases y front back h)

pub in_at : {A : Type 0} (x : A) (front back : List A) → In x (front ++ (x ∷ back))
in_at x front back = in_right x front (x ∷ back) (inl refl)

-- the same by places, as std says it

pub in_contains : {A : Type 0} (x : A) (xs : List A) → In x xs → Contains xs x
in_contains x [] h = absurd h
in_contains x (y ∷ xs) h =
    ⊎_elim (λ e. (0, omega arith, sym e)) (λ t. let r : Contains xs x = in_contains x xs t in (suc r.0, suc-le-suc r.1, r.2)) h

pub contains_in : {A : Type 0} (x : A) (xs : List A) → Contains xs x → In x xs
contains_in x xs h = at_place x xs h.0 h.1 h.2
  where
    at_place : {A : Type 0} (x : A) (xs : List A) (k : ℕ) → k < length xs → slice_index_or xs k x ≡ x → In x xs
    at_place x [] k l e = absurd (omega arith)
    at_place x (y ∷ xs) zero l e = inl (sym e)
    at_place x (y ∷ xs) (suc k) l e = inr (at_place x xs k (omega arith) e)
