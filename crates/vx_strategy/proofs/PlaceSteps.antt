-- A search for the first element that passes a test, one element at a time.
use Rattle.std.proofs.Common.{◌≡◌, ℕ, suc, ◌+◌, ◌<◌, ◌≤◌, Bool, true, false, List, [], ◌∷◌, length, get_or, drop, refl, ap, arith, add-zero, Option, Some, None}
use Rattle.std.specs.Prelude.{if◌then◌else◌, option_map}
use Rattle.std.proofs.lemmas.List.{drop_more, drop_all}
use Rattle.vx_strategy.specs.Places.{first_place}

-- a place, counted from place i
abbrev pub shifted : ℕ → Option ℕ → Option ℕ
shifted i None = None
shifted i (Some k) = Some (i + k)

shifted_more : (i : ℕ) (o : Option ℕ) → shifted i (option_map suc o) ≡ shifted (i + 1) o
shifted_more i None = refl
shifted_more i (Some k) = let e : i + suc k ≡ i + 1 + k = omega arith in ap Some e

pub place_here : {X : Type 0} (f : X → Bool) (xs : List X) (i : ℕ) (a : X) → i < length xs → a ≡ get_or xs i a → f a ≡ true
    → shifted i (first_place f (drop i xs)) ≡ Some i
place_here f xs i a lt is t = rw (drop_more xs i a lt, ← is, t, add-zero i) refl

pub place_later : {X : Type 0} (f : X → Bool) (xs : List X) (i : ℕ) (a : X) → i < length xs → a ≡ get_or xs i a → f a ≡ false
    → shifted i (first_place f (drop i xs)) ≡ shifted (i + 1) (first_place f (drop (i + 1) xs))
place_later f xs i a lt is off = rw (drop_more xs i a lt, ← is, off) (shifted_more i (first_place f (drop (i + 1) xs)))

pub place_nowhere : {X : Type 0} (f : X → Bool) (xs : List X) (i : ℕ) → length xs ≤ i → shifted i (first_place f (drop i xs)) ≡ None
place_nowhere f xs i le = rw (drop_all i xs le) refl

pub shifted_none : (o : Option ℕ) → shifted 0 o ≡ o
shifted_none None = refl
shifted_none (Some k) = let e : 0 + k ≡ k = omega arith in ap Some e

-- a place that was found behind the first element
pub later : (o : Option ℕ) (k : ℕ) → option_map suc o ≡ Some k → (j : ℕ) × (o ≡ Some j) × (suc j ≡ k)
later None k is = absurd (cc is)
later (Some j) k is = (j, refl, cc is)

bound_step : (b : Bool) (o : Option ℕ) (n k : ℕ) → ((j : ℕ) → o ≡ Some j → j < n) → (if b then Some 0 else option_map suc o) ≡ Some k → k < n + 1
bound_step true o n k h is = let z : 0 ≡ k = cc is in omega arith
bound_step false o n k h is = let (j, at, e) = later o k is in omega (arith, h j at)

pub place_below : {X : Type 0} (f : X → Bool) (xs : List X) (k : ℕ) → first_place f xs ≡ Some k → k < length xs
place_below f [] k is = absurd (cc is)
place_below f (x ∷ xs) k is = omega (arith, bound_step (f x) (first_place f xs) (length xs) k (place_below f xs) is)

pub ruleset place_rules = (place_here, place_later, place_nowhere, shifted_none)
