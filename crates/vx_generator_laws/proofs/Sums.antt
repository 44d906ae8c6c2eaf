-- Sums over lists.
use Rattle.std.proofs.Common.{◌≡◌, ℕ, zero, suc, ◌+◌, ◌*◌, ◌≤◌, List, [], ◌∷◌, ◌++◌, map, length, take, drop, arith}
use Rattle.std.proofs.Math.Nat.{mul-add}
use Rattle.vx_model.specs.Words.{total_by}

pub total-append : {X : Type 0} (f : X → ℕ) (xs ys : List X) → total_by f (xs ++ ys) ≡ total_by f xs + total_by f ys
total-append f [] ys = omega arith
total-append f (x ∷ xs) ys = let r : total_by f (xs ++ ys) ≡ total_by f xs + total_by f ys = total-append f xs ys in omega arith

pub total-map : {X Y : Type 0} (f : Y → ℕ) (g : X → Y) (xs : List X) → total_by f (map g xs) ≡ total_by (λ x. f (g x)) xs
total-map f g [] = omega arith
total-map f g (x ∷ xs) = let r : total_by f (map g xs) ≡ total_by (λ x. f (g x)) xs = total-map f g xs in omega arith

pub total_most : {X : Type 0} (f g : X → ℕ) → ((x : X) → f x ≤ g x) → (xs : List X) → total_by f xs ≤ total_by g xs
total_most f g h [] = omega arith
total_most f g h (x ∷ xs) = let here : f x ≤ g x = h x in let r : total_by f xs ≤ total_by g xs = total_most f g h xs in omega arith

pub total_same : {X : Type 0} (n : ℕ) (xs : List X) → total_by (λ x. n) xs ≡ n * length xs
total_same n [] = omega arith
total_same n (x ∷ xs) = let r : total_by (λ x. n) xs ≡ n * length xs = total_same n xs in omega arith

pub total-take : {X : Type 0} (f : X → ℕ) (n : ℕ) (xs : List X) → total_by f (take n xs) ≤ total_by f xs
total-take f zero xs = omega arith
total-take f (suc n) [] = omega arith
total-take f (suc n) (x ∷ xs) = let r : total_by f (take n xs) ≤ total_by f xs = total-take f n xs in omega arith

pub total-drop : {X : Type 0} (f : X → ℕ) (n : ℕ) (xs : List X) → total_by f (drop n xs) ≤ total_by f xs
total-drop f zero xs = omega arith
total-drop f (suc n) [] = omega arith
total-drop f (suc n) (x ∷ xs) = let r : total_by f (drop n xs) ≤ total_by f xs = total-drop f n xs in omega arith

pub total_times : {X : Type 0} (n : ℕ) (f : X → ℕ) (xs : List X) → total_by (λ x. n * f x) xs ≡ n * total_by f xs
total_times n f [] = omega arith
total_times n f (x ∷ xs) = let r : total_by (λ x. n * f x) xs ≡ n * total_by f xs = total_times n f xs in omega (arith, mul-add n (f x) (total_by f xs))
