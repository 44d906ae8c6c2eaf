-- Windows of lists.
use Rattle.std.proofs.Common.{◌≡◌, ℕ, zero, suc, ◌+◌, ◌-◌, ◌≤◌, min, List, [], ◌∷◌, ◌++◌, length, take, drop, map, refl, ap, sym, ◌∙◌, arith, length-take, length-drop}
use Rattle.std.specs.Prelude.{replicate}
use Rattle.std.proofs.lemmas.List.{take-map, drop-take, take-take, take_all, drop-drop, take_min, drop_min, drop_all}
use Rattle.vx_chunk_cells.specs.Window.{window}

pub window-all : {X : Type 0} (n : ℕ) (xs : List X) → n ≡ length xs → window 0 n xs ≡ xs
window-all n xs e = take_all (n - 0) xs (omega arith)

pub window-none : {X : Type 0} (n : ℕ) (xs : List X) → window n n xs ≡ []
window-none n xs = let e : n - n ≡ 0 = omega arith in rw e refl

pub window-back : {X : Type 0} (a b : ℕ) (xs : List X) → b ≤ a → window a b xs ≡ []
window-back a b xs le = let e : b - a ≡ 0 = omega arith in rw e refl

nothing : {X : Type 0} (k a : ℕ) (xs : List X) → xs ≡ [] → take k (drop a xs) ≡ []
nothing {X} k a xs e = rw (drop_all a xs (rw e (omega arith)), take_all {A = X} k [] (omega arith)) refl

pub window-nil : {X : Type 0} (a b : ℕ) → window {X = X} a b [] ≡ []
window-nil a b = nothing (b - a) a [] refl

pub drop-map : {X Y : Type 0} (f : X → Y) (n : ℕ) (xs : List X) → drop n (map f xs) ≡ map f (drop n xs)
drop-map f zero xs = refl
drop-map f (suc n) [] = refl
drop-map f (suc n) (x ∷ xs) = drop-map f n xs

pub window-map : {X Y : Type 0} (f : X → Y) (a b : ℕ) (xs : List X) → window a b (map f xs) ≡ map f (window a b xs)
window-map f a b xs = rw (drop-map f a xs) (take-map f (b - a) (drop a xs))

pub length-window : {X : Type 0} (a b : ℕ) (xs : List X) → b ≤ length xs → length (window a b xs) ≡ b - a
length-window a b xs le = simp (length-take, length-drop) (omega arith)

pub take-replicate : {X : Type 0} (k n : ℕ) (x : X) → k ≤ n → take k (replicate n x) ≡ replicate k x
take-replicate zero n x le = refl
take-replicate (suc k) zero x le = absurd (omega arith)
take-replicate (suc k) (suc n) x le = ap (λ r. x ∷ r) (take-replicate k n x (omega arith))

pub drop-replicate : {X : Type 0} (k n : ℕ) (x : X) → drop k (replicate n x) ≡ replicate (n - k) x
drop-replicate zero n x = let e : n - 0 ≡ n = omega arith in rw e refl
drop-replicate (suc k) zero x = let e : 0 - suc k ≡ 0 = omega arith in rw e refl
drop-replicate (suc k) (suc n) x = let e : suc n - suc k ≡ n - k = omega arith in rw e (drop-replicate k n x)

pub window-replicate : {X : Type 0} (a b n : ℕ) (x : X) → b ≤ n → window a b (replicate n x) ≡ replicate (b - a) x
window-replicate a b n x le = rw (drop-replicate a n x) (take-replicate (b - a) (n - a) x (omega arith))

drop-append : {X : Type 0} (k : ℕ) (xs ys : List X) → drop k (xs ++ ys) ≡ drop k xs ++ drop (k - length xs) ys
drop-append zero [] ys = refl
drop-append zero (x ∷ xs) ys = let e : 0 - suc (length xs) ≡ 0 = omega arith in rw e refl
drop-append (suc k) [] ys = let e : suc k - 0 ≡ suc k = omega arith in rw e refl
drop-append (suc k) (x ∷ xs) ys = let e : suc k - suc (length xs) ≡ k - length xs = omega arith in rw e (drop-append k xs ys)

take-append : {X : Type 0} (k : ℕ) (xs ys : List X) → take k (xs ++ ys) ≡ take k xs ++ take (k - length xs) ys
take-append zero xs ys = let e : 0 - length xs ≡ 0 = omega arith in rw e refl
take-append (suc k) [] ys = let e : suc k - 0 ≡ suc k = omega arith in rw e refl
take-append (suc k) (x ∷ xs) ys = let e : suc k - suc (length xs) ≡ k - length xs = omega arith in rw e (ap (λ r. x ∷ r) (take-append k xs ys))

pub take_same : {X : Type 0} (k m : ℕ) (xs : List X) → min k (length xs) ≡ min m (length xs) → take k xs ≡ take m xs
take_same k m xs e = sym (take_min k xs) ∙ ap (λ i. take i xs) e ∙ take_min m xs

-- the part in the first list and that in the second
pub window-append : {X : Type 0} (a b : ℕ) (xs ys : List X) → window a b (xs ++ ys) ≡ window (min a (length xs)) (min b (length xs)) xs ++ window (a - length xs) (b - length xs) ys
window-append a b xs ys =
    let rest : b - a - length (drop a xs) ≡ b - length xs - (a - length xs) = simp length-drop (omega arith) in
    let front : min (b - a) (length (drop a xs)) ≡ min (min b (length xs) - min a (length xs)) (length (drop a xs)) = simp length-drop (omega arith) in
    rw (drop-append a xs ys, take-append (b - a) (drop a xs) (drop (a - length xs) ys), rest, drop_min a xs, take_same (b - a) (min b (length xs) - min a (length xs)) (drop a xs) front) refl

pub window-window : {X : Type 0} (a b x y : ℕ) (xs : List X) → a ≤ x → x ≤ y → y ≤ b → window (x - a) (y - a) (window a b xs) ≡ window x y xs
window-window a b x y xs ax xy yb =
    let whole : b - a ≡ (x - a) + (b - x) = omega arith in
    let start : a + (x - a) ≡ x = omega arith in
    let count : y - a - (x - a) ≡ y - x = omega arith in
    let within : y - x ≤ b - x = omega arith in
    rw (whole, drop-take (x - a) (b - x) (drop a xs), drop-drop (x - a) a xs, start, count) (take-take (y - x) (b - x) (drop x xs) within)
