-- Lists and sums.
use Rattle.std.proofs.Common.{◌≡◌, ℕ, zero, suc, ◌+◌, ◌*◌, List, [], ◌∷◌, ◌++◌, take, drop, sum, refl, sym, ap, ◌∙◌, arith}
use Rattle.std.proofs.lemmas.List.{drop-drop}
use Rattle.std.proofs.Math.Nat.{mul-suc}
use Rattle.std.proofs.lemmas.List.Sums.{fold-append}

pub drop_both : {X : Type 0} (a b : ℕ) (xs : List X) → drop (a + b) xs ≡ drop b (drop a xs)
drop_both a b xs = sym (drop-drop b a xs)

take_nil : {X : Type 0} (n : ℕ) → take {A = X} n [] ≡ []
take_nil zero = refl
take_nil (suc n) = refl

pub take_both : {X : Type 0} (a b : ℕ) (xs : List X) → take (a + b) xs ≡ take a xs ++ take b (drop a xs)
take_both zero b xs = ap (λ n. take n xs) (let e : 0 + b ≡ b = omega arith in e)
take_both (suc a) b [] = take_nil (suc a + b) ∙ sym (take_nil b)
take_both (suc a) b (x ∷ xs) = ap (λ n. take n (x ∷ xs)) (let e : suc a + b ≡ suc (a + b) = omega arith in e) ∙ ap (λ r. x ∷ r) (take_both a b xs)

pub sum-append : (xs : List ℕ) (x : ℕ) → sum (xs ++ (x ∷ [])) ≡ sum xs + x
sum-append xs x = fold-append (λ a y. a + y) 0 xs (x ∷ [])

pub len_times : (len n : ℕ) → len * suc n ≡ len * n + len
len_times len n = omega (arith, mul-suc len n)
