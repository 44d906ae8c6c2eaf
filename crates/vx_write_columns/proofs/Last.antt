-- The last number of a history.
use Rattle.std.proofs.Common.{◌≡◌, ◌+◌, ◌-◌, ◌^◌, ◌<◌, ◌≤◌, ◌==◌, ◌∷◌, ◌∙◌, ℕ, suc, max, true, List, length, Option, Some, None, slice_get, sym, ap, arith, []}
use Rattle.std.proofs.lemmas.Bool.Decides.{nat_tests}
use Rattle.vx_order_answer.specs.declared.receipt.Receipt.{Receipt}
use Rattle.vx_seats.specs.History.{numbered}
use Rattle.vx_seats.proofs.History.{left_true, right_true}

number_is : (m n : ℕ) → (m == n) ≡ true → m ≡ n
number_is m n h = grind (arith, nat_tests)

same_receipt : (x y : Receipt) → Some x ≡ Some y → x.number ≡ y.number
same_receipt x y e = let same : x ≡ y = cc in ap (λ (z : Receipt). z.number) same

no_receipt : (x : Receipt) → None ≡ Some x → ⊥
no_receipt x e = cc

last_number : (first : ℕ) (rs : List Receipt) (r : Receipt) → slice_get rs (length rs - 1) ≡ Some r → numbered first rs ≡ true → r.number + 1 ≡ first + length rs
last_number first [] r e h = absurd (no_receipt r e)
last_number first (x ∷ []) r e h =
    let one : x.number ≡ first = number_is x.number first (left_true (x.number == first) true h) in
    let same : x.number ≡ r.number = same_receipt x r e in
    omega (arith, one, same)
last_number first (x ∷ y ∷ ys) r e h =
    let z : length (x ∷ y ∷ ys) - 1 ≡ suc (length (y ∷ ys) - 1) = omega arith in
    let more : r.number + 1 ≡ (first + 1) + length (y ∷ ys)
    = last_number (first + 1) (y ∷ ys) r (sym (ap (slice_get (x ∷ y ∷ ys)) z) ∙ e) (right_true (x.number == first) (numbered (first + 1) (y ∷ ys)) h) in
    omega (arith, more)

-- numbers of 32 bits end at 2^32 at most
pub numbers_end : (first : ℕ) (rs : List Receipt) (r : Receipt) → slice_get rs (length rs - 1) ≡ Some r → r.number < 2 ^ 32 → numbered first rs ≡ true → first + length rs ≤ max first (2 ^ 32)
numbers_end first rs r e l h = let n = last_number first rs r e h in omega (arith, n, l)

pub none_end : (first : ℕ) (rs : List Receipt) → slice_get rs (length rs - 1) ≡ None → first + length rs ≤ max first (2 ^ 32)
none_end first [] e = omega arith
none_end first (x ∷ rs) e = absurd (some_last x rs e)
  where
    some_last : (y : Receipt) (ys : List Receipt) → slice_get (y ∷ ys) (length (y ∷ ys) - 1) ≡ None → ⊥
    some_last y [] f = cc
    some_last y (q ∷ qs) f =
        let z : length (y ∷ q ∷ qs) - 1 ≡ suc (length (q ∷ qs) - 1) = omega arith in
        some_last q qs (sym (ap (slice_get (y ∷ q ∷ qs)) z) ∙ f)
