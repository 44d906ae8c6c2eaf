-- Stocks are equal where they are path by path.
use Rattle.std.proofs.Common.{map as list_map, ◌≡◌, ℕ, ◌+◌, List, [], ◌∷◌, ◌++◌, sym, ap, ◌∙◌, arith}
use Rattle.vx_machine_ids.specs.Stock.{Stock, none, both, joined, all_stock}

pub stock_is : (s t : Stock) → ((p : List ℕ) → s.ids p ≡ t.ids p) → ((p : List ℕ) → s.ends p ≡ t.ends p) → s ≡ t
stock_is s t f g = λ j. record { ids = λ p. f p j; ends = λ p. g p j }

pub both_none : (s : Stock) → both s none ≡ s
both_none s = stock_is (both s none) s (λ p. omega arith) (λ p. omega arith)

pub none_both : (s : Stock) → both none s ≡ s
none_both s = stock_is (both none s) s (λ p. omega arith) (λ p. omega arith)

pub both_assoc : (s t r : Stock) → both (both s t) r ≡ both s (both t r)
both_assoc s t r = stock_is (both (both s t) r) (both s (both t r)) (λ p. omega arith) (λ p. omega arith)

pub both_swap : (s t : Stock) → both s t ≡ both t s
both_swap s t = stock_is (both s t) (both t s) (λ p. omega arith) (λ p. omega arith)

-- the last two of three change places
pub both_turn : (s t r : Stock) → both (both s t) r ≡ both (both s r) t
both_turn s t r = stock_is (both (both s t) r) (both (both s r) t) (λ p. omega arith) (λ p. omega arith)

pub joined_append : (ss ts : List Stock) → joined (ss ++ ts) ≡ both (joined ss) (joined ts)
joined_append [] ts = sym (none_both (joined ts))
joined_append (s ∷ ss) ts = ap (both s) (joined_append ss ts) ∙ sym (both_assoc s (joined ss) (joined ts))

pub all_push : {A : Type 0} (f : A → Stock) (xs : List A) (x : A) → all_stock f (xs ++ (x ∷ [])) ≡ both (all_stock f xs) (f x)
all_push f [] x = both_swap (f x) none
all_push f (y ∷ xs) x = ap (both (f y)) (all_push f xs x) ∙ sym (both_assoc (f y) (all_stock f xs) (f x))

pub all_append : {A : Type 0} (f : A → Stock) (xs ys : List A) → all_stock f (xs ++ ys) ≡ both (all_stock f xs) (all_stock f ys)
all_append f [] ys = sym (none_both (all_stock f ys))
all_append f (x ∷ xs) ys = ap (both (f x)) (all_append f xs ys) ∙ sym (both_assoc (f x) (all_stock f xs) (all_stock f ys))
