-- Rows from one on, with one more at the end.
use Rattle.std.proofs.Common.{◌≡◌, ℕ, zero, suc, ◌+◌, List, [], ◌∷◌, ◌++◌, ap, ◌∙◌, arith}
use Rattle.vx_model.specs.CellData.{CellData}
use Rattle.vx_generator.specs.Generated.{table_row, rows_from}

none_more : (i : ℕ) → i + 0 ≡ i
none_more i = omega arith

one_more : (i k : ℕ) → i + suc k ≡ (i + 1) + k
one_more i k = omega arith

next_number : (k : ℕ) → suc k ≡ k + 1
next_number k = omega arith

rows_then : (i k : ℕ) → rows_from i k ++ (table_row (i + k) ∷ []) ≡ rows_from i (suc k)
rows_then i zero = ap (λ n. table_row n ∷ []) (none_more i)
rows_then i (suc k) = ap (λ xs. table_row i ∷ xs) (ap (λ n. rows_from (i + 1) k ++ (table_row n ∷ [])) (one_more i k) ∙ rows_then (i + 1) k)

pub rows_with : (i k : ℕ) (xs : List CellData) (x : CellData) → xs ≡ rows_from i k → x ≡ table_row (i + k) → xs ++ (x ∷ []) ≡ rows_from i (k + 1)
rows_with i k xs x h e = ap (λ z. z ++ (x ∷ [])) h ∙ ap (λ z. rows_from i k ++ (z ∷ [])) e ∙ rows_then i k ∙ ap (λ z. rows_from i z) (next_number k)
