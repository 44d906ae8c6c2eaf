-- Rows of the generated table fit its type.
use Rattle.std.proofs.Common.{◌≡◌, ℕ, zero, suc, ◌+◌, ◌*◌, ◌%◌, ◌==◌, ◌^◌, ◌<◌, ◌&&◌, Bool, true, false, if◌then◌else◌, refl, sym, ap, subst, ◌∙◌, arith}
use Rattle.std.specs.Prelude.{pos}
use Rattle.std.proofs.lemmas.Bool.Decides.{nat_tests}
use Rattle.vx_model.specs.Words.{all_by}
use Rattle.vx_model.specs.declared.ptype.PType.TheVariants.{I64}
use Rattle.vx_model.specs.Numbers.{int_fits}
use Rattle.vx_model.specs.Ty.{Ty, primitive, ty_eq}
use Rattle.vx_model.specs.TyLaws.{ty_eq_decides}
use Rattle.vx_model.specs.CellData.{null_cell, int_cell, fits}
use Rattle.vx_generator.specs.Generated.{table_type, amount, table_row, rows_from}

number_fits : (n : ℕ) → n < 2 ^ 63 → int_fits I64 (pos n) ≡ true
number_fits n lt = grind (arith, nat_tests, lt)

amount_fits : (i : ℕ) → fits (primitive I64 true) (amount i) ≡ true
amount_fits i = by ((i % 10) == 9) refl
  where
    by : (b : Bool) → ((i % 10) == 9) ≡ b → fits (primitive I64 true) (if b then null_cell else int_cell (pos ((i * 37) % 1000))) ≡ true
    by true e = refl
    by false e = number_fits ((i * 37) % 1000) (omega arith)

row_fits : (i : ℕ) → i < 2 ^ 63 → fits table_type (table_row i) ≡ true
row_fits i lt = ap (λ b. b && (fits (primitive I64 true) (amount i) && true)) (number_fits i lt) ∙ ap (λ b. b && true) (amount_fits i)

all_fit : (i k : ℕ) → i + k < 2 ^ 63 → all_by (fits table_type) (rows_from i k) ≡ true
all_fit i zero lt = refl
all_fit i (suc k) lt = ap (λ b. b && all_by (fits table_type) (rows_from (i + 1) k)) (row_fits i (omega arith)) ∙ all_fit (i + 1) k (omega arith)

-- of a type that is the table's
pub rows_fit : (t : Ty) (i k : ℕ) → ty_eq t table_type ≡ true → i + k < 2 ^ 63 → all_by (fits t) (rows_from i k) ≡ true
rows_fit t i k e lt = subst (λ u. all_by (fits u) (rows_from i k) ≡ true) (sym ((ty_eq_decides t table_type).0 e)) (all_fit i k lt)
