-- Codes of dictionaries.
use Rattle.std.proofs.Common.{◌≡◌, ℕ, zero, suc, ◌&&◌, ◌||◌, Bool, true, false, refl, eqb, arith}
use Rattle.std.specs.Prelude.{replicate, ℤ}
use Rattle.std.proofs.lemmas.Bool.Decides.{nat_tests}
use Rattle.vx_model.specs.Words.{all_by}
use Rattle.vx_model.specs.CellData.{CellData, null_cell, int_cell}
use Rattle.vx_model.specs.declared.cell.Cell as cl
use Rattle.vx_model.specs.TreeView.{tree}
use Rattle.vx_model.proofs.CellViews.{drop_all_by}
use Rattle.std.proofs.Common.{rules}

again : (a b : Bool) → (a && (b || a)) ≡ a
again true true = refl
again true false = refl
again false b = refl

not_zero : (n : ℕ) → eqb (suc n) 0 ≡ false
not_zero n = grind (arith, nat_tests)

-- one cell for all rows
pub all_replicate_is : (f : CellData → Bool) (n : ℕ) (c : CellData) → all_by f (replicate n c) ≡ (eqb n 0 || f c)
all_replicate_is f zero c = refl
all_replicate_is f (suc n) c = rw (all_replicate_is f n c, not_zero n) (again (f c) (eqb n 0))

pub tree_int : (n : ℤ) → tree (cl.Int n) ≡ int_cell n
tree_int n = search (rules, cl.the_lemmas)

pub tree_null : tree cl.Null ≡ null_cell
tree_null = search (rules, cl.the_lemmas)

pub ruleset code_rules = (drop_all_by, all_replicate_is, tree_int)
