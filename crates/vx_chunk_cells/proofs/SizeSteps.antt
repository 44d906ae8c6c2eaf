-- Sums of sizes, told up to the greatest u128.
use Rattle.std.proofs.Common.{◌≡◌, ℕ, zero, suc, ◌+◌, ◌*◌, ◌<◌, ◌≤◌, List, [], ◌∷◌, ◌++◌, length, drop, get_or, map, refl, arith}
use Rattle.std.specs.Prelude.{replicate}
use Rattle.std.proofs.lemmas.List.{drop_more, length-map, drop_all}
use Rattle.vx_model.specs.declared.dtype.StructField.{StructField}
use Rattle.vx_model.specs.declared.cell.Cell.{Cell}
use Rattle.vx_model.specs.Words.{total_by}
use Rattle.vx_model.specs.Ty.{Named, tys_of}
use Rattle.vx_model.specs.CellData.{CellData, cell_size, fields_size}
use Rattle.vx_model.specs.TyView.{ty, field_ty}
use Rattle.vx_model.specs.TreeView.{tree}
use Rattle.vx_model.proofs.Views.{view_rules, field_ty_is}
use Rattle.vx_model.proofs.CellViews.{items_trees_of, tree_list, tree_struct}

-- all count for the same
pub total_same : (f : CellData → ℕ) (n : ℕ) (cs : List CellData) → ((c : CellData) → f c ≡ n) → total_by f cs ≡ length cs * n
total_same f n [] h = omega arith
total_same f n (c ∷ cs) h = let e : f c ≡ n = h c in let r : total_by f cs ≡ length cs * n = total_same f n cs h in omega arith

pub total-append : (f : CellData → ℕ) (cs ds : List CellData) → total_by f (cs ++ ds) ≡ total_by f cs + total_by f ds
total-append f [] ds = omega arith
total-append f (c ∷ cs) ds = let r : total_by f (cs ++ ds) ≡ total_by f cs + total_by f ds = total-append f cs ds in omega arith

pub total-replicate : (f : CellData → ℕ) (n : ℕ) (c : CellData) → total_by f (replicate n c) ≡ n * f c
total-replicate f zero c = omega arith
total-replicate f (suc n) c = let r : total_by f (replicate n c) ≡ n * f c = total-replicate f n c in omega arith

pub drop_total : (f : CellData → ℕ) (cs : List Cell) (i : ℕ) (c : Cell) → i < length cs → c ≡ get_or cs i c
    → total_by f (map tree (drop i cs)) ≡ f (tree c) + total_by f (map tree (drop (i + 1) cs))
drop_total f cs i c lt is = rw (drop_more cs i c lt, ← is) refl

pub drop_fields : (fs : List StructField) (cs : List Cell) (i : ℕ) (f : StructField) (c : Cell) → i < length fs → i < length cs → f ≡ get_or fs i f → c ≡ get_or cs i c
    → fields_size (tys_of (map field_ty (drop i fs))) (map tree (drop i cs)) ≡ cell_size (ty f.dtype) (tree c) + fields_size (tys_of (map field_ty (drop (i + 1) fs))) (map tree (drop (i + 1) cs))
drop_fields fs cs i f c lt more f-is c-is = rw (drop_more fs i f lt, ← f-is, drop_more cs i c more, ← c-is, field_ty_is f) refl

no_cell : (fs : List Named) → fields_size (tys_of fs) [] ≡ 0
no_cell [] = refl
no_cell (f ∷ fs) = refl

-- no field or no cell is left
pub no_field_left : (fs : List StructField) (cs : List Cell) (i : ℕ) → length fs ≤ i → fields_size (tys_of (map field_ty (drop i fs))) (map tree (drop i cs)) ≡ 0
no_field_left fs cs i le = rw (drop_all i fs le) refl

pub no_cell_left : (fs : List StructField) (cs : List Cell) (i : ℕ) → length cs ≤ i → fields_size (tys_of (map field_ty (drop i fs))) (map tree (drop i cs)) ≡ 0
no_cell_left fs cs i le = rw (drop_all i cs le) (no_cell (map field_ty (drop i fs)))

pub ruleset size_rules = (total_same, drop_total, drop_fields, no_field_left, no_cell_left, length-map, items_trees_of, tree_list, tree_struct, view_rules)
