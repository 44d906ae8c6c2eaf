-- Cells that are the same, one by one.
use Rattle.std.proofs.Common.{◌≡◌, ℕ, suc, ◌+◌, ◌<◌, ◌≤◌, ◌&&◌, Bool, true, false, List, [], ◌∷◌, map, length, drop, get_or, refl, ap, ◌∙◌, sym, arith}
use Rattle.std.proofs.lemmas.List.{drop_more, drop_all, length-map}
use Rattle.vx_model.specs.Words.{all_by}
use Rattle.vx_model.specs.CellData.{CellData, null_cell, trees_of}
use Rattle.vx_model.specs.declared.cell.Cell.{Cell}
use Rattle.vx_model.specs.TreeView.{tree}
use Rattle.vx_model.proofs.CellViews.{tree_list, tree_struct}
use Rattle.vx_compressor_spec.specs.TableImage.{tree_eq, trees_eq}
use Rattle.vx_table_compressor.specs.Images.{are_alike}

and_false : (a : Bool) → (a && false) ≡ false
and_false true = refl
and_false false = refl

-- cells from place i on, at one more step
pub drop_trees : (xs ys : List Cell) (i : ℕ) (a b : Cell) → i < length xs → i < length ys → a ≡ get_or xs i a → b ≡ get_or ys i b
    → trees_eq (trees_of (map tree (drop i xs))) (trees_of (map tree (drop i ys))) ≡ (tree_eq (tree a) (tree b) && trees_eq (trees_of (map tree (drop (i + 1) xs))) (trees_of (map tree (drop (i + 1) ys))))
drop_trees xs ys i a b lt more a-is b-is = rw (drop_more xs i a lt, ← a-is, drop_more ys i b more, ← b-is) refl

-- lists of other lengths differ
pub other_lengths : (cs ds : List CellData) → (length cs ≡ length ds → ⊥) → trees_eq (trees_of cs) (trees_of ds) ≡ false
other_lengths [] [] h = absurd (h refl)
other_lengths [] (d ∷ ds) h = refl
other_lengths (c ∷ cs) [] h = refl
other_lengths (c ∷ cs) (d ∷ ds) h = rw (other_lengths cs ds (λ e. h (ap suc e))) (and_false (tree_eq c d))

pub ruleset same_rules = (drop_trees, other_lengths, length-map, drop_all, tree_list, tree_struct)

-- the first cell and the others
pub alike_first : (cs : List CellData) (first : CellData) → 0 < length cs → first ≡ get_or cs 0 null_cell → all_by (tree_eq first) (drop 1 cs) ≡ are_alike cs
alike_first [] first l e = absurd (omega arith)
alike_first (c ∷ cs) first l e = ap (λ (x : CellData). all_by (tree_eq x) cs) e

pub alike_none : (cs : List CellData) → length cs ≡ 0 → are_alike cs ≡ false
alike_none [] e = refl
alike_none (c ∷ cs) e = absurd (omega arith)

pub alike_next : (first : CellData) (cs : List CellData) (i : ℕ) (c : CellData) → i < length cs → c ≡ get_or cs i null_cell → all_by (tree_eq first) (drop i cs) ≡ (tree_eq first c && all_by (tree_eq first) (drop (i + 1) cs))
alike_next first cs i c lt is = ap (all_by (tree_eq first)) (drop_more cs i null_cell lt) ∙ ap (λ (d : CellData). tree_eq first d && all_by (tree_eq first) (drop (i + 1) cs)) (sym is)

pub ruleset alike_rules = (alike_first, alike_none, alike_next, drop_all)
