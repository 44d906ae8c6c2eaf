-- What a cell and a row value are seen as where they hold others.
use Rattle.std.proofs.Common.{◌≡◌, ℕ, ◌+◌, ◌<◌, ◌&&◌, Bool, List, [], ◌∷◌, length, get_or, drop, map, refl, ap, rules}
use Rattle.std.proofs.lemmas.List.{drop_more, map_push, map_more, length-map}
use Rattle.std.specs.Global.{Vec}
use Rattle.vx_model.specs.declared.cell.Cell.{Cell}
use Rattle.vx_model.specs.declared.cell.Cell as cl
use Rattle.vx_model.specs.declared.row_value.Value.{Value}
use Rattle.vx_model.specs.declared.row_value.Value as vl
use Rattle.vx_model.specs.Words.{all_by}
use Rattle.vx_model.specs.CellData.{CellData, CellList, list_cell, struct_cell, no_cells, cell, trees_of, items}
use Rattle.vx_model.specs.ValueData.{ValueData, list_value, struct_value, one_value, vals_of, vals_in, value, values_in}
use Rattle.vx_model.specs.TreeView.{tree, val}

pub tree_list : (valid : Bool) (v : Vec Cell) → tree (cl.List valid v) ≡ list_cell valid (trees_of (map tree v.items))
tree_list valid v = search (rules, cl.the_lemmas)

pub tree_struct : (valid : Bool) (v : Vec Cell) → tree (cl.Struct valid v) ≡ struct_cell valid (trees_of (map tree v.items))
tree_struct valid v = search (rules, cl.the_lemmas)

pub val_list : (v : Vec Value) → val (vl.List v) ≡ list_value (vals_of (map val v.items))
val_list v = search (rules, vl.the_lemmas)

pub val_struct : (v : Vec Value) → val (vl.Struct v) ≡ struct_value (vals_of (map val v.items))
val_struct v = search (rules, vl.the_lemmas)

pub items_trees_of : (cs : List CellData) → items (trees_of cs) ≡ cs
items_trees_of [] = refl
items_trees_of (c ∷ cs) = ap (λ (r : List CellData). c ∷ r) (items_trees_of cs)

pub trees_of_items : (cs : CellList) → trees_of (items cs) ≡ cs
trees_of_items no_cells = refl
trees_of_items (cell c cs) = ap (cell c) (trees_of_items cs)

pub vals_in_vals_of : (vs : List ValueData) → vals_in (vals_of vs) ≡ vs
vals_in_vals_of [] = refl
vals_in_vals_of (v ∷ vs) = ap (λ (r : List ValueData). v ∷ r) (vals_in_vals_of vs)

-- the values of cells, one by one
pub values_in-trees_of : (cs : List CellData) → values_in (trees_of cs) ≡ vals_of (map value cs)
values_in-trees_of [] = refl
values_in-trees_of (c ∷ cs) = ap (one_value (value c)) (values_in-trees_of cs)

pub ruleset cell_rules = (items_trees_of, vals_in_vals_of, values_in-trees_of, tree_list, tree_struct, val_list, val_struct)

pub ruleset copy_rules = (map_push, map_more, tree_list, tree_struct, val_list, val_struct)

-- what holds of cells from place i on, at one more step
pub drop_all_by : (f : CellData → Bool) (cs : List Cell) (i : ℕ) (c : Cell) → i < length cs → c ≡ get_or cs i c
    → all_by f (map tree (drop i cs)) ≡ (f (tree c) && all_by f (map tree (drop (i + 1) cs)))
drop_all_by f cs i c lt is = rw (drop_more cs i c lt, ← is) refl
