-- What a cell is seen as, a variant at a time, and steps of the loops over cells.
use Rattle.std.proofs.Common.{◌≡◌, ℕ, ◌+◌, ◌<◌, ◌≤◌, ◌&&◌, min, Bool, true, false, IsTrue, List, [], ◌∷◌, ◌++◌, length, get_or, drop, map, refl, append_assoc, rules, arith, inl, inr, Box}
use Rattle.std.proofs.lemmas.List.{drop_more, drop_all, append-nil, length-map, map_push}
use Rattle.std.proofs.lemmas.Bool.{cases_lt}
use Rattle.std.specs.Prelude.{ℤ}
use Rattle.std.specs.Global.{Global, Vec}
use Rattle.vx_model.specs.declared.ptype.Nullability.{Nullability}
use Rattle.vx_model.specs.declared.dtype.DType.{DType}
use Rattle.vx_model.specs.declared.dtype.DType as dt
use Rattle.vx_model.specs.declared.dtype.StructFields.{StructFields, out-StructFields}
use Rattle.vx_model.specs.Numbers.{is_nullable}
use Rattle.vx_model.specs.declared.cell.Cell.{Cell}
use Rattle.vx_model.specs.declared.cell.Cell as cl
use Rattle.vx_model.specs.declared.dtype.StructField.{StructField}
use Rattle.vx_model.specs.Words.{joined_by, all_by}
use Rattle.vx_model.specs.Ty.{Tys, no_fields, field, tys_of}
use Rattle.vx_model.specs.TyView.{ty, field_ty}
use Rattle.vx_model.specs.CellData.{CellData, null_cell, bool_cell, int_cell, text_cell, bytes_cell, list_cell, struct_cell, trees_of, items, spelling, fields_spelling, flag_fits, list_fits, struct_fits, fits, fields_fit}
use Rattle.vx_model.specs.TreeView.{tree}
use Rattle.vx_model.proofs.Views.{view_rules, field_ty_is, ty_list, ty_struct}
use Rattle.vx_model.proofs.CellViews.{cell_rules, drop_all_by, items_trees_of, tree_list, tree_struct}
use Rattle.vx_model.proofs.FitSteps.{drop_fields_fit}

pub tree_null : tree cl.Null ≡ null_cell
tree_null = search (rules, cl.the_lemmas)

pub tree_bool : (b : Bool) → tree (cl.Bool b) ≡ bool_cell b
tree_bool b = search (rules, cl.the_lemmas)

pub tree_int : (n : ℤ) → tree (cl.Int n) ≡ int_cell n
tree_int n = search (rules, cl.the_lemmas)

pub tree_text : (s : List ℕ) → tree (cl.Utf8 s) ≡ text_cell s
tree_text s = search (rules, cl.the_lemmas)

pub tree_bytes : (s : List ℕ) → tree (cl.Binary s) ≡ bytes_cell s
tree_bytes s = search (rules, cl.the_lemmas)

pub drop_joined_by : (f : CellData → List ℕ) (cs : List Cell) (i : ℕ) (c : Cell) → i < length cs → c ≡ get_or cs i c
    → joined_by f (map tree (drop i cs)) ≡ f (tree c) ++ joined_by f (map tree (drop (i + 1) cs))
drop_joined_by f cs i c lt is = rw (drop_more cs i c lt, ← is) refl

pub drop_fields_spelling : (fs : List StructField) (cs : List Cell) (i : ℕ) (f : StructField) (c : Cell) → i < length fs → i < length cs → f ≡ get_or fs i f → c ≡ get_or cs i c
    → fields_spelling (tys_of (map field_ty (drop i fs))) (map tree (drop i cs)) ≡ spelling (ty f.dtype) (tree c) ++ fields_spelling (tys_of (map field_ty (drop (i + 1) fs))) (map tree (drop (i + 1) cs))
drop_fields_spelling fs cs i f c lt more f-is c-is = rw (drop_more fs i f lt, ← f-is, drop_more cs i c more, ← c-is, field_ty_is f) refl

second : (a b : Bool) → IsTrue (a && b) → IsTrue b
second true b h = h
second false b h = absurd cc

pub list_arm : (d : DType) (cell : Cell) (b : Box DType Global) (n : Nullability) (valid : Bool) (v : Vec Cell) → d ≡ dt.List b n → cell ≡ cl.List valid v
    → IsTrue (fits (ty d) (tree cell)) → IsTrue (all_by (fits (ty b.value)) (map tree v.items))
list_arm d cell b n valid v d-is cell-is h =
    let seen : IsTrue (list_fits (is_nullable n) (fits (ty b.value)) (list_cell valid (trees_of (map tree v.items)))) = rw (d-is, cell-is, ty_list b n, tree_list valid v) at h in
    rw (← items_trees_of (map tree v.items)) (second (flag_fits valid (is_nullable n)) (all_by (fits (ty b.value)) (items (trees_of (map tree v.items)))) seen)

pub struct_arm : (d : DType) (cell : Cell) (fs : StructFields) (n : Nullability) (valid : Bool) (v : Vec Cell) → d ≡ dt.Struct fs n → cell ≡ cl.Struct valid v
    → IsTrue (fits (ty d) (tree cell)) → IsTrue (fields_fit (tys_of (map field_ty (out-StructFields fs).fields.items)) (map tree v.items))
struct_arm d cell fs n valid v d-is cell-is h =
    let ts : Tys = tys_of (map field_ty (out-StructFields fs).fields.items) in
    let seen : IsTrue (struct_fits (is_nullable n) (fields_fit ts) (struct_cell valid (trees_of (map tree v.items)))) = rw (d-is, cell-is, ty_struct fs n, tree_struct valid v) at h in
    rw (← items_trees_of (map tree v.items)) (second (flag_fits valid (is_nullable n)) (fields_fit ts (items (trees_of (map tree v.items)))) seen)

pub fields_ended : (fs : List StructField) (cs : List Cell) (i : ℕ) → min (length fs) (length cs) ≤ i → fields_spelling (tys_of (map field_ty (drop i fs))) (map tree (drop i cs)) ≡ []
fields_ended fs cs i le =
    elim (cases_lt i (length fs)) [
      | inl more ↦ rw (drop_all i cs (omega (arith, le, more))) (no_cells_spelled (tys_of (map field_ty (drop i fs))))
      | inr done ↦ rw (drop_all i fs done) refl
    ]
  where
    no_cells_spelled : (ts : Tys) → fields_spelling ts [] ≡ []
    no_cells_spelled no_fields = refl
    no_cells_spelled (field name t ts) = refl

pub ruleset leaf_rules = (append_assoc, append-nil, tree_null, tree_bool, tree_int, tree_text, tree_bytes)

pub ruleset read_rules = (map_push, view_rules, cell_rules)

pub ruleset write_rules = (append_assoc, append-nil, length-map, view_rules, cell_rules, drop_joined_by, drop_fields_spelling, drop_all_by, drop_fields_fit)
