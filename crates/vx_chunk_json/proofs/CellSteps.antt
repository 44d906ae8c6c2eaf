-- Steps of the reader of cells.
use Rattle.std.proofs.Common.{◌≡◌, ℕ, suc, ◌+◌, ◌<◌, ◌≤◌, Bool, List, [], ◌∷◌, ◌++◌, length, get_or, drop, map, Option, Some, None, refl, sym, ap, ◌∙◌, rules}
use Rattle.std.specs.Prelude.{ℤ}
use Rattle.std.proofs.lemmas.List.{drop_more, drop_all, append-nil, map_push, length-map}
use Rattle.serde_json.specs.View.{view, items_view}
use Rattle.serde_json.specs.declared.value.Value.{Value}
use Rattle.vx_model.specs.declared.dtype.StructField.{StructField}
use Rattle.vx_model.specs.declared.cell.Cell as cl
use Rattle.vx_model.specs.Ty.{Named, tys_of}
use Rattle.vx_model.specs.TyView.{ty, field_ty}
use Rattle.vx_model.specs.CellData.{CellData, null_cell, bool_cell, int_cell, text_cell, bytes_cell}
use Rattle.vx_model.specs.TreeView.{tree}
use Rattle.vx_model.proofs.Views.{view_rules, field_ty_is}
use Rattle.vx_model.proofs.CellViews.{tree_list, tree_struct}
use Rattle.vx_json.specs.Lists.{first_and}
use Rattle.vx_chunk_json.specs.Cells.{cell_of, field_cells}
use Rattle.vx_json.specs.declared.error.JsonError.{JsonError}
use Rattle.vx_json.specs.declared.error.JsonError.TheVariants as errors
use Rattle.vx_json.specs.Views.{Fails}
use Rattle.vx_json.proofs.Parts.{part_rules}
use Rattle.vx_json.proofs.Items.{with_front, regroup, each_goes_on, each_stops}

pub tree_null : tree cl.Null ≡ null_cell
tree_null = search (rules, cl.the_lemmas)

pub tree_bool : (b : Bool) → tree (cl.Bool b) ≡ bool_cell b
tree_bool b = search (rules, cl.the_lemmas)

pub tree_int : (n : ℤ) → tree (cl.Int n) ≡ int_cell n
tree_int n = search (rules, cl.the_lemmas)

pub tree_text : (s : List ℕ) → tree (cl.Utf8 s) ≡ text_cell s
tree_text s = search (rules, cl.the_lemmas)

pub tree_bytes : (s : List ℕ) → tree (cl.Binary s) ≡ bytes_cell s
tree_bytes s = search (rules, cl.the_lemmas)

pub ruleset leaf_rules = (tree_null, tree_bool, tree_int, tree_text, tree_bytes)

-- ---- one cell a field

abbrev pub rest_at : List StructField → List Value → ℕ → Option (List CellData)
rest_at fs vs i = field_cells (tys_of (map field_ty (drop i fs))) (items_view (drop i vs))

next_field : (fs : List StructField) (vs : List Value) (i : ℕ) (f : StructField) (v : Value) → i < length fs → i < length vs → v ≡ get_or vs i v
    → rest_at fs vs i ≡ first_and (cell_of (ty (get_or fs i f).dtype) (view v)) (rest_at fs vs (i + 1))
next_field fs vs i f v lt more v-is = rw (drop_more fs i f lt, drop_more vs i v more, ← v-is, field_ty_is (get_or fs i f)) refl

pub fields_go_on : (fs : List StructField) (vs : List Value) (i : ℕ) (f : StructField) (v : Value) (front : List CellData) (c : CellData) (all : Option (List CellData)) → i < length fs → i < length vs → v ≡ get_or vs i v
    → cell_of (ty (get_or fs i f).dtype) (view v) ≡ Some c → with_front front (rest_at fs vs i) ≡ all → with_front (front ++ c ∷ []) (rest_at fs vs (i + 1)) ≡ all
fields_go_on fs vs i f v front c all lt more v-is e so_far =
    let step : with_front front (rest_at fs vs i) ≡ with_front (front ++ c ∷ []) (rest_at fs vs (i + 1)) = rw (next_field fs vs i f v lt more v-is, e) (regroup front c (rest_at fs vs (i + 1))) in
    sym step ∙ so_far

fields_none : (fs : List StructField) (vs : List Value) (i : ℕ) (f : StructField) (v : Value) (front : List CellData) (all : Option (List CellData)) → i < length fs → i < length vs → v ≡ get_or vs i v
    → cell_of (ty (get_or fs i f).dtype) (view v) ≡ None → with_front front (rest_at fs vs i) ≡ all → all ≡ None
unfolding first_and
fields_none fs vs i f v front all lt more v-is e so_far = sym so_far ∙ rw (next_field fs vs i f v lt more v-is, e) refl

-- a cell that is refused
pub fields_stop : (error : JsonError) (fs : List StructField) (vs : List Value) (i : ℕ) (f : StructField) (v : Value) (front : List CellData) (all : Option (List CellData)) → i < length fs → i < length vs → v ≡ get_or vs i v
    → Fails error (cell_of (ty (get_or fs i f).dtype) (view v)) → with_front front (rest_at fs vs i) ≡ all → Fails error all
fields_stop errors.Wrong fs vs i f v front all lt more v-is e so_far = fields_none fs vs i f v front all lt more v-is e so_far
fields_stop errors.OutOfMemory fs vs i f v front all lt more v-is e so_far = tt

pub fields_done : (fs : List StructField) (vs : List Value) (i : ℕ) (front : List CellData) (all : Option (List CellData)) → length fs ≡ length vs → length fs ≤ i → with_front front (rest_at fs vs i) ≡ all → all ≡ Some front
fields_done fs vs i front all same le so_far =
    let none : length vs ≤ i = rw (← same) le in
    sym so_far ∙ rw (drop_all i fs le, drop_all i vs none) (ap (λ (cs : List CellData). Some cs) (append-nil front))

none_after : (x : Option CellData) → first_and x None ≡ None
unfolding first_and
none_after None = refl
none_after (Some x) = refl

-- more or fewer cells than fields
pub other_count : (fs : List Named) (vs : List Value) → (length fs ≡ length vs → ⊥) → field_cells (tys_of fs) (items_view vs) ≡ None
other_count [] [] h = absurd (h refl)
other_count [] (v ∷ vs) h = refl
other_count (f ∷ fs) [] h = refl
other_count (f ∷ fs) (v ∷ vs) h = rw (other_count fs vs (λ e. h (ap suc e))) (none_after (cell_of f.1 (view v)))

pub ruleset cell_rules = (part_rules, view_rules, tree_list, tree_struct)

pub ruleset list_rules = (map_push, append-nil, each_goes_on, each_stops)

pub ruleset field_rules = (map_push, append-nil, length-map, other_count, view_rules)
