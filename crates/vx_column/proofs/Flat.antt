-- Cells with no cells below them: their flags, elements and places, and that they are real.
use Rattle.std.proofs.Common.{◌≡◌, ℕ, zero, suc, ◌+◌, Bool, true, List, [], ◌∷◌, length, get_or, map, refl, arith, None}
use Rattle.std.specs.Prelude.{replicate}
use Rattle.std.proofs.lemmas.Bool.{and_from, and_parts}
use Rattle.vx_model.specs.Words.{all_by}
use Rattle.vx_model.specs.CellData.{CellData, null_cell, bool_cell, int_cell, text_cell, bytes_cell, list_cell, struct_cell}
use Rattle.vx_layout_spec.specs.Real.{is_real_cell}
use Rattle.vx_layout_spec.specs.Parts.{flag_of, elements_of, all_elements, ends}
use Rattle.vx_typed.specs.Typed.{is_leaf}
use Rattle.vx_strings.specs.StringCells.{is_string}
use Rattle.vx_column.specs.ColumnView.{place_of}

-- what holds of such a cell
leaf_flag : (c : CellData) → is_leaf c ≡ true → flag_of c ≡ true
leaf_flag null_cell h = refl
leaf_flag (bool_cell b) h = refl
leaf_flag (int_cell i) h = refl
leaf_flag (text_cell s) h = cc
leaf_flag (bytes_cell s) h = cc
leaf_flag (list_cell valid cs) h = cc
leaf_flag (struct_cell valid cs) h = cc

string_flag : (c : CellData) → is_string c ≡ true → flag_of c ≡ true
string_flag null_cell h = refl
string_flag (text_cell s) h = refl
string_flag (bytes_cell s) h = refl
string_flag (bool_cell b) h = cc
string_flag (int_cell i) h = cc
string_flag (list_cell valid cs) h = cc
string_flag (struct_cell valid cs) h = cc

leaf_elements : (c : CellData) → is_leaf c ≡ true → elements_of c ≡ []
leaf_elements null_cell h = refl
leaf_elements (bool_cell b) h = refl
leaf_elements (int_cell i) h = refl
leaf_elements (text_cell s) h = refl
leaf_elements (bytes_cell s) h = refl
leaf_elements (list_cell valid cs) h = cc
leaf_elements (struct_cell valid cs) h = refl

string_elements : (c : CellData) → is_string c ≡ true → elements_of c ≡ []
string_elements null_cell h = refl
string_elements (bool_cell b) h = refl
string_elements (int_cell i) h = refl
string_elements (text_cell s) h = refl
string_elements (bytes_cell s) h = refl
string_elements (list_cell valid cs) h = cc
string_elements (struct_cell valid cs) h = refl

leaf_real : (c : CellData) → is_leaf c ≡ true → is_real_cell c ≡ true
leaf_real null_cell h = refl
leaf_real (bool_cell b) h = refl
leaf_real (int_cell i) h = refl
leaf_real (text_cell s) h = cc
leaf_real (bytes_cell s) h = cc
leaf_real (list_cell valid cs) h = cc
leaf_real (struct_cell valid cs) h = cc

string_place : (c : CellData) → is_string c ≡ true → place_of c ≡ None
string_place null_cell h = refl
string_place (bool_cell b) h = refl
string_place (int_cell i) h = cc
string_place (text_cell s) h = refl
string_place (bytes_cell s) h = refl
string_place (list_cell valid cs) h = refl
string_place (struct_cell valid cs) h = refl

-- what holds of a list of them
all_flags : (p : CellData → Bool) → ((c : CellData) → p c ≡ true → flag_of c ≡ true) → (cs : List CellData) → all_by p cs ≡ true → map flag_of cs ≡ replicate (length cs) true
all_flags p one [] h = refl
all_flags p one (c ∷ cs) h = rw (one c (and_parts (p c) _ h).0, all_flags p one cs (and_parts (p c) _ h).1) refl

no_elements : (p : CellData → Bool) → ((c : CellData) → p c ≡ true → elements_of c ≡ []) → (cs : List CellData) → all_by p cs ≡ true → all_elements cs ≡ []
no_elements p one [] h = refl
no_elements p one (c ∷ cs) h = rw (one c (and_parts (p c) _ h).0, no_elements p one cs (and_parts (p c) _ h).1) refl

same_ends : (p : CellData → Bool) → ((c : CellData) → p c ≡ true → elements_of c ≡ []) → (from : ℕ) (cs : List CellData) → all_by p cs ≡ true → ends from cs ≡ replicate (length cs) from
same_ends p one from [] h = refl
same_ends p one from (c ∷ cs) h =
    let e : from + 0 ≡ from = omega arith in
    rw (one c (and_parts (p c) _ h).0, e, same_ends p one from cs (and_parts (p c) _ h).1) refl

pub leaves_flags : (cs : List CellData) → all_by is_leaf cs ≡ true → map flag_of cs ≡ replicate (length cs) true
leaves_flags cs h = all_flags is_leaf leaf_flag cs h

pub strings_flags : (cs : List CellData) → all_by is_string cs ≡ true → map flag_of cs ≡ replicate (length cs) true
strings_flags cs h = all_flags is_string string_flag cs h

pub leaves_elements : (cs : List CellData) → all_by is_leaf cs ≡ true → all_elements cs ≡ []
leaves_elements cs h = no_elements is_leaf leaf_elements cs h

pub strings_elements : (cs : List CellData) → all_by is_string cs ≡ true → all_elements cs ≡ []
strings_elements cs h = no_elements is_string string_elements cs h

pub leaves_ends : (from : ℕ) (cs : List CellData) → all_by is_leaf cs ≡ true → ends from cs ≡ replicate (length cs) from
leaves_ends from cs h = same_ends is_leaf leaf_elements from cs h

pub strings_ends : (from : ℕ) (cs : List CellData) → all_by is_string cs ≡ true → ends from cs ≡ replicate (length cs) from
strings_ends from cs h = same_ends is_string string_elements from cs h

pub leaves_real : (cs : List CellData) → all_by is_leaf cs ≡ true → all_by is_real_cell cs ≡ true
leaves_real [] h = refl
leaves_real (c ∷ cs) h = and_from (is_real_cell c) _ (leaf_real c (and_parts (is_leaf c) _ h).0) (leaves_real cs (and_parts (is_leaf c) _ h).1)

pub strings_place : (cs : List CellData) (i : ℕ) → all_by is_string cs ≡ true → place_of (get_or cs i null_cell) ≡ None
strings_place [] i h = refl
strings_place (c ∷ cs) zero h = string_place c (and_parts (is_string c) _ h).0
strings_place (c ∷ cs) (suc i) h = strings_place cs i (and_parts (is_string c) _ h).1
