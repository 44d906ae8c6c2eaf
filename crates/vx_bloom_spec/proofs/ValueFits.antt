-- What a reader sees of a cell of a type is a row value of the type.
use Rattle.std.proofs.Common.{◌≡◌, ◌&&◌, Bool, true, false, refl}
use Rattle.std.proofs.lemmas.Bool.{and_from, and_parts}
use Rattle.vx_model.specs.Words.{all_by}
use Rattle.vx_model.specs.Ty.{Ty, Tys, boolean, primitive, utf8, binary, list, struct, extension, no_fields, field}
use Rattle.vx_model.specs.CellData.{CellData, CellList, null_cell, bool_cell, int_cell, text_cell, bytes_cell, list_cell, struct_cell, no_cells, cell, items, fits, fields_fit}
use Rattle.vx_model.specs.ValueData.{value, values_in, vals_in, value_fits, values_fit}

all_values : (f : CellData → Bool) (t : Ty) → ((c : CellData) → f c ≡ true → value_fits t (value c) ≡ true)
    → (cs : CellList) → all_by f (items cs) ≡ true → all_by (value_fits t) (vals_in (values_in cs)) ≡ true
all_values f t each no_cells e = refl
all_values f t each (cell c cs) e =
    and_from (value_fits t (value c)) (all_by (value_fits t) (vals_in (values_in cs)))
    (each c (and_parts (f c) (all_by f (items cs)) e).0)
    (all_values f t each cs (and_parts (f c) (all_by f (items cs)) e).1)

mutual
  pub value_fits-value : (t : Ty) (c : CellData) → fits t c ≡ true → value_fits t (value c) ≡ true
  value_fits-value (boolean n) null_cell e = e
  value_fits-value (boolean n) (bool_cell b) e = refl
  value_fits-value (boolean n) (int_cell i) e = cc
  value_fits-value (boolean n) (text_cell s) e = cc
  value_fits-value (boolean n) (bytes_cell s) e = cc
  value_fits-value (boolean n) (list_cell v cs) e = cc
  value_fits-value (boolean n) (struct_cell v cs) e = cc
  value_fits-value (primitive p n) null_cell e = e
  value_fits-value (primitive p n) (bool_cell b) e = cc
  value_fits-value (primitive p n) (int_cell i) e = e
  value_fits-value (primitive p n) (text_cell s) e = cc
  value_fits-value (primitive p n) (bytes_cell s) e = cc
  value_fits-value (primitive p n) (list_cell v cs) e = cc
  value_fits-value (primitive p n) (struct_cell v cs) e = cc
  value_fits-value (utf8 n) null_cell e = e
  value_fits-value (utf8 n) (bool_cell b) e = cc
  value_fits-value (utf8 n) (int_cell i) e = cc
  value_fits-value (utf8 n) (text_cell s) e = refl
  value_fits-value (utf8 n) (bytes_cell s) e = cc
  value_fits-value (utf8 n) (list_cell v cs) e = cc
  value_fits-value (utf8 n) (struct_cell v cs) e = cc
  value_fits-value (binary n) null_cell e = e
  value_fits-value (binary n) (bool_cell b) e = cc
  value_fits-value (binary n) (int_cell i) e = cc
  value_fits-value (binary n) (text_cell s) e = cc
  value_fits-value (binary n) (bytes_cell s) e = refl
  value_fits-value (binary n) (list_cell v cs) e = cc
  value_fits-value (binary n) (struct_cell v cs) e = cc
  value_fits-value (list t n) (list_cell true cs) e = all_values (fits t) t (value_fits-value t) cs e
  value_fits-value (list t n) (list_cell false cs) e = (and_parts n (all_by (fits t) (items cs)) e).0
  value_fits-value (list t n) null_cell e = cc
  value_fits-value (list t n) (bool_cell b) e = cc
  value_fits-value (list t n) (int_cell i) e = cc
  value_fits-value (list t n) (text_cell s) e = cc
  value_fits-value (list t n) (bytes_cell s) e = cc
  value_fits-value (list t n) (struct_cell v cs) e = cc
  value_fits-value (struct fs n) (struct_cell true cs) e = values_fit-values fs cs e
  value_fits-value (struct fs n) (struct_cell false cs) e = (and_parts n (fields_fit fs (items cs)) e).0
  value_fits-value (struct fs n) null_cell e = cc
  value_fits-value (struct fs n) (bool_cell b) e = cc
  value_fits-value (struct fs n) (int_cell i) e = cc
  value_fits-value (struct fs n) (text_cell s) e = cc
  value_fits-value (struct fs n) (bytes_cell s) e = cc
  value_fits-value (struct fs n) (list_cell v cs) e = cc
  value_fits-value (extension tag t) c e = value_fits-value t c e

  values_fit-values : (fs : Tys) (cs : CellList) → fields_fit fs (items cs) ≡ true → values_fit fs (vals_in (values_in cs)) ≡ true
  values_fit-values no_fields no_cells e = refl
  values_fit-values no_fields (cell c cs) e = cc
  values_fit-values (field name t fs) no_cells e = cc
  values_fit-values (field name t fs) (cell c cs) e =
      and_from (value_fits t (value c)) (values_fit fs (vals_in (values_in cs)))
      (value_fits-value t c (and_parts (fits t c) (fields_fit fs (items cs)) e).0)
      (values_fit-values fs cs (and_parts (fits t c) (fields_fit fs (items cs)) e).1)
