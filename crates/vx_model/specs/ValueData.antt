-- Row values, the value of a cell, and which row values a type has.
use Rattle.std.specs.Prelude.{ℕ, ◌&&◌, ◌||◌, Bool, true, false, if◌then◌else◌, List, [], ◌∷◌, ℤ}
use Rattle.vx_model.specs.CellData.{CellData, CellList, null_cell, bool_cell, int_cell, text_cell, bytes_cell, list_cell, struct_cell, no_cells, cell}
use Rattle.vx_model.specs.declared.ptype.PType.{PType}
use Rattle.vx_model.specs.Numbers.{int_fits}
use Rattle.vx_model.specs.Words.{all_by}
use Rattle.vx_model.specs.Ty.{Ty, Tys, boolean, primitive, utf8, binary, list, struct, extension, no_fields, field}

mutual
  pub data ValueData : Type 0 where
    null_value : ValueData
    bool_value : Bool → ValueData
    int_value : ℤ → ValueData
    text_value : List ℕ → ValueData
    bytes_value : List ℕ → ValueData
    list_value : ValueList → ValueData
    struct_value : ValueList → ValueData

  pub data ValueList : Type 0 where
    no_values : ValueList
    one_value : ValueData → ValueList → ValueList

abbrev pub vals_of : List ValueData → ValueList
vals_of [] = no_values
vals_of (v ∷ vs) = one_value v (vals_of vs)

abbrev pub vals_in : ValueList → List ValueData
vals_in no_values = []
vals_in (one_value v vs) = v ∷ vals_in vs

-- null where the flag says invalid
abbrev pub masked : Bool → ValueData → ValueData
masked valid v = if valid then v else null_value

-- what a reader sees of a cell
abbrev mutual
  pub value : CellData → ValueData
  value null_cell = null_value
  value (bool_cell b) = bool_value b
  value (int_cell i) = int_value i
  value (text_cell s) = text_value s
  value (bytes_cell s) = bytes_value s
  value (list_cell valid cs) = masked valid (list_value (values_in cs))
  value (struct_cell valid cs) = masked valid (struct_value (values_in cs))

  pub values_in : CellList → ValueList
  values_in no_cells = no_values
  values_in (cell c cs) = one_value (value c) (values_in cs)

-- ---- which row values a type has

abbrev pub bool_value_fits : Bool → ValueData → Bool
bool_value_fits n null_value = n
bool_value_fits n (bool_value b) = true
bool_value_fits n v = false

abbrev pub int_value_fits : PType → Bool → ValueData → Bool
int_value_fits p n null_value = n
int_value_fits p n (int_value i) = int_fits p i
int_value_fits p n v = false

abbrev pub text_value_fits : Bool → ValueData → Bool
text_value_fits n null_value = n
text_value_fits n (text_value s) = true
text_value_fits n v = false

abbrev pub bytes_value_fits : Bool → ValueData → Bool
bytes_value_fits n null_value = n
bytes_value_fits n (bytes_value s) = true
bytes_value_fits n v = false

abbrev pub list_value_fits : Bool → (ValueData → Bool) → ValueData → Bool
list_value_fits n f null_value = n
list_value_fits n f (list_value vs) = all_by f (vals_in vs)
list_value_fits n f v = false

abbrev pub struct_value_fits : Bool → (List ValueData → Bool) → ValueData → Bool
struct_value_fits n f null_value = n
struct_value_fits n f (struct_value vs) = f (vals_in vs)
struct_value_fits n f v = false

abbrev pub no_values_fit : List ValueData → Bool
no_values_fit [] = true
no_values_fit (v ∷ vs) = false

abbrev pub first_value_fits : (ValueData → Bool) → (List ValueData → Bool) → List ValueData → Bool
first_value_fits f g [] = false
first_value_fits f g (v ∷ vs) = f v && g vs

abbrev mutual
  pub value_fits : Ty → ValueData → Bool
  value_fits (boolean n) = bool_value_fits n
  value_fits (primitive p n) = int_value_fits p n
  value_fits (utf8 n) = text_value_fits n
  value_fits (binary n) = bytes_value_fits n
  value_fits (list t n) = list_value_fits n (value_fits t)
  value_fits (struct fs n) = struct_value_fits n (values_fit fs)
  value_fits (extension tag t) = value_fits t

  -- one value a field, in order
  pub values_fit : Tys → List ValueData → Bool
  values_fit no_fields = no_values_fit
  values_fit (field name t fs) = first_value_fits (value_fits t) (values_fit fs)

abbrev pub is_null_value : ValueData → Bool
is_null_value null_value = true
is_null_value v = false

-- null, or a row value of the type
abbrev pub is_row_value : Ty → ValueData → Bool
is_row_value t v = is_null_value v || value_fits t v
