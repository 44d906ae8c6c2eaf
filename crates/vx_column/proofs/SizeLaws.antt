-- What numbers, Bools and strings count for in any type.
use Rattle.std.proofs.Common.{◌≡◌, ℕ, ◌+◌, ◌-◌, ◌*◌, ◌≤◌, Bool, true, false, List, [], ◌∷◌, length, drop, refl, ap, ◌∙◌, arith}
use Rattle.std.proofs.lemmas.Bool.{and_parts}
use Rattle.std.specs.Prelude.{ℤ}
use Rattle.vx_model.specs.Words.{all_by, total_by}
use Rattle.vx_model.specs.Ty.{Ty, boolean, primitive, utf8, binary, list, struct, extension}
use Rattle.vx_model.specs.CellData.{CellData, null_cell, bool_cell, int_cell, text_cell, bytes_cell, list_cell, struct_cell, cell_size}
use Rattle.vx_layout_spec.proofs.CellsFit.{all_take, all_drop}
use Rattle.vx_chunk_cells.specs.Window.{window}
use Rattle.vx_chunk_cells.proofs.Windows.{length-window}
use Rattle.vx_typed.specs.Typed.{is_leaf}
use Rattle.vx_strings.specs.StringCells.{is_string, string_length}
use Rattle.vx_column.specs.ColumnView.{has_strings}

-- ---- numbers and Bools

bool_size : (t : Ty) (b : Bool) → cell_size t (bool_cell b) ≡ cell_size t null_cell
bool_size (boolean n) b = refl
bool_size (primitive p n) b = refl
bool_size (utf8 n) b = refl
bool_size (binary n) b = refl
bool_size (list t n) b = refl
bool_size (struct fs n) b = refl
bool_size (extension tag t) b = bool_size t b

int_size : (t : Ty) (i : ℤ) → cell_size t (int_cell i) ≡ cell_size t null_cell
int_size (boolean n) i = refl
int_size (primitive p n) i = refl
int_size (utf8 n) i = refl
int_size (binary n) i = refl
int_size (list t n) i = refl
int_size (struct fs n) i = refl
int_size (extension tag t) i = int_size t i

leaf_size : (t : Ty) (c : CellData) → is_leaf c ≡ true → cell_size t c ≡ cell_size t null_cell
leaf_size t null_cell h = refl
leaf_size t (bool_cell b) h = bool_size t b
leaf_size t (int_cell i) h = int_size t i
leaf_size t (text_cell s) h = cc
leaf_size t (bytes_cell s) h = cc
leaf_size t (list_cell valid cs) h = cc
leaf_size t (struct_cell valid cs) h = cc

same_sizes : (p : CellData → Bool) (f : CellData → ℕ) (n : ℕ) → ((c : CellData) → p c ≡ true → f c ≡ n) → (cs : List CellData) → all_by p cs ≡ true → total_by f cs ≡ length cs * n
same_sizes p f n one [] h = omega arith
same_sizes p f n one (c ∷ cs) h =
    let e : f c ≡ n = one c (and_parts (p c) _ h).0 in
    let r : total_by f cs ≡ length cs * n = same_sizes p f n one cs (and_parts (p c) _ h).1 in
    omega arith

all_window : (p : CellData → Bool) (from to : ℕ) (cs : List CellData) → all_by p cs ≡ true → all_by p (window from to cs) ≡ true
all_window p from to cs h = all_take p (to - from) (drop from cs) (all_drop p from cs h)

pub leaves_size : (t : Ty) (from to : ℕ) (cs : List CellData) → all_by is_leaf cs ≡ true → to ≤ length cs → total_by (cell_size t) (window from to cs) ≡ (to - from) * cell_size t null_cell
leaves_size t from to cs h le =
    same_sizes is_leaf (cell_size t) (cell_size t null_cell) (leaf_size t) (window from to cs) (all_window is_leaf from to cs h)
    ∙ ap (λ (n : ℕ). n * cell_size t null_cell) (length-window from to cs le)

-- ---- strings

text_size : (t : Ty) (s : List ℕ) → has_strings t ≡ true → cell_size t (text_cell s) ≡ cell_size t null_cell + length s
text_size (utf8 n) s h = omega arith
text_size (binary n) s h = omega arith
text_size (extension tag t) s h = text_size t s h
text_size (boolean n) s h = cc
text_size (primitive p n) s h = cc
text_size (list t n) s h = cc
text_size (struct fs n) s h = cc

bytes_size : (t : Ty) (s : List ℕ) → has_strings t ≡ true → cell_size t (bytes_cell s) ≡ cell_size t null_cell + length s
bytes_size (utf8 n) s h = omega arith
bytes_size (binary n) s h = omega arith
bytes_size (extension tag t) s h = bytes_size t s h
bytes_size (boolean n) s h = cc
bytes_size (primitive p n) s h = cc
bytes_size (list t n) s h = cc
bytes_size (struct fs n) s h = cc

string_size : (t : Ty) (c : CellData) → has_strings t ≡ true → is_string c ≡ true → cell_size t c ≡ cell_size t null_cell + string_length c
string_size t null_cell has h = omega arith
string_size t (text_cell s) has h = text_size t s has
string_size t (bytes_cell s) has h = bytes_size t s has
string_size t (bool_cell b) has h = cc
string_size t (int_cell i) has h = cc
string_size t (list_cell valid cs) has h = cc
string_size t (struct_cell valid cs) has h = cc

text_other : (t : Ty) (s : List ℕ) → has_strings t ≡ false → cell_size t (text_cell s) ≡ cell_size t null_cell
text_other (boolean n) s h = refl
text_other (primitive p n) s h = refl
text_other (list t n) s h = refl
text_other (struct fs n) s h = refl
text_other (extension tag t) s h = text_other t s h
text_other (utf8 n) s h = cc
text_other (binary n) s h = cc

bytes_other : (t : Ty) (s : List ℕ) → has_strings t ≡ false → cell_size t (bytes_cell s) ≡ cell_size t null_cell
bytes_other (boolean n) s h = refl
bytes_other (primitive p n) s h = refl
bytes_other (list t n) s h = refl
bytes_other (struct fs n) s h = refl
bytes_other (extension tag t) s h = bytes_other t s h
bytes_other (utf8 n) s h = cc
bytes_other (binary n) s h = cc

string_other : (t : Ty) (c : CellData) → has_strings t ≡ false → is_string c ≡ true → cell_size t c ≡ cell_size t null_cell
string_other t null_cell no_strings h = refl
string_other t (text_cell s) no_strings h = text_other t s no_strings
string_other t (bytes_cell s) no_strings h = bytes_other t s no_strings
string_other t (bool_cell b) no_strings h = cc
string_other t (int_cell i) no_strings h = cc
string_other t (list_cell valid cs) no_strings h = cc
string_other t (struct_cell valid cs) no_strings h = cc

longer_sizes : (p : CellData → Bool) (f g : CellData → ℕ) (n : ℕ) → ((c : CellData) → p c ≡ true → f c ≡ n + g c) → (cs : List CellData) → all_by p cs ≡ true → total_by f cs ≡ length cs * n + total_by g cs
longer_sizes p f g n one [] h = omega arith
longer_sizes p f g n one (c ∷ cs) h =
    let e : f c ≡ n + g c = one c (and_parts (p c) _ h).0 in
    let r : total_by f cs ≡ length cs * n + total_by g cs = longer_sizes p f g n one cs (and_parts (p c) _ h).1 in
    omega arith

pub strings_size : (t : Ty) (from to : ℕ) (cs : List CellData) → has_strings t ≡ true → all_by is_string cs ≡ true → to ≤ length cs
    → total_by (cell_size t) (window from to cs) ≡ (to - from) * cell_size t null_cell + total_by string_length (window from to cs)
strings_size t from to cs has h le =
    longer_sizes is_string (cell_size t) string_length (cell_size t null_cell) (λ (c : CellData). string_size t c has) (window from to cs) (all_window is_string from to cs h)
    ∙ ap (λ (n : ℕ). n * cell_size t null_cell + total_by string_length (window from to cs)) (length-window from to cs le)

pub strings_other : (t : Ty) (from to : ℕ) (cs : List CellData) → has_strings t ≡ false → all_by is_string cs ≡ true → to ≤ length cs → total_by (cell_size t) (window from to cs) ≡ (to - from) * cell_size t null_cell
strings_other t from to cs no_strings h le =
    same_sizes is_string (cell_size t) (cell_size t null_cell) (λ (c : CellData). string_other t c no_strings) (window from to cs) (all_window is_string from to cs h)
    ∙ ap (λ (n : ℕ). n * cell_size t null_cell) (length-window from to cs le)
