-- What is read of a type fits it.
use Rattle.std.proofs.Common.{◌≡◌, ◌&&◌, Bool, true, false, List, Option, Some, None, refl, subst}
use Rattle.std.specs.Prelude.{ℤ, IsTrue, if◌then◌else◌, Result, Ok, Err, ℕ}
use Rattle.std.proofs.lemmas.Bool.{and_from}
use Rattle.hex.specs.Hex.{decode_of}
use Rattle.hex.specs.declared.error.FromHexError.{FromHexError}
use Rattle.serde_json.specs.Data.{Data, null, boolean as bool, number, string, array, object, Items, no_items, item}
use Rattle.serde_json.specs.Find.{as_integer}
use Rattle.vx_model.specs.declared.ptype.PType.{PType}
use Rattle.vx_model.specs.Numbers.{int_fits}
use Rattle.vx_model.specs.Words.{all_by}
use Rattle.vx_model.specs.Ty.{Ty, Tys, boolean, primitive, utf8, binary, list, struct, extension, no_fields, field}
use Rattle.vx_model.specs.CellData.{CellData, int_cell, trees_of, items, flag_fits, bool_fits, primitive_fits, text_fits, bytes_fits, list_fits, struct_fits, none_fit, first_fits, fits, fields_fit}
use Rattle.vx_model.proofs.CellViews.{items_trees_of}
use Rattle.vx_json.specs.Steps.{◌>>=◌}
use Rattle.vx_json.specs.Lists.{first_and, each}
use Rattle.vx_chunk_json.specs.Cells.{bool_of, ranged, int_of, text_of, decoded, bytes_of, invalid_in, list_with, struct_with, list_of, struct_of, cell_of, field_cells, none_left, first_then}

-- whether what was read, if anything, passes the test
abbrev pub passes : {A : Type 0} → (A → Bool) → Option A → Bool
passes f None = true
passes f (Some x) = f x

-- ---- leaves

bool_passes : (n : Bool) (d : Data) → passes (bool_fits n) (bool_of n d) ≡ true
bool_passes true null = refl
bool_passes false null = refl
bool_passes n (bool b) = refl
bool_passes n (number x) = refl
bool_passes n (string s) = refl
bool_passes n (array ds) = refl
bool_passes n (object ms) = refl

in_range : (p : PType) (n : Bool) (z : ℤ) (b : Bool) → int_fits p z ≡ b → passes (primitive_fits p n) (if b then Some (int_cell z) else None) ≡ true
in_range p n z true h = h
in_range p n z false h = refl

ranged_passes : (p : PType) (n : Bool) (o : Option ℤ) → passes (primitive_fits p n) (ranged p o) ≡ true
unfolding ranged
ranged_passes p n None = refl
ranged_passes p n (Some z) = in_range p n z (int_fits p z) refl

int_passes : (p : PType) (n : Bool) (d : Data) → passes (primitive_fits p n) (int_of p n d) ≡ true
int_passes p true null = refl
int_passes p false null = refl
int_passes p n (bool b) = refl
int_passes p n (number x) = ranged_passes p n (as_integer x)
int_passes p n (string s) = refl
int_passes p n (array ds) = refl
int_passes p n (object ms) = refl

text_passes : (n : Bool) (d : Data) → passes (text_fits n) (text_of n d) ≡ true
text_passes true null = refl
text_passes false null = refl
text_passes n (bool b) = refl
text_passes n (number x) = refl
text_passes n (string s) = refl
text_passes n (array ds) = refl
text_passes n (object ms) = refl

decoded_passes : (n : Bool) (r : Result (List ℕ) FromHexError) → passes (bytes_fits n) (decoded r) ≡ true
decoded_passes n (Ok bytes) = refl
decoded_passes n (Err e) = refl

bytes_passes : (n : Bool) (d : Data) → passes (bytes_fits n) (bytes_of n d) ≡ true
bytes_passes true null = refl
bytes_passes false null = refl
bytes_passes n (bool b) = refl
bytes_passes n (number x) = refl
bytes_passes n (string s) = decoded_passes n (decode_of s)
bytes_passes n (array ds) = refl
bytes_passes n (object ms) = refl

-- ---- lists and structs

first_passes : {A : Type 0} (f : A → Bool) (x : Option A) (xs : Option (List A)) → passes f x ≡ true → passes (all_by f) xs ≡ true → passes (all_by f) (first_and x xs) ≡ true
unfolding first_and
first_passes f None xs h k = refl
first_passes f (Some x) None h k = refl
first_passes f (Some x) (Some xs) h k = and_from (f x) (all_by f xs) h k

each_passes : {A : Type 0} (f : A → Bool) (read : Data → Option A) → ((d : Data) → passes f (read d) ≡ true) → (ds : Items) → passes (all_by f) (each read ds) ≡ true
each_passes f read h no_items = refl
each_passes f read h (item d ds) = first_passes f (read d) (each read ds) (h d) (each_passes f read h ds)

found_passes : (g : List CellData → Bool) (o : Option Items) (read : Items → Option (List CellData)) → ((ds : Items) → passes g (read ds) ≡ true) → passes g (o >>= read) ≡ true
found_passes g None read h = refl
found_passes g (Some ds) read h = h ds

list_with_passes : (n : Bool) (f : CellData → Bool) (valid : Bool) (cs : Option (List CellData)) → flag_fits valid n ≡ true → passes (all_by f) cs ≡ true → passes (list_fits n f) (list_with valid cs) ≡ true
list_with_passes n f valid None h k = refl
list_with_passes n f valid (Some cs) h k = and_from (flag_fits valid n) (all_by f (items (trees_of cs))) h (rw (items_trees_of cs) k)

struct_with_passes : (n : Bool) (g : List CellData → Bool) (valid : Bool) (cs : Option (List CellData)) → flag_fits valid n ≡ true → passes g cs ≡ true → passes (struct_fits n g) (struct_with valid cs) ≡ true
struct_with_passes n g valid None h k = refl
struct_with_passes n g valid (Some cs) h k = and_from (flag_fits valid n) (g (items (trees_of cs))) h (rw (items_trees_of cs) k)

list_passes : (n : Bool) (f : CellData → Bool) (read : Items → Option (List CellData)) → ((ds : Items) → passes (all_by f) (read ds) ≡ true) → (d : Data) → passes (list_fits n f) (list_of n read d) ≡ true
list_passes true f read h null = refl
list_passes false f read h null = refl
list_passes n f read h (bool b) = refl
list_passes n f read h (number x) = refl
list_passes n f read h (string s) = refl
list_passes n f read h (array ds) = list_with_passes n f true (read ds) refl (h ds)
list_passes true f read h (object ms) = list_with_passes true f false (invalid_in ms >>= read) refl (found_passes (all_by f) (invalid_in ms) read h)
list_passes false f read h (object ms) = refl

struct_passes : (n : Bool) (g : List CellData → Bool) (read : Items → Option (List CellData)) → ((ds : Items) → passes g (read ds) ≡ true) → (d : Data) → passes (struct_fits n g) (struct_of n read d) ≡ true
struct_passes n g read h null = refl
struct_passes n g read h (bool b) = refl
struct_passes n g read h (number x) = refl
struct_passes n g read h (string s) = refl
struct_passes n g read h (array ds) = struct_with_passes n g true (read ds) refl (h ds)
struct_passes true g read h (object ms) = struct_with_passes true g false (invalid_in ms >>= read) refl (found_passes g (invalid_in ms) read h)
struct_passes false g read h (object ms) = refl

none_passes : (ds : Items) → passes none_fit (none_left ds) ≡ true
none_passes no_items = refl
none_passes (item d ds) = refl

both_pass : (f : CellData → Bool) (g : List CellData → Bool) (x : Option CellData) (xs : Option (List CellData)) → passes f x ≡ true → passes g xs ≡ true → passes (first_fits f g) (first_and x xs) ≡ true
unfolding first_and
both_pass f g None xs h k = refl
both_pass f g (Some x) None h k = refl
both_pass f g (Some x) (Some xs) h k = and_from (f x) (g xs) h k

then_passes : (f : CellData → Bool) (g : List CellData → Bool) (read : Data → Option CellData) (others : Items → Option (List CellData)) → ((d : Data) → passes f (read d) ≡ true) → ((ds : Items) → passes g (others ds) ≡ true)
    → (ds : Items) → passes (first_fits f g) (first_then read others ds) ≡ true
then_passes f g read others h k no_items = refl
then_passes f g read others h k (item d ds) = both_pass f g (read d) (others ds) (h d) (k ds)

-- ---- all types

mutual
  pub cell_passes : (t : Ty) (d : Data) → passes (fits t) (cell_of t d) ≡ true
  cell_passes (boolean n) d = bool_passes n d
  cell_passes (primitive p n) d = int_passes p n d
  cell_passes (utf8 n) d = text_passes n d
  cell_passes (binary n) d = bytes_passes n d
  cell_passes (list t n) d = list_passes n (fits t) (each (cell_of t)) (each_passes (fits t) (cell_of t) (cell_passes t)) d
  cell_passes (struct fs n) d = struct_passes n (fields_fit fs) (field_cells fs) (fields_pass fs) d
  cell_passes (extension tag t) d = cell_passes t d

  fields_pass : (fs : Tys) (ds : Items) → passes (fields_fit fs) (field_cells fs ds) ≡ true
  fields_pass no_fields ds = none_passes ds
  fields_pass (field name t fs) ds = then_passes (fits t) (fields_fit fs) (cell_of t) (field_cells fs) (cell_passes t) (fields_pass fs) ds

pub cell_fits : (t : Ty) (d : Data) (c : CellData) → cell_of t d ≡ Some c → IsTrue (fits t c)
cell_fits t d c h = subst (λ (o : Option CellData). passes (fits t) o ≡ true) h (cell_passes t d)

pub cells_fit : (t : Ty) (ds : Items) (cs : List CellData) → each (cell_of t) ds ≡ Some cs → IsTrue (all_by (fits t) cs)
cells_fit t ds cs h = subst (λ (o : Option (List CellData)). passes (all_by (fits t)) o ≡ true) h (each_passes (fits t) (cell_of t) (cell_passes t) ds)

pub ruleset fit_rules = (cell_fits, cells_fit)
