-- The splitters of structs and of lists: each column of a chunk goes to the place of its number.
use Rattle.std.specs.Prelude.{ℕ, suc, ◌+◌, Bool, true, false, if◌then◌else◌, List, [], ◌∷◌, ◌++◌, length}
use Rattle.vx_model.specs.Ty.{Ty, Tys, fields_in}
use Rattle.vx_model.specs.ChunkData.{ChunkData, cells}
use Rattle.vx_layout_spec.specs.Parts.{all_elements}
use Rattle.vx_rules.specs.Columns.{struct_columns, list_columns, Split}
use Rattle.vx_react.specs.declared.place.Place.TheVariants.{Column}
use Rattle.vx_react.specs.Reactor.{Output, Reactor, Sent, placed}

-- the columns from number k on
abbrev pub column_outputs : ℕ → List ChunkData → List Output
column_outputs k [] = []
column_outputs k (p ∷ ps) = (Column k, p) ∷ column_outputs (suc k) ps

-- what is sent of chunks that are split
abbrev pub split_sends : List Split → List Sent
split_sends [] = []
split_sends (x ∷ xs) = placed x.0 0 (column_outputs 0 x.1) ++ split_sends xs

-- ---- structs, which need no state

abbrev pub struct_splitter : Tys → Bool → Reactor (Unit {0})
struct_splitter fs n = record {
  start = tt;
  gives = λ s c last. column_outputs 0 (struct_columns fs n c);
  holds = λ s c. tt;
}

-- how many columns: the fields, and validity where the type is nullable
abbrev pub struct_width : Tys → Bool → ℕ
struct_width fs n = if n then suc (length (fields_in fs)) else length (fields_in fs)

-- ---- lists

-- whether the first chunk is still to come, and how many elements the chunks so far have
pub record Splitting : Type 0 where
  pub first : Bool
  pub base : ℕ

abbrev pub list_splitter : Ty → Bool → Reactor Splitting
list_splitter t n = record {
  start = record { first = true; base = 0 };
  gives = λ s c last. column_outputs 0 (list_columns t n s.first s.base c);
  holds = λ s c. record { first = false; base = s.base + length (all_elements (cells c)) };
}

-- how many columns: elements, offsets, and validity where the type is nullable
abbrev pub list_width : Bool → ℕ
list_width n = if n then 3 else 2
