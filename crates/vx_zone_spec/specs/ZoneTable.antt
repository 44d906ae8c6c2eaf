-- The zone table: a column an aggregate, a row a zone.
use Rattle.std.specs.Prelude.{ℕ, Bool, true, false, if◌then◌else◌, List, [], ◌∷◌, map, Option, Some, None}
use Rattle.vx_model.specs.Words.{all_by, head_or, tail}
use Rattle.vx_model.specs.Ty.{Ty, Tys, struct, no_fields, field}
use Rattle.vx_model.specs.CellData.{CellData, null_cell, bool_cell, int_cell, text_cell, bytes_cell}
use Rattle.vx_model.specs.ValueData.{ValueData, null_value, bool_value, int_value, text_value, bytes_value, is_null_value}
use Rattle.vx_model.specs.ChunkData.{ChunkData, plain_piece, struct_piece, pieces_of}
use Rattle.vx_path.specs.Sort.{sort_by}
use Rattle.vx_layout_spec.specs.LayoutTree.{Spec}
use Rattle.vx_aggregate_spec.specs.Aggregate.{Aggregate, Column, display, spec}

-- an aggregate, the type of its values, and its value in each zone
pub record Filled : Type 0 where
  pub aggregate : Aggregate
  pub state : Ty
  pub values : List ValueData

abbrev pub name_of : Filled → List ℕ
name_of c = display c.aggregate

abbrev pub filled : List Column → List (List ValueData) → List Filled
filled [] records = []
filled (a ∷ columns) records = record { aggregate = a.0; state = a.1; values = map (head_or null_value) records } ∷ filled columns (map tail records)

-- those that aren't null in every zone
abbrev pub some_values : List Filled → List Filled
some_values [] = []
some_values (c ∷ cs) = if all_by is_null_value c.values then some_values cs else c ∷ some_values cs

abbrev pub ordered : List Filled → List Filled
ordered cs = sort_by name_of cs

abbrev pub state_cell : ValueData → CellData
state_cell (bool_value b) = bool_cell b
state_cell (int_value n) = int_cell n
state_cell (text_value s) = text_cell s
state_cell (bytes_value s) = bytes_cell s
state_cell v = null_cell

abbrev pub table_fields : List Filled → Tys
table_fields [] = no_fields
table_fields (c ∷ cs) = field (name_of c) c.state (table_fields cs)

abbrev pub table_type : List Filled → Ty
table_type cs = struct (table_fields cs) false

abbrev pub table_columns : List Filled → List ChunkData
table_columns [] = []
table_columns (c ∷ cs) = plain_piece c.state (map state_cell c.values) ∷ table_columns cs

abbrev pub table_specs : List Filled → List Spec
table_specs [] = []
table_specs (c ∷ cs) = spec c.aggregate ∷ table_specs cs

-- the columns, ordered by their names; nothing where no zone or no column is left
abbrev pub any_columns : List Filled → Option (List Filled)
any_columns [] = None
any_columns (c ∷ cs) = Some (c ∷ cs)

abbrev pub kept_columns : List Column → List (List ValueData) → Option (List Filled)
kept_columns columns [] = None
kept_columns columns (r ∷ records) = any_columns (ordered (some_values (filled columns (r ∷ records))))

-- a struct chunk of plain columns
abbrev pub table_piece : List Filled → ℕ → ChunkData
table_piece cs zones = struct_piece (table_type cs) (pieces_of (table_columns cs)) [] zones
