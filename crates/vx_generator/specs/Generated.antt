-- The generated table. Row i has the id i, one of 23 cities in turn, and an amount, which is null in each tenth row.
use Rattle.std.specs.Prelude.{ℕ, zero, suc, ◌+◌, ◌-◌, ◌*◌, ◌/◌, ◌%◌, ◌==◌, min, if◌then◌else◌, true, false, List, [], ◌∷◌, ◌++◌, codes, decimal, pos}
use Rattle.vx_model.specs.declared.ptype.PType.TheVariants.{I64}
use Rattle.vx_model.specs.Ty.{Ty, primitive, utf8, struct, tys_of}
use Rattle.vx_model.specs.CellData.{CellData, null_cell, int_cell, text_cell, struct_cell, trees_of}
use Rattle.vx_model.specs.ChunkData.{ChunkData, plain_piece}

abbrev pub table_type : Ty
table_type = struct (tys_of ((codes "id", primitive I64 false) ∷ (codes "city", utf8 false) ∷ (codes "amount", primitive I64 true) ∷ [])) false

abbrev pub city : ℕ → List ℕ
city i = codes "city-" ++ decimal (i % 23)

abbrev pub amount : ℕ → CellData
amount i = if (i % 10) == 9 then null_cell else int_cell (pos ((i * 37) % 1000))

abbrev pub table_row : ℕ → CellData
table_row i = struct_cell true (trees_of (int_cell (pos i) ∷ text_cell (city i) ∷ amount i ∷ []))

-- so many rows, from one on
abbrev pub rows_from : ℕ → ℕ → List CellData
rows_from i zero = []
rows_from i (suc k) = table_row i ∷ rows_from (i + 1) k

-- a batch has a thousand rows, the last one what is left
abbrev pub batch_count : ℕ → ℕ
batch_count rows = (rows + 999) / 1000

-- so many batches of a type, of the rows from one on and before another
abbrev pub batches_from : Ty → ℕ → ℕ → ℕ → List ChunkData
batches_from t zero i end = []
batches_from t (suc k) i end = plain_piece t (rows_from i (min 1000 (end - i))) ∷ batches_from t k (i + 1000) end

-- the batches of a table of so many rows
abbrev pub table_batches : ℕ → List ChunkData
table_batches rows = batches_from table_type (batch_count rows) 0 rows
