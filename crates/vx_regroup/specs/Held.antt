-- What the rules hold, as contracts see it.
use Rattle.std.specs.Prelude.{◌≡◌, ℕ, ◌<◌, List, true, refl}
use Rattle.std.specs.Coded.{Coded, code_by, coded×, coded_ℕ, coded_list}
use base.Stored.{Gv}
use denote.Struct.Codes.{itself}
use Rattle.vx_model.specs.declared.dtype.DType.{DType}
use Rattle.vx_model.specs.Words.{total_by, all_by}
use Rattle.vx_model.specs.Ty.{Ty}
use Rattle.vx_model.specs.CellData.{CellData, cell_size, fits}
use Rattle.vx_model.specs.ChunkData.{ChunkData}
use Rattle.vx_model.specs.TyView.{ty}
use Rattle.vx_model.specs.Codes.{ty_code, ty_of, ty_back}
use Rattle.vx_typed.specs.CellCode.{tree_code, tree_of, tree_back}
use Rattle.vx_chunk.specs.ChunkCode.{piece_code}
use Rattle.vx_chunk.specs.Conditions.{are_of_type}

-- A repartition: rows of a type, which leave in blocks of a multiple of `len` rows and of at least `minimum` bytes.
pub record RowsHeld : Type 0 where
  pub typed : Ty
  pub len : ℕ
  pub minimum : ℕ
  pub rows : List CellData

-- A buffer: chunks, which leave where they take at least twice the size in bytes.
pub record ChunksHeld : Type 0 where
  pub size : ℕ
  pub chunks : List ChunkData

-- A collection: chunks of a type, which leave as one.
pub record AllHeld : Type 0 where
  pub typed : Ty
  pub chunks : List ChunkData

-- ---- of what stands in memory

abbrev pub rows_view : DType → ℕ → ℕ → List CellData → RowsHeld
rows_view dtype len minimum rows = record { typed = ty dtype; len = len; minimum = minimum; rows = rows }

abbrev pub buffer_view : ℕ → List ChunkData → ChunksHeld
buffer_view size chunks = record { size = size; chunks = chunks }

abbrev pub all_view : DType → List ChunkData → AllHeld
all_view dtype chunks = record { typed = ty dtype; chunks = chunks }

-- the block length isn't 0, the rows fit the type, and the total is their size in bytes
pub record RowsStand (h : RowsHeld) (total : ℕ) : Type 0 where
  pub some : 0 < h.len
  pub fit : all_by (fits h.typed) h.rows ≡ true
  pub summed : total ≡ total_by (cell_size h.typed) h.rows

-- the chunks have the type
abbrev pub AllStand : AllHeld → Type 0
AllStand h = are_of_type h.typed h.chunks ≡ true

-- ---- as trees of numbers

abbrev pub type_code : Coded Ty
type_code = code_by Gv itself ty_code ty_of ty_back

abbrev pub cell_code : Coded CellData
cell_code = code_by Gv itself tree_code tree_of tree_back

abbrev pub rows_code : Coded RowsHeld
rows_code =
    code_by (Ty × (ℕ × (ℕ × List CellData))) (coded× type_code (coded× coded_ℕ (coded× coded_ℕ (coded_list cell_code))))
    (λ h. (h.typed, (h.len, (h.minimum, h.rows)))) (λ p. record { typed = p.0; len = p.1.0; minimum = p.1.1.0; rows = p.1.1.1 }) (λ _. refl)

abbrev pub buffer_code : Coded ChunksHeld
buffer_code = code_by (ℕ × List ChunkData) (coded× coded_ℕ (coded_list piece_code)) (λ h. (h.size, h.chunks)) (λ p. record { size = p.0; chunks = p.1 }) (λ _. refl)

abbrev pub all_code : Coded AllHeld
all_code = code_by (Ty × List ChunkData) (coded× type_code (coded_list piece_code)) (λ h. (h.typed, h.chunks)) (λ p. record { typed = p.0; chunks = p.1 }) (λ _. refl)
