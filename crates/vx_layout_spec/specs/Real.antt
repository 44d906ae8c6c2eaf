-- The cells that a chunk in memory can hold: texts are UTF-8, bytes are below 256, and lengths fit 64 bits.
use Rattle.std.specs.Prelude.{ℕ, ◌^◌, ◌≡◌, ◌&&◌, nat_lt, Bool, true, length, IsTrue, refl}
use Rattle.std.specs.Str.{is_utf8}
use Rattle.vx_model.specs.Words.{all_by}
use Rattle.vx_model.specs.Ty.{Ty}
use Rattle.vx_model.specs.CellData.{CellData, CellList, null_cell, bool_cell, int_cell, text_cell, bytes_cell, list_cell, struct_cell, no_cells, cell, items}
use Rattle.vx_model.specs.ChunkData.{ChunkData, ChunkList, plain_piece, constant_piece, dict_piece, chunked_piece, list_piece, struct_piece, extension_piece, no_pieces, part, piece_type, row_values, is_sound}

abbrev pub is_byte : ℕ → Bool
is_byte n = nat_lt n 256

-- a length that fits 64 bits
abbrev pub is_length : ℕ → Bool
is_length n = nat_lt n (2 ^ 64)

abbrev mutual
  pub is_real_cell : CellData → Bool
  is_real_cell null_cell = true
  is_real_cell (bool_cell b) = true
  is_real_cell (int_cell i) = true
  is_real_cell (text_cell s) = is_utf8 s && is_length (length s)
  is_real_cell (bytes_cell s) = all_by is_byte s && is_length (length s)
  is_real_cell (list_cell valid cs) = are_real_cells cs && is_length (length (items cs))
  is_real_cell (struct_cell valid cs) = are_real_cells cs

  pub are_real_cells : CellList → Bool
  are_real_cells no_cells = true
  are_real_cells (cell c cs) = is_real_cell c && are_real_cells cs

-- each cell that the chunk keeps is such a cell
abbrev mutual
  pub is_real : ChunkData → Bool
  is_real (plain_piece t cs) = all_by is_real_cell cs
  is_real (constant_piece t c n) = is_real_cell c
  is_real (dict_piece codes values) = is_real codes && is_real values
  is_real (chunked_piece t ps) = are_real ps
  is_real (list_piece t e offsets valid) = is_real e
  is_real (struct_piece t ps valid n) = are_real ps
  is_real (extension_piece t p) = is_real p

  pub are_real : ChunkList → Bool
  are_real no_pieces = true
  are_real (part p ps) = is_real p && are_real ps

-- A chunk that can be in memory: it meets the conditions of its constructors, and its cells are real.
pub record Whole (p : ChunkData) : Type 0 where
  pub sound : IsTrue (is_sound p)
  pub real : IsTrue (is_real p)

-- a whole chunk of the type
pub record Of (t : Ty) (p : ChunkData) : Type 0 where
  pub typed : piece_type p ≡ t
  pub whole : Whole p

-- q is a whole chunk with the type and the row values of p
pub record SameRows (p q : ChunkData) : Type 0 where
  pub whole : Whole q
  pub type : piece_type q ≡ piece_type p
  pub values : row_values q ≡ row_values p

pub same_rows : (p : ChunkData) → Whole p → SameRows p p
same_rows p whole = record { whole = whole; type = refl; values = refl }
