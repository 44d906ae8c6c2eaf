-- What some of a chunk's rows count for, from its parts.
use Rattle.std.specs.Prelude.{ℕ, ◌+◌, ◌-◌, ◌*◌, min, length, map}
use Rattle.vx_model.specs.Words.{total_by, head_or}
use Rattle.vx_model.specs.Ty.{nullable}
use Rattle.vx_model.specs.CellData.{cell_size, null_byte}
use Rattle.vx_model.specs.ChunkData.{ChunkData, ChunkList, plain_piece, constant_piece, dict_piece, chunked_piece, list_piece, struct_piece, extension_piece, no_pieces, part, piece_type, cells, picked}
use Rattle.vx_chunk_cells.specs.Window.{window, last_of}

-- rows `from` to `to`: a list's offset of 8 bytes a row and the elements between, a struct's fields, and one byte a row where null may be
abbrev mutual
  pub span_size : ChunkData → ℕ → ℕ → ℕ
  span_size (plain_piece t cs) from to = total_by (cell_size t) (window from to cs)
  span_size (constant_piece t c n) from to = (to - from) * cell_size t c
  span_size (dict_piece codes values) from to = total_by (cell_size (piece_type values)) (map (picked (cells values)) (window from to (cells codes)))
  span_size (chunked_piece t ps) from to = span_sizes ps from to
  span_size (list_piece t e offsets valid) from to =
      span_size e (head_or 0 (window from (to + 1) offsets)) (last_of (window from (to + 1) offsets)) + (to - from) * (8 + null_byte (nullable t))
  span_size (struct_piece t ps valid n) from to = each_span_size ps from to + (to - from) * null_byte (nullable t)
  span_size (extension_piece t p) from to = span_size p from to

  -- of parts one behind the other
  pub span_sizes : ChunkList → ℕ → ℕ → ℕ
  span_sizes no_pieces from to = 0
  span_sizes (part p ps) from to = span_size p (min from (length (cells p))) (min to (length (cells p))) + span_sizes ps (from - length (cells p)) (to - length (cells p))

  -- of columns beside each other
  pub each_span_size : ChunkList → ℕ → ℕ → ℕ
  each_span_size no_pieces from to = 0
  each_span_size (part p ps) from to = span_size p from to + each_span_size ps from to
