-- A chunk cut to some of its rows, in the same encoding.
use Rattle.std.specs.Prelude.{ℕ, ◌+◌, ◌-◌, min, nat_lt, if◌then◌else◌, length}
use Rattle.vx_model.specs.Words.{head_or}
use Rattle.vx_model.specs.ChunkData.{ChunkData, ChunkList, plain_piece, constant_piece, dict_piece, chunked_piece, list_piece, struct_piece, extension_piece, no_pieces, part, cells}
use Rattle.vx_chunk_cells.specs.Window.{window, rebased, last_of}

-- a list's elements are cut to those of its rows, and its offsets begin at 0; a chunked one keeps the parts that have a row there
abbrev mutual
  pub sliced : ChunkData → ℕ → ℕ → ChunkData
  sliced (plain_piece t cs) from to = plain_piece t (window from to cs)
  sliced (constant_piece t c n) from to = constant_piece t c (to - from)
  sliced (dict_piece codes values) from to = dict_piece (sliced codes from to) values
  sliced (chunked_piece t ps) from to = chunked_piece t (sliced_parts ps from to)
  sliced (list_piece t e offsets valid) from to =
      list_piece t (sliced e (head_or 0 (window from (to + 1) offsets)) (last_of (window from (to + 1) offsets)))
      (rebased (head_or 0 (window from (to + 1) offsets)) (window from (to + 1) offsets)) (window from to valid)
  sliced (struct_piece t ps valid n) from to = struct_piece t (sliced_each ps from to) (window from to valid) (to - from)
  sliced (extension_piece t p) from to = extension_piece t (sliced p from to)

  pub sliced_parts : ChunkList → ℕ → ℕ → ChunkList
  sliced_parts no_pieces from to = no_pieces
  sliced_parts (part p ps) from to =
      if nat_lt (min from (length (cells p))) (min to (length (cells p)))
      then part (sliced p (min from (length (cells p))) (min to (length (cells p)))) (sliced_parts ps (from - length (cells p)) (to - length (cells p)))
      else sliced_parts ps (from - length (cells p)) (to - length (cells p))

  pub sliced_each : ChunkList → ℕ → ℕ → ChunkList
  sliced_each no_pieces from to = no_pieces
  sliced_each (part p ps) from to = part (sliced p from to) (sliced_each ps from to)
