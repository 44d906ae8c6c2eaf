-- How deep a chunk is.
use Rattle.std.specs.Prelude.{ℕ, ◌+◌, max}
use Rattle.vx_model.specs.ChunkData.{ChunkData, ChunkList, plain_piece, constant_piece, dict_piece, chunked_piece, list_piece, struct_piece, extension_piece, no_pieces, part}

abbrev mutual
  pub depth : ChunkData → ℕ
  depth (plain_piece t cs) = 0
  depth (constant_piece t c n) = 0
  depth (dict_piece codes values) = max (depth codes) (depth values) + 1
  depth (chunked_piece t ps) = depths ps
  depth (list_piece t e offsets valid) = depth e + 1
  depth (struct_piece t ps valid n) = depths ps
  depth (extension_piece t p) = depth p + 1

  pub depths : ChunkList → ℕ
  depths no_pieces = 0
  depths (part p ps) = max (depth p + 1) (depths ps)
