-- A chunk that meets the conditions of its constructors has fewer than 2^64 rows.
use Rattle.std.proofs.Common.{◌≡◌, ℕ, ◌+◌, ◌-◌, ◌^◌, ◌<◌, true, length, map, arith, sym}
use Rattle.std.proofs.lemmas.List.{length-map, length-replicate}
use Rattle.vx_model.specs.ChunkData.{ChunkData, plain_piece, constant_piece, dict_piece, chunked_piece, list_piece, struct_piece, extension_piece, cells, each_cells, picked, is_sound}
use Rattle.vx_chunk.proofs.Sound.{of_plain, of_constant, of_dict, of_chunked, of_list, of_struct, of_extension}
use Rattle.vx_chunk.proofs.Lengths.{length-list_rows, length-struct_rows}

pub rows_fit : (p : ChunkData) → is_sound p ≡ true → length (cells p) < 2 ^ 64
rows_fit (plain_piece t cs) s = (of_plain t cs s).short
rows_fit (constant_piece t c n) s = rw (length-replicate n c) (of_constant t c n s).short
rows_fit (dict_piece codes values) s = rw (length-map (cells codes) (picked (cells values))) (rows_fit codes (of_dict codes values s).codes_sound)
rows_fit (chunked_piece t ps) s = (of_chunked t ps s).short
rows_fit (list_piece t e offsets valid) s = let short = (of_list t e offsets valid s).short in rw (length-list_rows (cells e) offsets valid) (omega (arith, short))
rows_fit (struct_piece t ps valid n) s = rw (length-struct_rows n (each_cells ps) valid) (of_struct t ps valid n s).short
rows_fit (extension_piece t p) s = rows_fit p (of_extension t p s).storage_sound
