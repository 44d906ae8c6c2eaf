-- Chunks as trees of numbers, one to one: by this a proof tells two chunks apart.
use Rattle.std.specs.Prelude.{◌≡◌, zero, suc, false, [], refl}
use Rattle.std.specs.Coded.{Coded, code_by}
use base.Stored.{Gv, gnil, gnum, gcons}
use denote.Struct.Codes.{itself}
use Rattle.vx_model.specs.Ty.{boolean}
use Rattle.vx_model.specs.ChunkData.{ChunkData, ChunkList, plain_piece, constant_piece, dict_piece, chunked_piece, list_piece, struct_piece, extension_piece, no_pieces, part}
use Rattle.vx_model.specs.Codes.{number_of, numbers, numbers_of, numbers_back, flags, flags_of, flags_back, ty_code, ty_of, ty_back}
use Rattle.vx_typed.specs.CellCode.{tree_code, tree_of, tree_back, cells_code, cells_of, cells_back}

abbrev mutual
  pub to_code : ChunkData → Gv
  to_code (plain_piece t cs) = gcons (gnum 0) (gcons (ty_code t) (cells_code cs))
  to_code (constant_piece t c n) = gcons (gnum 1) (gcons (ty_code t) (gcons (tree_code c) (gnum n)))
  to_code (dict_piece codes values) = gcons (gnum 2) (gcons (to_code codes) (to_code values))
  to_code (chunked_piece t ps) = gcons (gnum 3) (gcons (ty_code t) (to_codes ps))
  to_code (list_piece t e offsets valid) = gcons (gnum 4) (gcons (ty_code t) (gcons (to_code e) (gcons (numbers offsets) (flags valid))))
  to_code (struct_piece t ps valid n) = gcons (gnum 5) (gcons (ty_code t) (gcons (to_codes ps) (gcons (flags valid) (gnum n))))
  to_code (extension_piece t p) = gcons (gnum 6) (gcons (ty_code t) (to_code p))

  pub to_codes : ChunkList → Gv
  to_codes no_pieces = gnil
  to_codes (part p ps) = gcons (to_code p) (to_codes ps)

abbrev pub nothing : ChunkData
nothing = plain_piece (boolean false) []

abbrev mutual
  pub of_code : Gv → ChunkData
  of_code (gcons (gnum zero) (gcons t cs)) = plain_piece (ty_of t) (cells_of cs)
  of_code (gcons (gnum (suc zero)) (gcons t (gcons c n))) = constant_piece (ty_of t) (tree_of c) (number_of n)
  of_code (gcons (gnum (suc (suc zero))) (gcons codes values)) = dict_piece (of_code codes) (of_code values)
  of_code (gcons (gnum (suc (suc (suc zero)))) (gcons t ps)) = chunked_piece (ty_of t) (of_codes ps)
  of_code (gcons (gnum (suc (suc (suc (suc zero))))) (gcons t (gcons e (gcons offsets valid)))) = list_piece (ty_of t) (of_code e) (numbers_of offsets) (flags_of valid)
  of_code (gcons (gnum (suc (suc (suc (suc (suc zero)))))) (gcons t (gcons ps (gcons valid n)))) = struct_piece (ty_of t) (of_codes ps) (flags_of valid) (number_of n)
  of_code (gcons (gnum (suc (suc (suc (suc (suc (suc k))))))) (gcons t p)) = extension_piece (ty_of t) (of_code p)
  of_code g = nothing

  pub of_codes : Gv → ChunkList
  of_codes (gcons p ps) = part (of_code p) (of_codes ps)
  of_codes g = no_pieces

mutual
  pub code_back : (p : ChunkData) → of_code (to_code p) ≡ p
  code_back (plain_piece t cs) = cc (ty_back t, cells_back cs)
  code_back (constant_piece t c n) = cc (ty_back t, tree_back c)
  code_back (dict_piece codes values) = cc (code_back codes, code_back values)
  code_back (chunked_piece t ps) = cc (ty_back t, codes_back ps)
  code_back (list_piece t e offsets valid) = cc (ty_back t, code_back e, numbers_back offsets, flags_back valid)
  code_back (struct_piece t ps valid n) = cc (ty_back t, codes_back ps, flags_back valid)
  code_back (extension_piece t p) = cc (ty_back t, code_back p)

  pub codes_back : (ps : ChunkList) → of_codes (to_codes ps) ≡ ps
  codes_back no_pieces = refl
  codes_back (part p ps) = cc (code_back p, codes_back ps)

abbrev pub piece_code : Coded ChunkData
piece_code = code_by Gv itself to_code of_code code_back
