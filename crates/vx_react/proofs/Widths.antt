-- A chunk of a struct type has as many columns as the type.
use Rattle.std.proofs.Common.{◌≡◌, ℕ, suc, Bool, true, false, ◌==◌, List, [], ◌∷◌, map, length, refl, sym, ap, subst}
use Rattle.std.proofs.lemmas.Bool.{true≢false, and_parts}
use Rattle.vx_model.specs.Ty.{Tys, no_fields, field, fields_in, struct, ty_eq}
use Rattle.vx_model.specs.CellData.{CellData}
use Rattle.vx_model.specs.ChunkData.{ChunkData, plain_piece, constant_piece, dict_piece, chunked_piece, list_piece, struct_piece, extension_piece, pieces_in, piece_type, cells, match_fields, has_fields, is_sound, are_sound}
use Rattle.vx_layout_spec.specs.Parts.{others_of, plain_fields, field_pieces}
use Rattle.vx_rules.specs.Columns.{struct_columns}
use Rattle.vx_react.specs.Splitter.{struct_width}

match_count : (fs : Tys) (ps : List ChunkData) (n : ℕ) → match_fields fs ps n ≡ true → length ps ≡ length (fields_in fs)
match_count no_fields [] n h = refl
match_count no_fields (p ∷ ps) n h = absurd (true≢false (sym h))
match_count (field name t fs) [] n h = absurd (true≢false (sym h))
match_count (field name t fs) (p ∷ ps) n h = ap suc (match_count fs ps n (and_parts (length (cells p) == n) _ (and_parts (ty_eq (piece_type p) t) _ h).1).1)

plain_count : (fs : Tys) (cs : List CellData) → length (plain_fields fs cs) ≡ length (fields_in fs)
plain_count no_fields cs = refl
plain_count (field name t fs) cs = ap suc (plain_count fs (map others_of cs))

-- as many as the type's fields
pub fields_count : (fs : Tys) (m : Bool) (p : ChunkData) → piece_type p ≡ struct fs m → is_sound p ≡ true → length (field_pieces fs p) ≡ length (fields_in fs)
fields_count fs m (struct_piece u ps valid n) is s =
    match_count fs (pieces_in ps) n (subst (λ t. has_fields t (pieces_in ps) n ≡ true) is (and_parts (has_fields u (pieces_in ps) n) _ (and_parts (are_sound ps) _ s).1).0)
fields_count fs m (plain_piece u cs) is s = plain_count fs cs
fields_count fs m (constant_piece u c n) is s = plain_count fs (cells (constant_piece u c n))
fields_count fs m (dict_piece codes values) is s = plain_count fs (cells (dict_piece codes values))
fields_count fs m (chunked_piece u ps) is s = plain_count fs (cells (chunked_piece u ps))
fields_count fs m (list_piece u e offsets valid) is s = plain_count fs (cells (list_piece u e offsets valid))
fields_count fs m (extension_piece u p) is s = plain_count fs (cells (extension_piece u p))

pub columns_count : (fs : Tys) (m : Bool) (p : ChunkData) → length (field_pieces fs p) ≡ length (fields_in fs) → length (struct_columns fs m p) ≡ struct_width fs m
columns_count fs true p h = ap suc h
columns_count fs false p h = h
