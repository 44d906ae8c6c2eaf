-- The cells of a sound chunk fit its type, and they are fewer than 2^64.
use Rattle.std.proofs.Common.{◌≡◌, ℕ, zero, suc, ◌-◌, ◌<◌, ◌^◌, ◌⊎◌, ◌&&◌, nat_lt, Bool, true, false, List, [], ◌∷◌, ◌++◌, map, length, take, drop, refl, sym, ap, ◌∙◌, subst, inl, inr, arith, eqb-true}
use Rattle.std.specs.Prelude.{replicate, pos, negsuc, ◌==◌, if◌then◌else◌}
use Rattle.std.proofs.lemmas.List.{length-map, length-replicate}
use Rattle.std.proofs.lemmas.Bool.{true≢false, and_from, and_parts}
use Rattle.std.proofs.lemmas.Bool.Decides.{nat_tests}
use Rattle.vx_model.specs.Words.{all_by, head_or, tail}
use Rattle.vx_model.specs.Ty.{Ty, Tys, boolean, primitive, utf8, binary, list, struct, extension, no_fields, field, ty_eq}
use Rattle.vx_model.specs.TyLaws.{ty_eq_decides}
use Rattle.vx_model.specs.CellData.{CellData, null_cell, bool_cell, int_cell, text_cell, bytes_cell, list_cell, struct_cell, trees_of, items, fits, fields_fit, struct_fits, list_fits, flag_fits}
use Rattle.vx_model.specs.ChunkData.{ChunkData, ChunkList, plain_piece, constant_piece, dict_piece, chunked_piece, list_piece, struct_piece, extension_piece, no_pieces, part, pieces_in, piece_type, cells, joined_cells, each_cells, list_rows, struct_rows, picked, cell_at, is_code, are_parts, match_fields, is_sound, are_sound}
use Rattle.vx_model.proofs.CellViews.{items_trees_of}
use Rattle.vx_layout_spec.proofs.CellsFit.{all_append, all_replicate, dict_all, flags_ok, list_rows_fit, ColumnsFit, struct_rows_fit}
use Rattle.vx_chunk.proofs.Sound.{of_plain, of_constant, of_dict, of_chunked, of_list, of_struct, of_extension}
use Rattle.vx_chunk.proofs.Lengths.{length-list_rows, length-struct_rows}

-- Cells that a plain chunk of the type can hold
pub record Fine (t : Ty) (cs : List CellData) : Type 0 where
  pub fit : all_by (fits t) cs ≡ true
  pub short : length cs < 2 ^ 64

-- ---- every chunk

pub of_type : (s t : Ty) → ty_eq s t ≡ true → s ≡ t
of_type s t e = (ty_eq_decides s t).0 e

mutual
  fine : (p : ChunkData) → is_sound p ≡ true → Fine (piece_type p) (cells p)
  fine (plain_piece t cs) s = let h = of_plain t cs s in record { fit = h.fit; short = h.short }
  fine (constant_piece t c n) s =
      let h = of_constant t c n s in
      record { fit = all_replicate (fits t) n c h.fit; short = rw (length-replicate n c) h.short }
  fine (dict_piece codes values) s =
      let h = of_dict codes values s in
      let c : Fine (piece_type codes) (cells codes) = fine codes h.codes_sound in
      let v : Fine (piece_type values) (cells values) = fine values h.values_sound in
      record { fit = dict_all (fits (piece_type values)) (cells values) (cells codes) v.fit h.places; short = rw (length-map (cells codes) (picked (cells values))) c.short }
  fine (chunked_piece t ps) s = let h = of_chunked t ps s in record { fit = parts_fit t ps h.parts_sound h.parts; short = h.short }
  fine (list_piece (list t m) e offsets valid) s =
      let h = of_list (list t m) e offsets valid s in
      let same : piece_type e ≡ t = sym (of_type t (piece_type e) h.elements) in
      let f : Fine (piece_type e) (cells e) = fine e h.elements_sound in
      let rows : length (list_rows (cells e) offsets valid) ≡ length offsets - 1 = length-list_rows (cells e) offsets valid in
      let short : length offsets < 2 ^ 64 = h.short in
      record {
        fit = list_rows_fit t m (cells e) offsets valid (subst (λ u. all_by (fits u) (cells e) ≡ true) same f.fit) (flags_ok m (length offsets - 1) valid h.flags);
        short = omega arith;
      }
  fine (list_piece (boolean m) e offsets valid) s = absurd (true≢false (sym (of_list (boolean m) e offsets valid s).elements))
  fine (list_piece (primitive p m) e offsets valid) s = absurd (true≢false (sym (of_list (primitive p m) e offsets valid s).elements))
  fine (list_piece (utf8 m) e offsets valid) s = absurd (true≢false (sym (of_list (utf8 m) e offsets valid s).elements))
  fine (list_piece (binary m) e offsets valid) s = absurd (true≢false (sym (of_list (binary m) e offsets valid s).elements))
  fine (list_piece (struct fs m) e offsets valid) s = absurd (true≢false (sym (of_list (struct fs m) e offsets valid s).elements))
  fine (list_piece (extension tag t) e offsets valid) s = absurd (true≢false (sym (of_list (extension tag t) e offsets valid s).elements))
  fine (struct_piece (struct fs m) ps valid n) s =
      let h = of_struct (struct fs m) ps valid n s in
      record {
        fit = struct_rows_fit fs m n (each_cells ps) valid (fields_columns fs ps n h.fields_sound h.fields) (flags_ok m n valid h.flags);
        short = rw (length-struct_rows n (each_cells ps) valid) h.short;
      }
  fine (struct_piece (boolean m) ps valid n) s = absurd (true≢false (sym (of_struct (boolean m) ps valid n s).fields))
  fine (struct_piece (primitive p m) ps valid n) s = absurd (true≢false (sym (of_struct (primitive p m) ps valid n s).fields))
  fine (struct_piece (utf8 m) ps valid n) s = absurd (true≢false (sym (of_struct (utf8 m) ps valid n s).fields))
  fine (struct_piece (binary m) ps valid n) s = absurd (true≢false (sym (of_struct (binary m) ps valid n s).fields))
  fine (struct_piece (list t m) ps valid n) s = absurd (true≢false (sym (of_struct (list t m) ps valid n s).fields))
  fine (struct_piece (extension tag t) ps valid n) s = absurd (true≢false (sym (of_struct (extension tag t) ps valid n s).fields))
  fine (extension_piece (extension tag t) p) s =
      let h = of_extension (extension tag t) p s in
      let same : piece_type p ≡ t = sym (of_type t (piece_type p) h.storage) in
      let f : Fine (piece_type p) (cells p) = fine p h.storage_sound in
      record { fit = subst (λ u. all_by (fits u) (cells p) ≡ true) same f.fit; short = f.short }
  fine (extension_piece (boolean m) p) s = absurd (true≢false (sym (of_extension (boolean m) p s).storage))
  fine (extension_piece (primitive q m) p) s = absurd (true≢false (sym (of_extension (primitive q m) p s).storage))
  fine (extension_piece (utf8 m) p) s = absurd (true≢false (sym (of_extension (utf8 m) p s).storage))
  fine (extension_piece (binary m) p) s = absurd (true≢false (sym (of_extension (binary m) p s).storage))
  fine (extension_piece (list t m) p) s = absurd (true≢false (sym (of_extension (list t m) p s).storage))
  fine (extension_piece (struct fs m) p) s = absurd (true≢false (sym (of_extension (struct fs m) p s).storage))

  parts_fit : (t : Ty) (ps : ChunkList) → are_sound ps ≡ true → are_parts t (pieces_in ps) ≡ true → all_by (fits t) (joined_cells ps) ≡ true
  parts_fit t no_pieces s h = refl
  parts_fit t (part p ps) s h =
      let typed : piece_type p ≡ t = of_type (piece_type p) t (and_parts (ty_eq (piece_type p) t) _ (and_parts (ty_eq (piece_type p) t && _) _ h).0).0 in
      let f : Fine (piece_type p) (cells p) = fine p (and_parts (is_sound p) (are_sound ps) s).0 in
      all_append (fits t) (cells p) (joined_cells ps) (subst (λ u. all_by (fits u) (cells p) ≡ true) typed f.fit)
      (parts_fit t ps (and_parts (is_sound p) (are_sound ps) s).1 (and_parts _ (are_parts t (pieces_in ps)) h).1)

  fields_columns : (fs : Tys) (ps : ChunkList) (n : ℕ) → are_sound ps ≡ true → match_fields fs (pieces_in ps) n ≡ true → ColumnsFit fs (each_cells ps) n
  fields_columns no_fields no_pieces n s h = tt
  fields_columns no_fields (part p ps) n s h = cc
  fields_columns (field name t fs) no_pieces n s h = cc
  fields_columns (field name t fs) (part p ps) n s h =
      let typed : piece_type p ≡ t = of_type (piece_type p) t (and_parts (ty_eq (piece_type p) t) _ h).0 in
      let rest : _ ≡ true = (and_parts (ty_eq (piece_type p) t) _ h).1 in
      let f : Fine (piece_type p) (cells p) = fine p (and_parts (is_sound p) (are_sound ps) s).0 in (
        subst (λ u. all_by (fits u) (cells p) ≡ true) typed f.fit,
        eqb-true (length (cells p)) n (and_parts (length (cells p) == n) _ rest).0,
        fields_columns fs ps n (and_parts (is_sound p) (are_sound ps) s).1 (and_parts (length (cells p) == n) _ rest).1,
      )

pub cells_fit : (p : ChunkData) → is_sound p ≡ true → all_by (fits (piece_type p)) (cells p) ≡ true
cells_fit p s = (fine p s).fit

pub cells_short : (p : ChunkData) → is_sound p ≡ true → length (cells p) < 2 ^ 64
cells_short p s = (fine p s).short
