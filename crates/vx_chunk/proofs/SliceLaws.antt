-- A slice of a sound chunk is sound, and has the cells of its rows.
use Rattle.std.proofs.Common.{◌≡◌, ℕ, ◌+◌, ◌-◌, ◌≤◌, nat_lt, min, Bool, true, false, List, ◌++◌, map, length, drop, refl, sym, ap, ◌∙◌, arith, eqb-true}
use Rattle.std.specs.Prelude.{◌==◌, if◌then◌else◌}
use Rattle.std.proofs.lemmas.List.{length-map, length-replicate, length-take, length-drop}
use Rattle.std.proofs.lemmas.Bool.Decides.{nat_tests}
use Rattle.std.proofs.lemmas.Bool.{and_parts}
use Rattle.vx_model.specs.Words.{head_or}
use Rattle.vx_model.specs.Ty.{Ty, Tys, boolean, primitive, utf8, binary, list, struct, extension, no_fields, field, ty_eq}
use Rattle.vx_model.specs.ChunkData.{ChunkData, ChunkList, plain_piece, constant_piece, dict_piece, chunked_piece, list_piece, struct_piece, extension_piece, no_pieces, part, pieces_in, piece_type, cells, joined_cells, each_cells, list_rows, picked, is_chunked, is_simple, are_offsets, match_fields, has_fields, is_sound, are_sound}
use Rattle.vx_chunk_cells.specs.Window.{window, rebased, last_of}
use Rattle.vx_chunk.specs.Slice.{sliced, sliced_parts, sliced_each}
use Rattle.vx_chunk.proofs.Sound.{of_dict, of_chunked, of_list, of_struct, of_extension}
use Rattle.vx_chunk_cells.proofs.Windows.{window-map, window-replicate, window-append, window-back, window-nil}
use Rattle.vx_chunk_cells.proofs.RowWindows.{window-list_rows, window-struct_rows, list_rows-take_flags, struct_rows-take_flags}
use Rattle.vx_chunk.proofs.Lengths.{length-list_rows, length-struct_rows}
use Rattle.vx_chunk_cells.proofs.OffsetLaws.{offsets_window, offsets_within}
use Rattle.vx_chunk_cells.proofs.ListSteps.{length-rebased}
use Rattle.vx_chunk.proofs.RowGoals.{lists_cut}

-- ---- the type and the encoding stay

pub sliced_type : (p : ChunkData) (from to : ℕ) → piece_type (sliced p from to) ≡ piece_type p
sliced_type (plain_piece t cs) from to = refl
sliced_type (constant_piece t c n) from to = refl
sliced_type (dict_piece codes values) from to = refl
sliced_type (chunked_piece t ps) from to = refl
sliced_type (list_piece t e offsets valid) from to = refl
sliced_type (struct_piece t ps valid n) from to = refl
sliced_type (extension_piece t p) from to = refl

pub sliced_simple : (p : ChunkData) (from to : ℕ) → is_simple (sliced p from to) ≡ is_simple p
sliced_simple (plain_piece t cs) from to = refl
sliced_simple (constant_piece t c n) from to = refl
sliced_simple (dict_piece codes values) from to = refl
sliced_simple (chunked_piece t ps) from to = refl
sliced_simple (list_piece t e offsets valid) from to = refl
sliced_simple (struct_piece t ps valid n) from to = refl
sliced_simple (extension_piece t p) from to = refl

pub sliced_chunked : (p : ChunkData) (from to : ℕ) → is_chunked (sliced p from to) ≡ is_chunked p
sliced_chunked (plain_piece t cs) from to = refl
sliced_chunked (constant_piece t c n) from to = refl
sliced_chunked (dict_piece codes values) from to = refl
sliced_chunked (chunked_piece t ps) from to = refl
sliced_chunked (list_piece t e offsets valid) from to = refl
sliced_chunked (struct_piece t ps valid n) from to = refl
sliced_chunked (extension_piece t p) from to = refl

-- ---- the cells

-- each field has so many rows
abbrev pub HasRows : ℕ → ChunkList → Type 0
HasRows n no_pieces = Unit {0}
HasRows n (part p ps) = (n ≤ length (cells p)) × HasRows n ps

columns_have : (fs : Tys) (ps : ChunkList) (n : ℕ) → match_fields fs (pieces_in ps) n ≡ true → HasRows n ps
columns_have no_fields no_pieces n h = tt
columns_have no_fields (part p ps) n h = cc
columns_have (field name t fs) no_pieces n h = cc
columns_have (field name t fs) (part p ps) n h =
    let rest : _ ≡ true = (and_parts (ty_eq (piece_type p) t) _ h).1 in
    let same : length (cells p) ≡ n = eqb-true (length (cells p)) n (and_parts (length (cells p) == n) _ rest).0 in
    (omega arith, columns_have fs ps n (and_parts (length (cells p) == n) _ rest).1)

pub have_fields : (t : Ty) (ps : ChunkList) (n : ℕ) → has_fields t (pieces_in ps) n ≡ true → HasRows n ps
have_fields (struct fs m) ps n h = columns_have fs ps n h
have_fields (boolean m) ps n h = cc
have_fields (primitive p m) ps n h = cc
have_fields (utf8 m) ps n h = cc
have_fields (binary m) ps n h = cc
have_fields (list t m) ps n h = cc
have_fields (extension tag t) ps n h = cc

pub at_most : (a b : ℕ) → nat_lt a b ≡ false → b ≤ a
at_most a b h = grind (arith, nat_tests)

-- a part with a row there is kept, another isn't
part_choice : (t : Bool) (p q : ChunkData) (rest : ChunkList) (a b : ℕ) → nat_lt a b ≡ t → cells q ≡ window a b (cells p)
    → joined_cells (if t then part q rest else rest) ≡ window a b (cells p) ++ joined_cells rest
part_choice true p q rest a b h e = rw e refl
part_choice false p q rest a b h e = rw (window-back a b (cells p) (at_most a b h)) refl

short_window : (from to : ℕ) (os : List ℕ) → from ≤ to → length (window from (to + 1) os) ≤ (to - from) + 1
short_window from to os le = simp (length-take, length-drop) (omega arith)

mutual
  pub sliced_cells : (p : ChunkData) (from to : ℕ) → is_sound p ≡ true → from ≤ to → to ≤ length (cells p) → cells (sliced p from to) ≡ window from to (cells p)
  sliced_cells (plain_piece t cs) from to s le within = refl
  sliced_cells (constant_piece t c n) from to s le within =
      let rows : to ≤ n = rw (length-replicate n c) at within in
      sym (window-replicate from to n c rows)
  sliced_cells (dict_piece codes values) from to s le within =
      let inside : to ≤ length (cells codes) = rw (length-map (cells codes) (picked (cells values))) at within in
      rw (sliced_cells codes from to (of_dict codes values s).codes_sound le inside) (sym (window-map (picked (cells values)) from to (cells codes)))
  sliced_cells (chunked_piece t ps) from to s le within = parts_cells ps from to (of_chunked t ps s).parts_sound le
  sliced_cells (list_piece t e offsets valid) from to s le within =
      let h = of_list t e offsets valid s in
      let some : 1 ≤ length offsets = h.some in
      let rows : length (list_rows (cells e) offsets valid) ≡ length offsets - 1 = length-list_rows (cells e) offsets valid in
      let os : List ℕ = window from (to + 1) offsets in
      let ascend : are_offsets (length (cells e)) (window from (to + 1) offsets) ≡ true = offsets_window (length (cells e)) from to offsets h.ascend le (omega arith) in
      let span = offsets_within (length (cells e)) (window from (to + 1) offsets) ascend in
      rw (sliced_cells e (head_or 0 os) (last_of os) h.elements_sound span.2 span.1, window-list_rows (cells e) from to offsets valid le, list_rows-take_flags _ (rebased (head_or 0 os) os) (to - from) (drop from valid) (rw (length-rebased (head_or 0 os) os) (short_window from to offsets le)))
      (lists_cut (cells e) os (drop from valid) ascend)
  sliced_cells (struct_piece t ps valid n) from to s le within =
      let h = of_struct t ps valid n s in
      let inside : to ≤ n = rw (length-struct_rows n (each_cells ps) valid) at within in
      rw (fields_cells ps from to n h.fields_sound le inside (have_fields t ps n h.fields), struct_rows-take_flags (to - from) (map (window from to) (each_cells ps)) (drop from valid))
      (sym (window-struct_rows from to n (each_cells ps) valid le inside))
  sliced_cells (extension_piece t p) from to s le within = sliced_cells p from to (of_extension t p s).storage_sound le within

  pub parts_cells : (ps : ChunkList) (from to : ℕ) → are_sound ps ≡ true → from ≤ to → joined_cells (sliced_parts ps from to) ≡ window from to (joined_cells ps)
  parts_cells no_pieces from to s le = sym (window-nil from to)
  parts_cells (part p ps) from to s le =
      let n : ℕ = length (cells p) in
      let here : cells (sliced p (min from n) (min to n)) ≡ window (min from n) (min to n) (cells p) = sliced_cells p (min from n) (min to n) (and_parts (is_sound p) (are_sound ps) s).0 (omega arith) (omega arith) in
      let there : joined_cells (sliced_parts ps (from - n) (to - n)) ≡ window (from - n) (to - n) (joined_cells ps) = parts_cells ps (from - n) (to - n) (and_parts (is_sound p) (are_sound ps) s).1 (omega arith) in
      part_choice (nat_lt (min from n) (min to n)) p (sliced p (min from n) (min to n)) (sliced_parts ps (from - n) (to - n)) (min from n) (min to n) refl here
      ∙ ap (λ r. window (min from n) (min to n) (cells p) ++ r) there ∙ sym (window-append from to (cells p) (joined_cells ps))

  fields_cells : (ps : ChunkList) (from to n : ℕ) → are_sound ps ≡ true → from ≤ to → to ≤ n → HasRows n ps → each_cells (sliced_each ps from to) ≡ map (window from to) (each_cells ps)
  fields_cells no_pieces from to n s le within h = refl
  fields_cells (part p ps) from to n s le within h =
      rw (sliced_cells p from to (and_parts (is_sound p) (are_sound ps) s).0 le (omega (arith, h.0)), fields_cells ps from to n (and_parts (is_sound p) (are_sound ps) s).1 le within h.1) refl
