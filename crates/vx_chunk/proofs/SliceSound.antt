-- A slice of a sound chunk is sound.
use Rattle.std.proofs.Common.{◌≡◌, ℕ, ◌+◌, ◌-◌, ◌<◌, ◌≤◌, ◌^◌, ◌&&◌, nat_lt, min, Bool, true, false, List, [], ◌∷◌, length, drop, refl, ap, ◌∙◌, arith, eqb-true, eq-eqb, length-take, length-drop}
use Rattle.std.specs.Prelude.{nat_le, ◌==◌, not, if◌then◌else◌}
use Rattle.std.proofs.lemmas.List.{length-map, length-replicate}
use Rattle.std.proofs.lemmas.Bool.{and_from, and_parts}
use Rattle.vx_model.specs.Words.{all_by}
use Rattle.vx_model.specs.Ty.{Ty, Tys, boolean, primitive, utf8, binary, list, struct, extension, no_fields, field, ty_eq, nullable}
use Rattle.vx_model.specs.CellData.{fits}
use Rattle.vx_model.specs.Words.{head_or}
use Rattle.vx_model.specs.ChunkData.{ChunkData, ChunkList, plain_piece, constant_piece, dict_piece, chunked_piece, list_piece, struct_piece, extension_piece, no_pieces, part, pieces_in, piece_type, cells, joined_cells, each_cells, list_rows, picked, is_code, is_chunked, is_simple, is_code_type, is_dict_type, are_parts, are_flags, are_offsets, has_elements, match_fields, has_fields, is_sound, are_sound}
use Rattle.vx_layout_spec.proofs.CellsFit.{all_take, all_drop}
use Rattle.vx_chunk_cells.specs.Window.{window, rebased, last_of, Within}
use Rattle.vx_chunk.specs.Slice.{sliced, sliced_parts, sliced_each}
use Rattle.vx_chunk_cells.proofs.Tests.{below_test}
use Rattle.vx_chunk.proofs.Sound.{of_plain, of_constant, of_dict, of_chunked, of_list, of_struct, of_extension}
use Rattle.vx_chunk_cells.proofs.Windows.{length-window, window-nil}
use Rattle.vx_chunk.proofs.Lengths.{length-list_rows, length-struct_rows}
use Rattle.vx_chunk_cells.proofs.OffsetLaws.{offsets_window, offsets_within, lower}
use Rattle.vx_chunk_cells.proofs.Tests.{le_test}
use Rattle.vx_chunk_cells.proofs.ListSteps.{length-rebased}
use Rattle.vx_chunk.proofs.SliceLaws.{sliced_type, sliced_simple, sliced_chunked, sliced_cells, parts_cells, HasRows, have_fields}

all_window : {X : Type 0} (f : X → Bool) (from to : ℕ) (xs : List X) → all_by f xs ≡ true → all_by f (window from to xs) ≡ true
all_window f from to xs h = all_take f (to - from) (drop from xs) (all_drop f from xs h)

short_window : {X : Type 0} (from to : ℕ) (xs : List X) → length (window from to xs) ≤ length xs
short_window from to xs = simp (length-take, length-drop) (omega arith)

-- offsets counted from their first end within so many elements
rebased_ascend : (base high : ℕ) (os : List ℕ) → Within base high os → 1 ≤ length os → are_offsets (high - base) (rebased base os) ≡ true
rebased_ascend base high [] h some = absurd (omega arith)
rebased_ascend base high (o ∷ []) h some = le_test (o - base) (high - base) (omega (arith, h.1))
rebased_ascend base high (o ∷ p ∷ os) h some =
    and_from (nat_le (o - base) (p - base)) _ (le_test (o - base) (p - base) (omega (arith, h.2.0))) (rebased_ascend base high (p ∷ os) (lower o base high (p ∷ os) h.0 h.2) (omega arith))

sized : (n : Bool) (valid : List Bool) (rows from to : ℕ) → (length valid == (if n then rows else 0)) ≡ true → from ≤ to → to ≤ rows → (length (window from to valid) == (if n then to - from else 0)) ≡ true
sized true valid rows from to h le within =
    let all : length valid ≡ rows = eqb-true (length valid) rows h in
    eq-eqb (length (window from to valid)) (to - from) (length-window from to valid (omega arith))
sized false [] rows from to h le within = rw (window-nil from to) refl
sized false (b ∷ valid) rows from to h le within = let none : length (b ∷ valid) ≡ 0 = eqb-true (length (b ∷ valid)) 0 h in absurd (omega arith)

-- the flags of some of the rows
flags_window : (t : Ty) (valid : List Bool) (rows from to : ℕ) → are_flags t rows valid ≡ true → from ≤ to → to ≤ rows → are_flags t (to - from) (window from to valid) ≡ true
flags_window t valid rows from to h le within = sized (nullable t) valid rows from to h le within

-- one part more where the test holds
sound_choice : (t : Bool) (p : ChunkData) (ps : ChunkList) → is_sound p ≡ true → are_sound ps ≡ true → are_sound (if t then part p ps else ps) ≡ true
sound_choice true p ps h k = and_from (is_sound p) (are_sound ps) h k
sound_choice false p ps h k = k

typed_choice : (t : Bool) (u : Ty) (p : ChunkData) (ps : ChunkList) → (ty_eq (piece_type p) u && not (is_chunked p)) ≡ true → are_parts u (pieces_in ps) ≡ true → are_parts u (pieces_in (if t then part p ps else ps)) ≡ true
typed_choice true u p ps h k = and_from (ty_eq (piece_type p) u && not (is_chunked p)) _ h k
typed_choice false u p ps h k = k

parts_typed : (t : Ty) (ps : ChunkList) (from to : ℕ) → are_parts t (pieces_in ps) ≡ true → are_parts t (pieces_in (sliced_parts ps from to)) ≡ true
parts_typed t no_pieces from to h = refl
parts_typed t (part p ps) from to h =
    let n : ℕ = length (cells p) in
    let here : (ty_eq (piece_type p) t && not (is_chunked p)) ≡ true = (and_parts (ty_eq (piece_type p) t && not (is_chunked p)) _ h).0 in
    typed_choice (nat_lt (min from n) (min to n)) t (sliced p (min from n) (min to n)) (sliced_parts ps (from - n) (to - n)) (rw (sliced_type p (min from n) (min to n), sliced_chunked p (min from n) (min to n)) here)
    (parts_typed t ps (from - n) (to - n) (and_parts (ty_eq (piece_type p) t && not (is_chunked p)) _ h).1)

each_matched : (fs : Tys) (ps : ChunkList) (from to n : ℕ) → are_sound ps ≡ true → match_fields fs (pieces_in ps) n ≡ true → from ≤ to → to ≤ n → match_fields fs (pieces_in (sliced_each ps from to)) (to - from) ≡ true
each_matched no_fields no_pieces from to n s h le within = refl
each_matched no_fields (part p ps) from to n s h le within = cc
each_matched (field name t fs) no_pieces from to n s h le within = cc
each_matched (field name t fs) (part p ps) from to n s h le within =
    let rest : _ ≡ true = (and_parts (ty_eq (piece_type p) t) _ h).1 in
    let same : length (cells p) ≡ n = eqb-true (length (cells p)) n (and_parts (length (cells p) == n) _ rest).0 in
    let cut : cells (sliced p from to) ≡ window from to (cells p) = sliced_cells p from to (and_parts (is_sound p) (are_sound ps) s).0 le (omega arith) in
    let count : length (cells (sliced p from to)) ≡ to - from = ap length cut ∙ length-window from to (cells p) (omega arith) in
    and_from (ty_eq (piece_type (sliced p from to)) t) _ (rw (sliced_type p from to) (and_parts (ty_eq (piece_type p) t) _ h).0)
    (and_from (length (cells (sliced p from to)) == (to - from)) _ (eq-eqb (length (cells (sliced p from to))) (to - from) count)
    (each_matched fs ps from to n (and_parts (is_sound p) (are_sound ps) s).1 (and_parts (length (cells p) == n) _ rest).1 le within))

each_typed : (t : Ty) (ps : ChunkList) (from to n : ℕ) → are_sound ps ≡ true → has_fields t (pieces_in ps) n ≡ true → from ≤ to → to ≤ n → has_fields t (pieces_in (sliced_each ps from to)) (to - from) ≡ true
each_typed (struct fs m) ps from to n s h le within = each_matched fs ps from to n s h le within
each_typed (boolean m) ps from to n s h le within = cc
each_typed (primitive p m) ps from to n s h le within = cc
each_typed (utf8 m) ps from to n s h le within = cc
each_typed (binary m) ps from to n s h le within = cc
each_typed (list t m) ps from to n s h le within = cc
each_typed (extension tag t) ps from to n s h le within = cc

mutual
  pub sliced_sound : (p : ChunkData) (from to : ℕ) → is_sound p ≡ true → from ≤ to → to ≤ length (cells p) → is_sound (sliced p from to) ≡ true
  sliced_sound (plain_piece t cs) from to s le within =
      let h = of_plain t cs s in
      let fewer : length (window from to cs) ≤ length cs = short_window from to cs in
      let short : length cs < 2 ^ 64 = h.short in
      and_from (all_by (fits t) (window from to cs)) _ (all_window (fits t) from to cs h.fit) (below_test (length (window from to cs)) (omega arith))
  sliced_sound (constant_piece t c n) from to s le within =
      let h = of_constant t c n s in
      let rows : to ≤ n = rw (length-replicate n c) at within in
      let short : n < 2 ^ 64 = h.short in
      and_from (fits t c) _ h.fit (below_test (to - from) (omega arith))
  sliced_sound (dict_piece codes values) from to s le within =
      let h = of_dict codes values s in
      let inside : to ≤ length (cells codes) = rw (length-map (cells codes) (picked (cells values))) at within in
      and_from (is_sound (sliced codes from to) && is_sound values) _ (and_from (is_sound (sliced codes from to)) _ (sliced_sound codes from to h.codes_sound le inside) h.values_sound)
      (and_from (is_simple (sliced codes from to) && is_simple values) _ (and_from (is_simple (sliced codes from to)) _ (rw (sliced_simple codes from to) h.codes_simple) h.values_simple)
      (and_from (is_code_type (piece_type (sliced codes from to)) && is_dict_type (piece_type values)) _ (and_from (is_code_type (piece_type (sliced codes from to))) _ (rw (sliced_type codes from to) h.code_type) h.dict_type)
      (rw (sliced_cells codes from to h.codes_sound le inside) (all_window (is_code (length (cells values))) from to (cells codes) h.places))))
  sliced_sound (chunked_piece t ps) from to s le within =
      let h = of_chunked t ps s in
      let fewer : length (window from to (joined_cells ps)) ≤ length (joined_cells ps) = short_window from to (joined_cells ps) in
      let short : length (joined_cells ps) < 2 ^ 64 = h.short in
      and_from (are_sound (sliced_parts ps from to)) _ (parts_sound ps from to h.parts_sound le)
      (and_from (are_parts t (pieces_in (sliced_parts ps from to))) _ (parts_typed t ps from to h.parts)
      (rw (parts_cells ps from to h.parts_sound le) (below_test (length (window from to (joined_cells ps))) (omega arith))))
  sliced_sound (list_piece t e offsets valid) from to s le within =
      let h = of_list t e offsets valid s in
      let some : 1 ≤ length offsets = h.some in
      let short : length offsets < 2 ^ 64 = h.short in
      let rows : length (list_rows (cells e) offsets valid) ≡ length offsets - 1 = length-list_rows (cells e) offsets valid in
      let os : List ℕ = window from (to + 1) offsets in
      let ascend : are_offsets (length (cells e)) (window from (to + 1) offsets) ≡ true = offsets_window (length (cells e)) from to offsets h.ascend le (omega arith) in
      let span = offsets_within (length (cells e)) (window from (to + 1) offsets) ascend in
      let count : length (window from (to + 1) offsets) ≡ to + 1 - from = length-window from (to + 1) offsets (omega arith) in
      let again : length (rebased (head_or 0 os) os) ≡ length os = length-rebased (head_or 0 os) os in
      let same : length (rebased (head_or 0 os) os) - 1 ≡ to - from = omega arith in
      let held : length (cells (sliced e (head_or 0 os) (last_of os))) ≡ last_of os - head_or 0 os =
      ap length (sliced_cells e (head_or 0 os) (last_of os) h.elements_sound span.2 span.1) ∙ length-window (head_or 0 os) (last_of os) (cells e) span.1 in
      and_from (is_sound (sliced e (head_or 0 os) (last_of os))) _ (sliced_sound e (head_or 0 os) (last_of os) h.elements_sound span.2 span.1)
      (and_from (has_elements t (piece_type (sliced e (head_or 0 os) (last_of os)))) _ (rw (sliced_type e (head_or 0 os) (last_of os)) h.elements)
      (and_from (are_offsets (length (cells (sliced e (head_or 0 os) (last_of os)))) (rebased (head_or 0 os) os)) _ (rw held (rebased_ascend (head_or 0 os) (last_of os) os span.0 (omega arith)))
      (and_from (nat_lt (length (rebased (head_or 0 os) os)) (2 ^ 64)) _ (below_test (length (rebased (head_or 0 os) os)) (omega arith))
      (rw same (flags_window t valid (length offsets - 1) from to h.flags le (omega arith))))))
  sliced_sound (struct_piece t ps valid n) from to s le within =
      let h = of_struct t ps valid n s in
      let inside : to ≤ n = rw (length-struct_rows n (each_cells ps) valid) at within in
      let short : n < 2 ^ 64 = h.short in
      and_from (are_sound (sliced_each ps from to)) _ (each_sound ps from to n h.fields_sound le inside (have_fields t ps n h.fields))
      (and_from (has_fields t (pieces_in (sliced_each ps from to)) (to - from)) _ (each_typed t ps from to n h.fields_sound h.fields le inside)
      (and_from (nat_lt (to - from) (2 ^ 64)) _ (below_test (to - from) (omega arith)) (flags_window t valid n from to h.flags le inside)))
  sliced_sound (extension_piece t p) from to s le within =
      let h = of_extension t p s in
      and_from (is_sound (sliced p from to)) _ (sliced_sound p from to h.storage_sound le within) (rw (sliced_type p from to) h.storage)

  parts_sound : (ps : ChunkList) (from to : ℕ) → are_sound ps ≡ true → from ≤ to → are_sound (sliced_parts ps from to) ≡ true
  parts_sound no_pieces from to s le = refl
  parts_sound (part p ps) from to s le =
      let n : ℕ = length (cells p) in
      sound_choice (nat_lt (min from n) (min to n)) (sliced p (min from n) (min to n)) (sliced_parts ps (from - n) (to - n)) (sliced_sound p (min from n) (min to n) (and_parts (is_sound p) (are_sound ps) s).0 (omega arith) (omega arith))
      (parts_sound ps (from - n) (to - n) (and_parts (is_sound p) (are_sound ps) s).1 (omega arith))

  each_sound : (ps : ChunkList) (from to n : ℕ) → are_sound ps ≡ true → from ≤ to → to ≤ n → HasRows n ps → are_sound (sliced_each ps from to) ≡ true
  each_sound no_pieces from to n s le within h = refl
  each_sound (part p ps) from to n s le within h =
      and_from (is_sound (sliced p from to)) _ (sliced_sound p from to (and_parts (is_sound p) (are_sound ps) s).0 le (omega (arith, h.0)))
      (each_sound ps from to n (and_parts (is_sound p) (are_sound ps) s).1 le within h.1)
