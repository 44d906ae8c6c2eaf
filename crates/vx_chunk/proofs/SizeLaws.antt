-- What rows count for by the parts is the sum over their cells.
use Rattle.std.proofs.Common.{◌≡◌, ℕ, zero, suc, ◌+◌, ◌-◌, ◌*◌, ◌≤◌, ◌&&◌, min, Bool, true, List, [], ◌∷◌, ◌++◌, length, take, drop, map, refl, sym, ap, ◌∙◌, subst, arith, eqb-true}
use Rattle.std.specs.Prelude.{◌==◌}
use Rattle.std.proofs.lemmas.List.{length-replicate, take_all, drop-drop}
use Rattle.std.proofs.lemmas.Bool.{true≢false, and_parts}
use Rattle.vx_model.specs.Words.{total_by, head_or, tail}
use Rattle.vx_model.specs.Ty.{Ty, Tys, boolean, primitive, utf8, binary, list, struct, extension, no_fields, field, ty_eq}
use Rattle.vx_model.specs.CellData.{CellData, null_cell, trees_of, items, cell_size, fields_size, list_size, struct_size, null_byte}
use Rattle.vx_model.specs.ChunkData.{ChunkData, ChunkList, plain_piece, constant_piece, dict_piece, chunked_piece, list_piece, struct_piece, extension_piece, no_pieces, part, pieces_in, piece_type, cells, joined_cells, each_cells, list_rows, struct_rows, picked, row_size, are_parts, match_fields, is_sound, are_sound}
use Rattle.vx_model.proofs.CellViews.{items_trees_of}
use Rattle.vx_chunk_cells.specs.Window.{window, last_of, Within}
use Rattle.vx_chunk_cells.proofs.Windows.{window-map, window-replicate, window-append, window-nil, window-none, window-all, length-window}
use Rattle.vx_chunk_cells.proofs.RowWindows.{window-list_rows, window-struct_rows}
use Rattle.vx_chunk_cells.proofs.SizeSteps.{total-append, total-replicate}
use Rattle.vx_chunk.specs.Sizes.{span_size, span_sizes, each_span_size}
use Rattle.vx_chunk.proofs.Sound.{of_chunked, of_list, of_struct, of_extension}
use Rattle.vx_chunk.proofs.CellsFit.{of_type}
use Rattle.vx_chunk.proofs.Lengths.{length-list_rows, length-struct_rows}
use Rattle.vx_chunk_cells.proofs.OffsetLaws.{offsets_window, offsets_within}

-- ---- lists

take_both : {X : Type 0} (m n : ℕ) (xs : List X) → take (m + n) xs ≡ take m xs ++ take n (drop m xs)
take_both zero n xs = let e : 0 + n ≡ n = omega arith in rw e refl
take_both {X} (suc m) n [] = rw (take_all {A = X} (suc m + n) [] (omega arith), take_all {A = X} n [] (omega arith)) refl
take_both (suc m) n (x ∷ xs) = let e : suc m + n ≡ suc (m + n) = omega arith in rw e (ap (λ r. x ∷ r) (take_both m n xs))

-- two spans one behind the other
pub joined_spans : {X : Type 0} (a b c : ℕ) (xs : List X) → a ≤ b → b ≤ c → window a c xs ≡ window a b xs ++ window b c xs
joined_spans a b c xs le more =
    let e : c - a ≡ (b - a) + (c - b) = omega arith in
    let f : a + (b - a) ≡ b = omega arith in
    rw (e, take_both (b - a) (c - b) (drop a xs), drop-drop (b - a) a xs, f) refl

more_times : (k w : ℕ) → suc k * w ≡ w + k * w
more_times k w = omega arith

list_total : (m : Bool) (f : CellData → ℕ) (es : List CellData) (low : ℕ) (os : List ℕ) (v : List Bool) → Within low (last_of os) os → 1 ≤ length os
    → total_by (list_size m f) (list_rows es os v) ≡ total_by f (window (head_or 0 os) (last_of os) es) + (length os - 1) * (8 + null_byte m)
list_total m f es low [] v h some = absurd (omega arith)
list_total m f es low (a ∷ []) v h some = rw (window-none a es) (omega arith)
list_total m f es low (a ∷ b ∷ os) v h some =
    let rest : total_by (list_size m f) (list_rows es (b ∷ os) (tail v)) ≡ total_by f (window b (last_of (b ∷ os)) es) + (length (b ∷ os) - 1) * (8 + null_byte m) =
    list_total m f es a (b ∷ os) (tail v) h.2 (omega arith) in
    let whole : total_by f (window a (last_of (b ∷ os)) es) ≡ total_by f (window a b es) + total_by f (window b (last_of (b ∷ os)) es) =
    ap (total_by f) (joined_spans a b (last_of (b ∷ os)) es h.2.0 h.2.1) ∙ total-append f (window a b es) (window b (last_of (b ∷ os)) es) in
    let first : total_by f (items (trees_of (take (b - a) (drop a es)))) ≡ total_by f (window a b es) = ap (total_by f) (items_trees_of (take (b - a) (drop a es))) in
    let count : (length (a ∷ b ∷ os) - 1) * (8 + null_byte m) ≡ (8 + null_byte m) + (length (b ∷ os) - 1) * (8 + null_byte m) =
    let e : length (a ∷ b ∷ os) - 1 ≡ suc (length (b ∷ os) - 1) = omega arith in rw e (more_times (length (b ∷ os) - 1) (8 + null_byte m)) in
    omega arith

-- ---- structs

-- a column a field, of so many cells each
abbrev Aligned : Tys → List (List CellData) → ℕ → Type 0
Aligned no_fields [] n = Unit {0}
Aligned no_fields (c ∷ cs) n = ⊥
Aligned (field name t fs) [] n = ⊥
Aligned (field name t fs) (c ∷ cs) n = (length c ≡ n) × Aligned fs cs n

abbrev columns_total : Tys → List (List CellData) → ℕ
columns_total no_fields cs = 0
columns_total (field name t fs) [] = 0
columns_total (field name t fs) (c ∷ cs) = total_by (cell_size t) c + columns_total fs cs

no_rows : (fs : Tys) (cs : List (List CellData)) → Aligned fs cs 0 → columns_total fs cs ≡ 0
no_rows no_fields cs h = refl
no_rows (field name t fs) [] h = absurd h
no_rows (field name t fs) ([] ∷ cs) h = let rest : columns_total fs cs ≡ 0 = no_rows fs cs h.1 in omega arith
no_rows (field name t fs) ((x ∷ c) ∷ cs) h = let e : suc (length c) ≡ 0 = h.0 in absurd (omega arith)

tails_aligned : (fs : Tys) (cs : List (List CellData)) (n : ℕ) → Aligned fs cs (suc n) → Aligned fs (map tail cs) n
tails_aligned no_fields [] n h = tt
tails_aligned no_fields (c ∷ cs) n h = absurd h
tails_aligned (field name t fs) [] n h = absurd h
tails_aligned (field name t fs) ([] ∷ cs) n h = let e : 0 ≡ suc n = h.0 in absurd (omega arith)
tails_aligned (field name t fs) ((x ∷ c) ∷ cs) n h = ((let e : suc (length c) ≡ suc n = h.0 in omega arith), tails_aligned fs cs n h.1)

row_and_rest : (fs : Tys) (cs : List (List CellData)) (n : ℕ) → Aligned fs cs (suc n) → columns_total fs cs ≡ fields_size fs (map (head_or null_cell) cs) + columns_total fs (map tail cs)
row_and_rest no_fields [] n h = refl
row_and_rest no_fields (c ∷ cs) n h = absurd h
row_and_rest (field name t fs) [] n h = absurd h
row_and_rest (field name t fs) ([] ∷ cs) n h = let e : 0 ≡ suc n = h.0 in absurd (omega arith)
row_and_rest (field name t fs) ((x ∷ c) ∷ cs) n h =
    let rest : columns_total fs cs ≡ fields_size fs (map (head_or null_cell) cs) + columns_total fs (map tail cs) = row_and_rest fs cs n h.1 in
    omega arith

struct_total : (m : Bool) (fs : Tys) (n : ℕ) (cs : List (List CellData)) (v : List Bool) → Aligned fs cs n
    → total_by (struct_size m (fields_size fs)) (struct_rows n cs v) ≡ columns_total fs cs + n * null_byte m
struct_total m fs zero cs v h = let none : columns_total fs cs ≡ 0 = no_rows fs cs h in omega arith
struct_total m fs (suc n) cs v h =
    let rest : total_by (struct_size m (fields_size fs)) (struct_rows n (map tail cs) (tail v)) ≡ columns_total fs (map tail cs) + n * null_byte m = struct_total m fs n (map tail cs) (tail v) (tails_aligned fs cs n h) in
    let first : fields_size fs (items (trees_of (map (head_or null_cell) cs))) ≡ fields_size fs (map (head_or null_cell) cs) = ap (fields_size fs) (items_trees_of (map (head_or null_cell) cs)) in
    let both : columns_total fs cs ≡ fields_size fs (map (head_or null_cell) cs) + columns_total fs (map tail cs) = row_and_rest fs cs n h in
    omega arith

-- ---- every chunk

mutual
  pub span_law : (p : ChunkData) (from to : ℕ) → is_sound p ≡ true → from ≤ to → to ≤ length (cells p) → span_size p from to ≡ total_by (cell_size (piece_type p)) (window from to (cells p))
  span_law (plain_piece t cs) from to s le within = refl
  span_law (constant_piece t c n) from to s le within =
      let rows : to ≤ n = rw (length-replicate n c) at within in
      rw (window-replicate from to n c rows) (sym (total-replicate (cell_size t) (to - from) c))
  span_law (dict_piece codes values) from to s le within = rw (window-map (picked (cells values)) from to (cells codes)) refl
  span_law (chunked_piece t ps) from to s le within = let h = of_chunked t ps s in parts_law t ps from to h.parts_sound h.parts le
  span_law (list_piece (list t m) e offsets valid) from to s le within =
      let h = of_list (list t m) e offsets valid s in
      let same : piece_type e ≡ t = sym (of_type t (piece_type e) h.elements) in
      let some : 1 ≤ length offsets = h.some in
      let rows : length (list_rows (cells e) offsets valid) ≡ length offsets - 1 = length-list_rows (cells e) offsets valid in
      let os : List ℕ = window from (to + 1) offsets in
      let long : length (window from (to + 1) offsets) ≡ to + 1 - from = length-window from (to + 1) offsets (omega arith) in
      let span = offsets_within (length (cells e)) os (offsets_window (length (cells e)) from to offsets h.ascend le (omega arith)) in
      let inside : span_size e (head_or 0 os) (last_of os) ≡ total_by (cell_size t) (window (head_or 0 os) (last_of os) (cells e)) =
      subst (λ u. span_size e (head_or 0 os) (last_of os) ≡ total_by (cell_size u) (window (head_or 0 os) (last_of os) (cells e))) same (span_law e (head_or 0 os) (last_of os) h.elements_sound span.2 span.1) in
      let lists : total_by (list_size m (cell_size t)) (list_rows (cells e) os (drop from valid)) ≡ total_by (cell_size t) (window (head_or 0 os) (last_of os) (cells e)) + (length os - 1) * (8 + null_byte m) =
      list_total m (cell_size t) (cells e) (head_or 0 os) os (drop from valid) span.0 (rw long (omega arith)) in
      let count : length os - 1 ≡ to - from = rw long (omega arith) in
      rw (window-list_rows (cells e) from to offsets valid le, lists, inside, count) refl
  span_law (list_piece (boolean m) e offsets valid) from to s le within = absurd (true≢false (sym (of_list (boolean m) e offsets valid s).elements))
  span_law (list_piece (primitive p m) e offsets valid) from to s le within = absurd (true≢false (sym (of_list (primitive p m) e offsets valid s).elements))
  span_law (list_piece (utf8 m) e offsets valid) from to s le within = absurd (true≢false (sym (of_list (utf8 m) e offsets valid s).elements))
  span_law (list_piece (binary m) e offsets valid) from to s le within = absurd (true≢false (sym (of_list (binary m) e offsets valid s).elements))
  span_law (list_piece (struct fs m) e offsets valid) from to s le within = absurd (true≢false (sym (of_list (struct fs m) e offsets valid s).elements))
  span_law (list_piece (extension tag t) e offsets valid) from to s le within = absurd (true≢false (sym (of_list (extension tag t) e offsets valid s).elements))
  span_law (struct_piece (struct fs m) ps valid n) from to s le within =
      let h = of_struct (struct fs m) ps valid n s in
      let inside : to ≤ n = rw (length-struct_rows n (each_cells ps) valid) at within in
      let columns = each_law fs ps from to n h.fields_sound h.fields le inside in
      rw (window-struct_rows from to n (each_cells ps) valid le inside, struct_total m fs (to - from) (map (window from to) (each_cells ps)) (drop from valid) columns.0, columns.1) refl
  span_law (struct_piece (boolean m) ps valid n) from to s le within = absurd (true≢false (sym (of_struct (boolean m) ps valid n s).fields))
  span_law (struct_piece (primitive p m) ps valid n) from to s le within = absurd (true≢false (sym (of_struct (primitive p m) ps valid n s).fields))
  span_law (struct_piece (utf8 m) ps valid n) from to s le within = absurd (true≢false (sym (of_struct (utf8 m) ps valid n s).fields))
  span_law (struct_piece (binary m) ps valid n) from to s le within = absurd (true≢false (sym (of_struct (binary m) ps valid n s).fields))
  span_law (struct_piece (list t m) ps valid n) from to s le within = absurd (true≢false (sym (of_struct (list t m) ps valid n s).fields))
  span_law (struct_piece (extension tag t) ps valid n) from to s le within = absurd (true≢false (sym (of_struct (extension tag t) ps valid n s).fields))
  span_law (extension_piece (extension tag t) p) from to s le within =
      let h = of_extension (extension tag t) p s in
      let same : piece_type p ≡ t = sym (of_type t (piece_type p) h.storage) in
      subst (λ u. span_size p from to ≡ total_by (cell_size u) (window from to (cells p))) same (span_law p from to h.storage_sound le within)
  span_law (extension_piece (boolean m) p) from to s le within = absurd (true≢false (sym (of_extension (boolean m) p s).storage))
  span_law (extension_piece (primitive q m) p) from to s le within = absurd (true≢false (sym (of_extension (primitive q m) p s).storage))
  span_law (extension_piece (utf8 m) p) from to s le within = absurd (true≢false (sym (of_extension (utf8 m) p s).storage))
  span_law (extension_piece (binary m) p) from to s le within = absurd (true≢false (sym (of_extension (binary m) p s).storage))
  span_law (extension_piece (list t m) p) from to s le within = absurd (true≢false (sym (of_extension (list t m) p s).storage))
  span_law (extension_piece (struct fs m) p) from to s le within = absurd (true≢false (sym (of_extension (struct fs m) p s).storage))

  parts_law : (t : Ty) (ps : ChunkList) (from to : ℕ) → are_sound ps ≡ true → are_parts t (pieces_in ps) ≡ true → from ≤ to → span_sizes ps from to ≡ total_by (cell_size t) (window from to (joined_cells ps))
  parts_law t no_pieces from to s h le = rw (window-nil {X = CellData} from to) refl
  parts_law t (part p ps) from to s h le =
      let n : ℕ = length (cells p) in
      let typed : piece_type p ≡ t = of_type (piece_type p) t (and_parts (ty_eq (piece_type p) t) _ (and_parts (ty_eq (piece_type p) t && _) _ h).0).0 in
      let here : span_size p (min from n) (min to n) ≡ total_by (cell_size t) (window (min from n) (min to n) (cells p)) =
      subst (λ u. span_size p (min from n) (min to n) ≡ total_by (cell_size u) (window (min from n) (min to n) (cells p))) typed (span_law p (min from n) (min to n) (and_parts (is_sound p) (are_sound ps) s).0 (omega arith) (omega arith)) in
      let there : span_sizes ps (from - n) (to - n) ≡ total_by (cell_size t) (window (from - n) (to - n) (joined_cells ps)) =
      parts_law t ps (from - n) (to - n) (and_parts (is_sound p) (are_sound ps) s).1 (and_parts _ (are_parts t (pieces_in ps)) h).1 (omega arith) in
      rw (window-append from to (cells p) (joined_cells ps), total-append (cell_size t) (window (min from n) (min to n) (cells p)) (window (from - n) (to - n) (joined_cells ps)), here, there) refl

  each_law : (fs : Tys) (ps : ChunkList) (from to n : ℕ) → are_sound ps ≡ true → match_fields fs (pieces_in ps) n ≡ true → from ≤ to → to ≤ n
      → Aligned fs (map (window from to) (each_cells ps)) (to - from) × (each_span_size ps from to ≡ columns_total fs (map (window from to) (each_cells ps)))
  each_law no_fields no_pieces from to n s h le within = (tt, refl)
  each_law no_fields (part p ps) from to n s h le within = cc
  each_law (field name t fs) no_pieces from to n s h le within = cc
  each_law (field name t fs) (part p ps) from to n s h le within =
      let typed : piece_type p ≡ t = of_type (piece_type p) t (and_parts (ty_eq (piece_type p) t) _ h).0 in
      let rest : _ ≡ true = (and_parts (ty_eq (piece_type p) t) _ h).1 in
      let count : length (cells p) ≡ n = eqb-true (length (cells p)) n (and_parts (length (cells p) == n) _ rest).0 in
      let here : span_size p from to ≡ total_by (cell_size t) (window from to (cells p)) =
      subst (λ u. span_size p from to ≡ total_by (cell_size u) (window from to (cells p))) typed (span_law p from to (and_parts (is_sound p) (are_sound ps) s).0 le (omega arith)) in
      let there = each_law fs ps from to n (and_parts (is_sound p) (are_sound ps) s).1 (and_parts (length (cells p) == n) _ rest).1 le within in
      ((length-window from to (cells p) (omega arith), there.0), rw (here, there.1) refl)

pub all_rows : (p : ChunkData) (n : ℕ) → is_sound p ≡ true → n ≡ length (cells p) → span_size p 0 n ≡ row_size p
all_rows p n s e = span_law p 0 n s (omega arith) (omega arith) ∙ ap (total_by (cell_size (piece_type p))) (window-all n (cells p) e)
