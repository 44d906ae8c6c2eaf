-- Streams of columns: their chunks, their cells, their paths and their beginnings.
use Rattle.std.proofs.Common.{◌≡◌, ℕ, zero, suc, ◌+◌, ◌-◌, ◌<◌, ◌≤◌, ◌^◌, ◌⊎◌, ◌&&◌, Bool, true, false, List, [], ◌∷◌, ◌++◌, map, length, take, drop, Option, Some, None, refl, sym, ap, ap₂, ◌∙◌, subst, inl, inr, ⊎_elim, arith, append_assoc, length-append, eq-eqb}
use Rattle.std.specs.Prelude.{nat_lt, nat_le, pos, negsuc, int_lt, if◌then◌else◌}
use Rattle.std.proofs.lemmas.List.{append-nil, length-map, map-append}
use Rattle.std.proofs.lemmas.Bool.{true≢false, and_from, and_parts}
use Rattle.std.proofs.lemmas.Bool.Decides.{nat_tests}
use Rattle.vx_model.specs.Words.{all_by, head_or, tail}
use Rattle.vx_model.specs.Ty.{Ty, Tys, boolean, primitive, list, struct, no_fields, field}
use Rattle.vx_model.specs.CellData.{CellData, CellList, null_cell, bool_cell, int_cell, text_cell, bytes_cell, list_cell, struct_cell, no_cells, cell, trees_of, items, fits, flag_fits}
use Rattle.vx_model.specs.ValueData.{ValueData, ValueList, int_value, list_value, vals_of, value, values_in, one_value}
use Rattle.vx_model.specs.ChunkData.{ChunkData, plain_piece, cells, are_offsets}
use Rattle.vx_path.specs.Path.{under}
use Rattle.vx_layout_spec.specs.Real.{Of, is_real_cell, are_real_cells, is_length}
use Rattle.vx_layout_spec.specs.Rows.{and_then, all_there, offset_of, offsets_agree, spans, spans_between, lists_of}
use Rattle.vx_rules.specs.Stream.{Chunk, chunk_paths, stream_cells, Chunks}
use Rattle.vx_rules.specs.Columns.{struct_columns, Split, struct_splits, list_splits, list_columns, head_piece, column, other_columns, offset_entries, offset_cell, offset_type}
use Rattle.vx_layout_spec.specs.Parts.{flag_of, validity_piece, first_of, others_of, field_pieces, elements_of, all_elements, ends}
use Rattle.vx_layout_spec.proofs.CellsFit.{all_append}
use Rattle.vx_rules.proofs.CellLaws.{Fine, cells_fine, plain_of, below}
use Rattle.vx_rules.proofs.ColumnCells.{field_cells, each_cell, FieldsOf, fields_are, validity_of, inner_value, column_values}

-- ---- paths and beginnings

abbrev pub split_paths : List Split → List (List ℕ)
split_paths [] = []
split_paths (x ∷ xs) = x.0 ∷ split_paths xs

-- path c below each path
abbrev pub unders : ℕ → List (List ℕ) → List (List ℕ)
unders c [] = []
unders c (p ∷ ps) = under p c ∷ unders c ps

pub column_paths : (c : ℕ) (xs : List Split) → chunk_paths (column c xs) ≡ unders c (split_paths xs)
column_paths c [] = refl
column_paths c (x ∷ xs) = ap (λ z. under x.0 c ∷ z) (column_paths c xs)

pub other_paths : (xs : List Split) → split_paths (other_columns xs) ≡ split_paths xs
other_paths [] = refl
other_paths (x ∷ xs) = ap (λ z. x.0 ∷ z) (other_paths xs)

pub struct_paths : (fs : Tys) (n : Bool) (cs : List Chunk) → split_paths (struct_splits fs n cs) ≡ chunk_paths cs
struct_paths fs n [] = refl
struct_paths fs n (c ∷ cs) = ap (λ z. c.0 ∷ z) (struct_paths fs n cs)

pub list_paths : (t : Ty) (n first : Bool) (from : ℕ) (cs : List Chunk) → split_paths (list_splits t n first from cs) ≡ chunk_paths cs
list_paths t n first from [] = refl
list_paths t n first from (c ∷ cs) = ap (λ z. c.0 ∷ z) (list_paths t n false (from + length (all_elements (cells c.1))) cs)

pub column-append : (c : ℕ) (xs ys : List Split) → column c (xs ++ ys) ≡ column c xs ++ column c ys
column-append c [] ys = refl
column-append c (x ∷ xs) ys = ap (λ (z : List Chunk). (under x.0 c, head_piece x.1) ∷ z) (column-append c xs ys)

pub other_columns-append : (xs ys : List Split) → other_columns (xs ++ ys) ≡ other_columns xs ++ other_columns ys
other_columns-append [] ys = refl
other_columns-append (x ∷ xs) ys = ap (λ (z : List Split). (x.0, tail x.1) ∷ z) (other_columns-append xs ys)

pub struct_splits-append : (fs : Tys) (n : Bool) (xs ys : List Chunk) → struct_splits fs n (xs ++ ys) ≡ struct_splits fs n xs ++ struct_splits fs n ys
struct_splits-append fs n [] ys = refl
struct_splits-append fs n (x ∷ xs) ys = ap (λ (z : List Split). (x.0, struct_columns fs n x.1) ∷ z) (struct_splits-append fs n xs ys)

pub list_splits_begin : (t : Ty) (n first : Bool) (from : ℕ) (xs ys : List Chunk)
    → (more : List Split) × (list_splits t n first from (xs ++ ys) ≡ list_splits t n first from xs ++ more)
list_splits_begin t n first from [] ys = (list_splits t n first from ys, refl)
list_splits_begin t n first from (x ∷ xs) ys =
    let r : (more : List Split) × (list_splits t n false (from + length (all_elements (cells x.1))) (xs ++ ys) ≡ list_splits t n false (from + length (all_elements (cells x.1))) xs ++ more) =
    list_splits_begin t n false (from + length (all_elements (cells x.1))) xs ys in
    (r.0, ap (λ (z : List Split). (x.0, list_columns t n first from x.1) ∷ z) r.1)

-- ---- structs

-- the fields' streams, in order
abbrev pub field_streams : Tys → ℕ → List Split → List (List Chunk)
field_streams no_fields c xs = []
field_streams (field name t fs) c xs = column c xs ∷ field_streams fs (suc c) (other_columns xs)

-- each field's stream is of whole chunks of its type
abbrev pub StreamsOf : Tys → List (List Chunk) → Type 0
StreamsOf no_fields [] = Unit {0}
StreamsOf no_fields (s ∷ ss) = ⊥
StreamsOf (field name t fs) [] = ⊥
StreamsOf (field name t fs) (s ∷ ss) = Chunks t s × StreamsOf fs ss

abbrev pub streams_cells : List (List Chunk) → List (List CellData)
streams_cells [] = []
streams_cells (s ∷ ss) = stream_cells s ∷ streams_cells ss

abbrev pub all_cells : List (List CellData) → List CellData
all_cells [] = []
all_cells (c ∷ cs) = c ++ all_cells cs

-- splits whose columns are the fields of these structs, chunk by chunk
abbrev pub Shows : Tys → List Split → List (List CellData) → Type 0
Shows fs [] [] = Unit {0}
Shows fs [] (c ∷ cs) = ⊥
Shows fs (x ∷ xs) [] = ⊥
Shows fs (x ∷ xs) (c ∷ cs) = FieldsOf fs x.1 (length c) × (each_cell x.1 ≡ field_cells fs c) × Shows fs xs cs

others_all : List (List CellData) → List (List CellData)
others_all [] = []
others_all (c ∷ cs) = map others_of c ∷ others_all cs

shows_others : (name : List ℕ) (t : Ty) (fs : Tys) (xs : List Split) (cs : List (List CellData)) → Shows (field name t fs) xs cs → Shows fs (other_columns xs) (others_all cs)
unfolding others_all
shows_others name t fs [] [] h = tt
shows_others name t fs [] (c ∷ cs) h = absurd h
shows_others name t fs (x ∷ xs) [] h = absurd h
shows_others name t fs (x ∷ xs) (c ∷ cs) h = go x.1 h.0 h.1 (shows_others name t fs xs cs h.2)
  where
    go : (ps : List ChunkData) → FieldsOf (field name t fs) ps (length c) → each_cell ps ≡ field_cells (field name t fs) c → Shows fs (other_columns xs) (others_all cs)
        → FieldsOf fs (tail ps) (length (map others_of c)) × (each_cell (tail ps) ≡ field_cells fs (map others_of c)) × Shows fs (other_columns xs) (others_all cs)
    go [] f e r = absurd f
    go (p ∷ ps) f e r = (subst (FieldsOf fs ps) (sym (length-map c others_of)) f.2, ap tail e, r)

shows_first : (name : List ℕ) (t : Ty) (fs : Tys) (k : ℕ) (xs : List Split) (cs : List (List CellData)) → Shows (field name t fs) xs cs
    → Chunks t (column k xs) × (stream_cells (column k xs) ≡ map first_of (all_cells cs))
shows_first name t fs k [] [] h = (tt, refl)
shows_first name t fs k [] (c ∷ cs) h = absurd h
shows_first name t fs k (x ∷ xs) [] h = absurd h
shows_first name t fs k (x ∷ xs) (c ∷ cs) h = go x.1 h.0 h.1 (shows_first name t fs k xs cs h.2)
  where
    go : (ps : List ChunkData) → FieldsOf (field name t fs) ps (length c) → each_cell ps ≡ field_cells (field name t fs) c
        → Chunks t (column k xs) × (stream_cells (column k xs) ≡ map first_of (all_cells cs))
        → (Of t (head_piece ps) × Chunks t (column k xs)) × (cells (head_piece ps) ++ stream_cells (column k xs) ≡ map first_of (c ++ all_cells cs))
    go [] f e r = absurd f
    go (p ∷ ps) f e r = ((f.0, r.0), ap₂ (λ a b. a ++ b) (ap (head_or []) e) r.1 ∙ sym (map-append first_of c (all_cells cs)))

others_joined : (cs : List (List CellData)) → all_cells (others_all cs) ≡ map others_of (all_cells cs)
unfolding others_all
others_joined [] = refl
others_joined (c ∷ cs) = ap (λ z. map others_of c ++ z) (others_joined cs) ∙ sym (map-append others_of c (all_cells cs))

-- the fields' streams are of whole chunks, and have the fields' cells
pub streams_are : (fs : Tys) (k : ℕ) (xs : List Split) (cs : List (List CellData)) → Shows fs xs cs
    → StreamsOf fs (field_streams fs k xs) × (streams_cells (field_streams fs k xs) ≡ field_cells fs (all_cells cs))
streams_are no_fields k xs cs h = (tt, refl)
streams_are (field name t fs) k xs cs h =
    let a : Chunks t (column k xs) × (stream_cells (column k xs) ≡ map first_of (all_cells cs)) = shows_first name t fs k xs cs h in
    let b : StreamsOf fs (field_streams fs (suc k) (other_columns xs)) × (streams_cells (field_streams fs (suc k) (other_columns xs)) ≡ field_cells fs (all_cells (others_all cs))) =
    streams_are fs (suc k) (other_columns xs) (others_all cs) (shows_others name t fs xs cs h) in
    ((a.0, b.0), ap₂ (λ x y. x ∷ y) a.1 (b.1 ∙ ap (field_cells fs) (others_joined cs)))

-- the cells of each chunk
abbrev pub chunk_cells : List Chunk → List (List CellData)
chunk_cells [] = []
chunk_cells (c ∷ cs) = cells c.1 ∷ chunk_cells cs

pub all_chunk_cells : (cs : List Chunk) → all_cells (chunk_cells cs) ≡ stream_cells cs
all_chunk_cells [] = refl
all_chunk_cells (c ∷ cs) = ap (λ z. cells c.1 ++ z) (all_chunk_cells cs)

pub struct_shows : (fs : Tys) (cs : List Chunk) → Chunks (struct fs false) cs → Shows fs (struct_splits fs false cs) (chunk_cells cs)
struct_shows fs [] h = tt
struct_shows fs (c ∷ cs) h =
    let a : FieldsOf fs (field_pieces fs c.1) (length (cells c.1)) × (each_cell (field_pieces fs c.1) ≡ field_cells fs (cells c.1)) = fields_are fs false c.1 h.0 in
    (a.0, a.1, struct_shows fs cs h.1)

pub nullable_shows : (fs : Tys) (cs : List Chunk) → Chunks (struct fs true) cs → Shows fs (other_columns (struct_splits fs true cs)) (chunk_cells cs)
nullable_shows fs [] h = tt
nullable_shows fs (c ∷ cs) h =
    let a : FieldsOf fs (field_pieces fs c.1) (length (cells c.1)) × (each_cell (field_pieces fs c.1) ≡ field_cells fs (cells c.1)) = fields_are fs true c.1 h.0 in
    (a.0, a.1, nullable_shows fs cs h.1)

-- the stream of the flags
pub validity_stream : (fs : Tys) (cs : List Chunk) → Chunks (struct fs true) cs
    → Chunks (boolean false) (column 0 (struct_splits fs true cs)) × (stream_cells (column 0 (struct_splits fs true cs)) ≡ map bool_cell (map flag_of (stream_cells cs)))
validity_stream fs [] h = (tt, refl)
validity_stream fs (c ∷ cs) h =
    let r : Chunks (boolean false) (column 0 (struct_splits fs true cs)) × (stream_cells (column 0 (struct_splits fs true cs)) ≡ map bool_cell (map flag_of (stream_cells cs))) = validity_stream fs cs h.1 in (
      (validity_of c.1 (cells_fine (struct fs true) c.1 h.0).short, r.0),
      ap (λ z. map bool_cell (map flag_of (cells c.1)) ++ z) r.1
          ∙ sym (ap (map bool_cell) (map-append flag_of (cells c.1) (stream_cells cs)) ∙ map-append bool_cell (map flag_of (cells c.1)) (map flag_of (stream_cells cs))),
    )

-- ---- lists: the rows from elements and offsets

pub elements_append : (xs ys : List CellData) → all_elements (xs ++ ys) ≡ all_elements xs ++ all_elements ys
elements_append [] ys = refl
elements_append (x ∷ xs) ys = ap (λ z. elements_of x ++ z) (elements_append xs ys) ∙ sym (append_assoc (elements_of x) (all_elements xs) (all_elements ys))

pub ends_append : (from : ℕ) (xs ys : List CellData) → ends from (xs ++ ys) ≡ ends from xs ++ ends (from + length (all_elements xs)) ys
ends_append from [] ys = ap (λ z. ends z ys) (let h : from ≡ from + 0 = omega arith in h)
ends_append from (x ∷ xs) ys =
    ap (λ z. (from + length (elements_of x)) ∷ z)
    (ends_append (from + length (elements_of x)) xs ys
    ∙ ap (λ z. ends (from + length (elements_of x)) xs ++ ends z ys)
    (let l : length (elements_of x ++ all_elements xs) ≡ length (elements_of x) + length (all_elements xs) = length-append (elements_of x) (all_elements xs) in
    let h : from + length (elements_of x) + length (all_elements xs) ≡ from + length (elements_of x ++ all_elements xs) = omega arith in h))

pub offset_values : (ns : List ℕ) → all_there (map offset_of (map value (map offset_cell ns))) ≡ Some ns
offset_values [] = refl
offset_values (n ∷ ns) = ap (and_then (λ xs. Some (n ∷ xs))) (offset_values ns)

le_test : (a b : ℕ) → a ≤ b → nat_le a b ≡ true
le_test a b h = grind (arith, nat_tests)

offsets_ok : (count from : ℕ) (cs : List CellData) → from + length (all_elements cs) ≤ count → are_offsets count (from ∷ ends from cs) ≡ true
offsets_ok count from [] h = le_test from count (omega arith)
offsets_ok count from (c ∷ cs) h =
    let l : length (elements_of c ++ all_elements cs) ≡ length (elements_of c) + length (all_elements cs) = length-append (elements_of c) (all_elements cs) in
    and_from (nat_le from (from + length (elements_of c))) (are_offsets count ((from + length (elements_of c)) ∷ ends (from + length (elements_of c)) cs))
    (le_test from (from + length (elements_of c)) (omega arith)) (offsets_ok count (from + length (elements_of c)) cs (omega arith))

-- cells of lists
abbrev pub AreLists : Ty → Bool → List CellData → Type 0
AreLists t n cs = all_by (fits (list t n)) cs ≡ true

values_items : (cs : CellList) → vals_of (map value (items cs)) ≡ values_in cs
values_items no_cells = refl
values_items (cell c cs) = ap (one_value (value c)) (values_items cs)

span_one : (t : Ty) (n : Bool) (c : CellData) → fits (list t n) c ≡ true → list_value (vals_of (map value (elements_of c))) ≡ inner_value c
span_one t n (list_cell v cs) h = ap list_value (values_items cs)
span_one t n (struct_cell v cs) h = absurd (true≢false (sym h))
span_one t n null_cell h = absurd (true≢false (sym h))
span_one t n (bool_cell b) h = absurd (true≢false (sym h))
span_one t n (int_cell b) h = absurd (true≢false (sym h))
span_one t n (text_cell b) h = absurd (true≢false (sym h))
span_one t n (bytes_cell b) h = absurd (true≢false (sym h))

drop_front : {A : Type 0} (front back : List A) (n : ℕ) → length front ≡ n → drop n (front ++ back) ≡ back
drop_front [] back zero e = refl
drop_front [] back (suc n) e = absurd (omega arith)
drop_front (x ∷ front) back zero e = absurd (omega arith)
drop_front (x ∷ front) back (suc n) e = drop_front front back n (omega arith)

take_front : {A : Type 0} (front back : List A) (n : ℕ) → length front ≡ n → take n (front ++ back) ≡ front
take_front [] back zero e = refl
take_front [] back (suc n) e = absurd (omega arith)
take_front (x ∷ front) back zero e = absurd (omega arith)
take_front (x ∷ front) back (suc n) e = ap (λ z. x ∷ z) (take_front front back n (omega arith))

spans_are : (t : Ty) (n : Bool) (before : List ValueData) (from : ℕ) (cs : List CellData) → AreLists t n cs → length before ≡ from
    → spans (before ++ map value (all_elements cs)) (from ∷ ends from cs) ≡ map inner_value cs
spans_are t n before from [] h e = refl
spans_are t n before from (c ∷ cs) h e =
    ap₂ (λ x y. x ∷ y)
    (ap (λ z. list_value (vals_of z)) span ∙ span_one t n c (and_parts (fits (list t n) c) _ h).0)
    (ap (λ z. spans z ((from + length (elements_of c)) ∷ ends (from + length (elements_of c)) cs)) moved
    ∙ spans_are t n (before ++ map value (elements_of c)) (from + length (elements_of c)) cs (and_parts (fits (list t n) c) _ h).1 count)
  where
    moved : before ++ map value (elements_of c ++ all_elements cs) ≡ (before ++ map value (elements_of c)) ++ map value (all_elements cs)
    moved = ap (λ z. before ++ z) (map-append value (elements_of c) (all_elements cs)) ∙ sym (append_assoc before (map value (elements_of c)) (map value (all_elements cs)))

    count : length (before ++ map value (elements_of c)) ≡ from + length (elements_of c)
    count = length-append before (map value (elements_of c)) ∙ ap₂ (λ x y. x + y) e (length-map (elements_of c) value)

    span : take (from + length (elements_of c) - from) (drop from (before ++ map value (elements_of c ++ all_elements cs))) ≡ map value (elements_of c)
    span =
        ap₂ (λ x y. take x y) (let k : from + length (elements_of c) - from ≡ length (elements_of c) = omega arith in k)
        (drop_front before (map value (elements_of c ++ all_elements cs)) from e ∙ map-append value (elements_of c) (all_elements cs))
        ∙ take_front (map value (elements_of c)) (map value (all_elements cs)) (length (elements_of c)) (length-map (elements_of c) value)

-- the rows of lists, unmasked, from all elements and all offsets
pub lists_are : (t : Ty) (n : Bool) (cs : List CellData) → AreLists t n cs
    → lists_of (map value (all_elements cs)) (map value (map offset_cell (0 ∷ ends 0 cs))) ≡ Some (map inner_value cs)
lists_are t n cs h =
    ap (and_then (spans_between (map value (all_elements cs)))) (offset_values (0 ∷ ends 0 cs))
    ∙ ap (λ b. if b then Some (spans (map value (all_elements cs)) (0 ∷ ends 0 cs)) else None)
    (offsets_ok (length (map value (all_elements cs))) 0 cs (let l : length (map value (all_elements cs)) ≡ length (all_elements cs) = length-map (all_elements cs) value in omega arith))
    ∙ ap Some (spans_are t n [] 0 cs h refl)

-- ---- lists: the streams

-- elements of lists are of their type, and real
elements_fine : (t : Ty) (n : Bool) (cs : List CellData) → AreLists t n cs → all_by is_real_cell cs ≡ true
    → (all_by (fits t) (all_elements cs) ≡ true) × (all_by is_real_cell (all_elements cs) ≡ true)
elements_fine t n [] h r = (refl, refl)
elements_fine t n (c ∷ cs) h r =
    let a : (all_by (fits t) (elements_of c) ≡ true) × (all_by is_real_cell (elements_of c) ≡ true) = one c (and_parts (fits (list t n) c) _ h).0 (and_parts (is_real_cell c) _ r).0 in
    let b : (all_by (fits t) (all_elements cs) ≡ true) × (all_by is_real_cell (all_elements cs) ≡ true) = elements_fine t n cs (and_parts (fits (list t n) c) _ h).1 (and_parts (is_real_cell c) _ r).1 in
    (all_append (fits t) (elements_of c) (all_elements cs) a.0 b.0, all_append is_real_cell (elements_of c) (all_elements cs) a.1 b.1)
  where
    real_items : (cs : CellList) → are_real_cells cs ≡ true → all_by is_real_cell (items cs) ≡ true
    real_items no_cells e = refl
    real_items (cell d ds) e = and_from (is_real_cell d) (all_by is_real_cell (items ds)) (and_parts (is_real_cell d) _ e).0 (real_items ds (and_parts (is_real_cell d) _ e).1)

    one : (c : CellData) → fits (list t n) c ≡ true → is_real_cell c ≡ true → (all_by (fits t) (elements_of c) ≡ true) × (all_by is_real_cell (elements_of c) ≡ true)
    one (list_cell v ds) e f = ((and_parts (flag_fits v n) _ e).1, real_items ds (and_parts (are_real_cells ds) _ f).0)
    one (struct_cell v ds) e f = absurd (true≢false (sym e))
    one null_cell e f = (refl, refl)
    one (bool_cell b) e f = (refl, refl)
    one (int_cell b) e f = (refl, refl)
    one (text_cell b) e f = (refl, refl)
    one (bytes_cell b) e f = (refl, refl)

u64_fits : (n : ℕ) → n < 2 ^ 64 → fits offset_type (offset_cell n) ≡ true
u64_fits n h = grind (arith, nat_tests)

-- offsets below the number of all elements
ends_fit : (from : ℕ) (cs : List CellData) → from + length (all_elements cs) < 2 ^ 64 → all_by (fits offset_type) (map offset_cell (ends from cs)) ≡ true
ends_fit from [] h = refl
ends_fit from (c ∷ cs) h =
    let l : length (elements_of c ++ all_elements cs) ≡ length (elements_of c) + length (all_elements cs) = length-append (elements_of c) (all_elements cs) in
    and_from (fits offset_type (offset_cell (from + length (elements_of c)))) (all_by (fits offset_type) (map offset_cell (ends (from + length (elements_of c)) cs)))
    (u64_fits (from + length (elements_of c)) (omega arith)) (ends_fit (from + length (elements_of c)) cs (omega arith))

offsets_real : (ns : List ℕ) → all_by is_real_cell (map offset_cell ns) ≡ true
offsets_real [] = refl
offsets_real (n ∷ ns) = offsets_real ns

pub length-ends : (from : ℕ) (cs : List CellData) → length (ends from cs) ≡ length cs
length-ends from [] = refl
length-ends from (c ∷ cs) = ap suc (length-ends (from + length (elements_of c)) cs)

-- one chunk's columns
pub elements_piece : (t : Ty) (n : Bool) (p : ChunkData) → Of (list t n) p → length (all_elements (cells p)) < 2 ^ 64 → Of t (plain_piece t (all_elements (cells p)))
elements_piece t n p o lt =
    let f : Fine (list t n) (cells p) = cells_fine (list t n) p o in
    let e : (all_by (fits t) (all_elements (cells p)) ≡ true) × (all_by is_real_cell (all_elements (cells p)) ≡ true) = elements_fine t n (cells p) f.fit f.real in
    plain_of t (all_elements (cells p)) (record { fit = e.0; real = e.1; short = lt })

entries_fit : (first : Bool) (from : ℕ) (cs : List CellData) → from + length (all_elements cs) < 2 ^ 64
    → (all_by (fits offset_type) (map offset_cell (offset_entries first from cs)) ≡ true) × (length (offset_entries first from cs) ≤ suc (length cs))
entries_fit true from cs h = (
  and_from (fits offset_type (offset_cell from)) (all_by (fits offset_type) (map offset_cell (ends from cs))) (u64_fits from (omega arith)) (ends_fit from cs h),
  (let l : length (ends from cs) ≡ length cs = length-ends from cs in omega arith),
)
entries_fit false from cs h = (ends_fit from cs h, (let l : length (ends from cs) ≡ length cs = length-ends from cs in omega arith))

pub offsets_piece : (first : Bool) (from : ℕ) (cs : List CellData) → from + length (all_elements cs) < 2 ^ 64 → suc (length cs) < 2 ^ 64
    → Of offset_type (plain_piece offset_type (map offset_cell (offset_entries first from cs)))
offsets_piece first from cs h lt =
    let e : (all_by (fits offset_type) (map offset_cell (offset_entries first from cs)) ≡ true) × (length (offset_entries first from cs) ≤ suc (length cs)) = entries_fit first from cs h in
    let k : length (offset_entries first from cs) ≤ suc (length cs) = e.1 in
    let l : length (map offset_cell (offset_entries first from cs)) ≡ length (offset_entries first from cs) = length-map (offset_entries first from cs) offset_cell in
    plain_of offset_type (map offset_cell (offset_entries first from cs)) (record { fit = e.0; real = offsets_real (offset_entries first from cs); short = omega arith })

module _ (t : Ty) (n : Bool) where
  -- the stream of the elements
  pub elements_stream : (first : Bool) (from : ℕ) (cs : List Chunk) → Chunks (list t n) cs → length (all_elements (stream_cells cs)) < 2 ^ 64
      → Chunks t (column 0 (list_splits t n first from cs)) × (stream_cells (column 0 (list_splits t n first from cs)) ≡ all_elements (stream_cells cs))
  elements_stream first from [] h lt = (tt, refl)
  elements_stream first from (c ∷ cs) h lt =
      let e : length (all_elements (cells c.1 ++ stream_cells cs)) ≡ length (all_elements (cells c.1)) + length (all_elements (stream_cells cs)) =
      ap length (elements_append (cells c.1) (stream_cells cs)) ∙ length-append (all_elements (cells c.1)) (all_elements (stream_cells cs)) in
      let r : Chunks t (column 0 (list_splits t n false (from + length (all_elements (cells c.1))) cs)) × (stream_cells (column 0 (list_splits t n false (from + length (all_elements (cells c.1))) cs)) ≡ all_elements (stream_cells cs)) =
      elements_stream false (from + length (all_elements (cells c.1))) cs h.1 (omega arith) in
      ((elements_piece t n c.1 h.0 (omega arith), r.0), ap (λ z. all_elements (cells c.1) ++ z) r.1 ∙ sym (elements_append (cells c.1) (stream_cells cs)))

  -- the stream of the offsets behind the first chunk
  offsets_behind : (from : ℕ) (cs : List Chunk) → from + length (all_elements (stream_cells cs)) < 2 ^ 64 → suc (length (stream_cells cs)) < 2 ^ 64
      → Chunks offset_type (column 1 (other_columns (list_splits t n false from cs))) × (stream_cells (column 1 (other_columns (list_splits t n false from cs))) ≡ map offset_cell (ends from (stream_cells cs)))
  offsets_behind from [] lt many = (tt, refl)
  offsets_behind from (c ∷ cs) lt many =
      let e : length (all_elements (cells c.1 ++ stream_cells cs)) ≡ length (all_elements (cells c.1)) + length (all_elements (stream_cells cs)) =
      ap length (elements_append (cells c.1) (stream_cells cs)) ∙ length-append (all_elements (cells c.1)) (all_elements (stream_cells cs)) in
      let l : length (cells c.1 ++ stream_cells cs) ≡ length (cells c.1) + length (stream_cells cs) = length-append (cells c.1) (stream_cells cs) in
      let r : Chunks offset_type (column 1 (other_columns (list_splits t n false (from + length (all_elements (cells c.1))) cs)))
      × (stream_cells (column 1 (other_columns (list_splits t n false (from + length (all_elements (cells c.1))) cs))) ≡ map offset_cell (ends (from + length (all_elements (cells c.1))) (stream_cells cs))) =
      offsets_behind (from + length (all_elements (cells c.1))) cs (omega arith) (omega arith) in (
        (offsets_piece false from (cells c.1) (omega arith) (omega arith), r.0),
        ap (λ z. map offset_cell (ends from (cells c.1)) ++ z) r.1
            ∙ sym (ap (map offset_cell) (ends_append from (cells c.1) (stream_cells cs)) ∙ map-append offset_cell (ends from (cells c.1)) (ends (from + length (all_elements (cells c.1))) (stream_cells cs))),
      )

  pub offsets_stream : (c : Chunk) (cs : List Chunk) → length (all_elements (stream_cells (c ∷ cs))) < 2 ^ 64 → suc (length (stream_cells (c ∷ cs))) < 2 ^ 64
      → Chunks offset_type (column 1 (other_columns (list_splits t n true 0 (c ∷ cs)))) × (stream_cells (column 1 (other_columns (list_splits t n true 0 (c ∷ cs)))) ≡ map offset_cell (0 ∷ ends 0 (stream_cells (c ∷ cs))))
  offsets_stream c cs lt many =
      let e : length (all_elements (cells c.1 ++ stream_cells cs)) ≡ length (all_elements (cells c.1)) + length (all_elements (stream_cells cs)) =
      ap length (elements_append (cells c.1) (stream_cells cs)) ∙ length-append (all_elements (cells c.1)) (all_elements (stream_cells cs)) in
      let l : length (cells c.1 ++ stream_cells cs) ≡ length (cells c.1) + length (stream_cells cs) = length-append (cells c.1) (stream_cells cs) in
      let r : Chunks offset_type (column 1 (other_columns (list_splits t n false (0 + length (all_elements (cells c.1))) cs)))
      × (stream_cells (column 1 (other_columns (list_splits t n false (0 + length (all_elements (cells c.1))) cs))) ≡ map offset_cell (ends (0 + length (all_elements (cells c.1))) (stream_cells cs))) =
      offsets_behind (0 + length (all_elements (cells c.1))) cs (omega arith) (omega arith) in (
        (offsets_piece true 0 (cells c.1) (omega arith) (omega arith), r.0),
        ap (λ z. map offset_cell (0 ∷ ends 0 (cells c.1)) ++ z) r.1
            ∙ ap (λ z. offset_cell 0 ∷ z) (sym (ap (map offset_cell) (ends_append 0 (cells c.1) (stream_cells cs)) ∙ map-append offset_cell (ends 0 (cells c.1)) (ends (0 + length (all_elements (cells c.1))) (stream_cells cs)))),
      )

-- the stream of the flags
pub list_validity_stream : (t : Ty) (first : Bool) (from : ℕ) (cs : List Chunk) → Chunks (list t true) cs
    → Chunks (boolean false) (column 2 (other_columns (other_columns (list_splits t true first from cs))))
    × (stream_cells (column 2 (other_columns (other_columns (list_splits t true first from cs)))) ≡ map bool_cell (map flag_of (stream_cells cs)))
list_validity_stream t first from [] h = (tt, refl)
list_validity_stream t first from (c ∷ cs) h =
    let r : Chunks (boolean false) (column 2 (other_columns (other_columns (list_splits t true false (from + length (all_elements (cells c.1))) cs))))
    × (stream_cells (column 2 (other_columns (other_columns (list_splits t true false (from + length (all_elements (cells c.1))) cs)))) ≡ map bool_cell (map flag_of (stream_cells cs))) =
    list_validity_stream t false (from + length (all_elements (cells c.1))) cs h.1 in (
      (validity_of c.1 (cells_fine (list t true) c.1 h.0).short, r.0),
      ap (λ z. map bool_cell (map flag_of (cells c.1)) ++ z) r.1
          ∙ sym (ap (map bool_cell) (map-append flag_of (cells c.1) (stream_cells cs)) ∙ map-append bool_cell (map flag_of (cells c.1)) (map flag_of (stream_cells cs))),
    )
