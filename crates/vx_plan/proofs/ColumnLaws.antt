-- The laws of struct and list nodes.
use Rattle.std.proofs.Common.{◌≡◌, ℕ, suc, ◌+◌, ◌<◌, ◌≤◌, ◌^◌, ◌⊎◌, ◌||◌, Bool, true, false, List, [], ◌∷◌, ◌++◌, map, length, Option, Some, None, refl, sym, ap, ap₂, ◌∙◌, subst, inl, inr, ⊎_elim, arith, length-append, eq-eqb}
use Rattle.std.specs.Prelude.{if◌then◌else◌, ◌==◌, ◌&&◌}
use Rattle.std.proofs.lemmas.List.{length-map}
use Rattle.vx_model.specs.Words.{all_by}
use Rattle.vx_model.specs.Ty.{Ty, Tys, boolean, list, struct, no_fields, field}
use Rattle.vx_model.specs.ValueData.{ValueData, value}
use Rattle.vx_model.specs.CellData.{CellData, fits, bool_cell}
use Rattle.vx_model.specs.ChunkData.{cells}
use Rattle.vx_path.specs.Lists.{In}
use Rattle.vx_path.specs.Path.{Eof, Region, begins, Scattered, meets, raised, inside, next, under}
use Rattle.vx_path.proofs.Lists.{in_cases}
use Rattle.vx_path.proofs.Path.{begins-refl, begins-trans, begins-under, meets-sym, under_apart, raised_apart, raised-next}
use Rattle.vx_layout_spec.specs.Rows.{and_then, counted, struct_rows, list_rows, under_validity, has_count, zipped, kept_rows, lists_of}
use Rattle.vx_layout_spec.specs.LayoutTree.{LayoutData, layout_type, struct_layout, list_layout}
use Rattle.vx_rules.specs.Stream.{Chunk, Chunks, stream_cells, chunk_paths}
use Rattle.vx_rules.specs.Columns.{Split, struct_splits, list_splits, column, other_columns, offset_cell, offset_type}
use Rattle.vx_layout_spec.specs.Parts.{flag_of, all_elements, ends}
use Rattle.vx_layout_spec.proofs.CellsFit.{all_append}
use Rattle.vx_rules.proofs.CellLaws.{cells_fine}
use Rattle.vx_rules.proofs.ColumnCells.{field_cells, column_values, inner_value, zipped_fields, flags_keep, structs_valid, lists_valid}
use Rattle.vx_rules.proofs.ColumnStreams.{split_paths, unders, column_paths, other_paths, struct_paths, list_paths, column-append, other_columns-append, struct_splits-append, list_splits_begin, field_streams, StreamsOf, streams_cells, streams_are, chunk_cells, all_chunk_cells, struct_shows, nullable_shows, validity_stream, lists_are, elements_stream, offsets_stream, list_validity_stream, elements_append}
use Rattle.vx_plan.specs.PlanData.{Setting, Item, Plan, Node, paths, places, stream_values, summed, totals, rows_in, row_total}
use Rattle.vx_plan.specs.ChunkedNode.{all_pairs, all_faults, all_numbers, all_layouts, all_reserved}
use Rattle.vx_plan.specs.ColumnNodes.{Column, marked, column_plans, beside, not_struct_node, struct_writers, column_numbers, struct_plans, struct_node, list_writers, elements_in, list_numbers, list_plans, list_columns_plan, list_node}
use Rattle.vx_plan.specs.Valid.{Fit}
use Rattle.vx_plan.specs.Statements.{Within}
use Rattle.vx_plan.proofs.Relate.{Fields}
use Rattle.vx_plan.proofs.PlanLists.{ItemsOf, Holds, Gives, gives_same, ReadAll, all_there_read, all_zones, counted_same, Grow, grow_none, grow_more, nil_left, nil_right, fit_left, fit_right, fit_both, fit_last, fit_before, holds_left, holds_right, row_total_cells, stream_values_cells, within, within_itself}
use Rattle.vx_plan.proofs.Spots.{Apart, Lies, lies_none, scattered_both, apart_both, inside_begins, apart_next}
use Rattle.vx_plan.proofs.FlatLaws.{Reads, Placed, Grows, Typed, cons_nil}
use Rattle.vx_plan.proofs.ChunkedLaws.{paths-append}

-- ---- rows of structs

abbrev pub streams_values : List (List Chunk) → List (List ValueData)
streams_values [] = []
streams_values (s ∷ ss) = stream_values s ∷ streams_values ss

streams_values_cells : (ss : List (List Chunk)) → streams_values ss ≡ column_values (streams_cells ss)
streams_values_cells [] = refl
streams_values_cells (s ∷ ss) = ap₂ (λ x y. x ∷ y) (stream_values_cells s) (streams_values_cells ss)

fields_read : (admitted : Bool) (s : Setting) (fs : Tys) (ks : List Node) → Fields (λ t k. Reads admitted s t k) fs ks → (m : Bool) (c : ℕ) (xs : List Split) (e : Eof)
    → StreamsOf fs (field_streams fs c xs) → all_faults (column_plans (marked m ks) c xs true e) ≡ [] → Fit (all_numbers (column_plans (marked m ks) c xs true e))
    → (look : List ℕ → Option (List ℕ)) → Holds look (all_pairs (column_plans (marked m ks) c xs true e))
    → ReadAll admitted s look (all_layouts (column_plans (marked m ks) c xs true e)) (streams_values (field_streams fs c xs))
fields_read admitted s no_fields [] r m c xs e of clean fit look held = tt
fields_read admitted s no_fields (k ∷ ks) r m c xs e of clean fit look held = absurd r
fields_read admitted s (field name t fs) [] r m c xs e of clean fit look held = absurd r
fields_read admitted s (field name t fs) (k ∷ ks) r m c xs e of clean fit look held =
    let p : Plan = k m (column c xs) true (inside e) in
    let ps : List Plan = column_plans (marked m ks) (suc c) (other_columns xs) true (next e) in (
      r.0.reads m (column c xs) (inside e) of.0 (nil_left p.faults (all_faults ps) clean) (fit_left p.numbers (all_numbers ps) fit) look (holds_left look p.pairs (all_pairs ps) held),
      fields_read admitted s fs ks r.1 m (suc c) (other_columns xs) (next e) of.1 (nil_right p.faults (all_faults ps) clean) (fit_right p.numbers (all_numbers ps) fit) look (holds_right look p.pairs (all_pairs ps) held),
    )

counts_ok : (fs : Tys) (cs : List CellData) (n : ℕ) → length cs ≡ n → all_by (has_count n) (column_values (field_cells fs cs)) ≡ true
counts_ok no_fields cs n e = refl
counts_ok (field name t fs) cs n e = go (length (map value (map Rattle.vx_layout_spec.specs.Parts.first_of cs)) == n)
    (eq-eqb (length (map value (map Rattle.vx_layout_spec.specs.Parts.first_of cs))) n (length-map (map Rattle.vx_layout_spec.specs.Parts.first_of cs) value ∙ length-map cs Rattle.vx_layout_spec.specs.Parts.first_of ∙ e))
    (counts_ok fs (map Rattle.vx_layout_spec.specs.Parts.others_of cs) n (length-map cs Rattle.vx_layout_spec.specs.Parts.others_of ∙ e))
  where
    go : (b : Bool) {c : Bool} → b ≡ true → c ≡ true → (b && c) ≡ true
    go b e f = rw (e, f) refl

-- the rows of structs from their columns
struct_rows_are : (fs : Tys) (cs : List CellData) (n : ℕ) → length cs ≡ n → all_by (fits (struct fs false)) cs ≡ true
    → struct_rows false n (column_values (field_cells fs cs)) ≡ Some (map value cs)
struct_rows_are fs cs n e h =
    ap (λ b. if b then Some (zipped n (column_values (field_cells fs cs))) else None) (counts_ok fs cs n e)
    ∙ ap Some (ap (λ k. zipped k (column_values (field_cells fs cs))) (sym e) ∙ zipped_fields fs false cs h ∙ structs_valid fs cs h)

under_flags : (cs : List CellData) (n : ℕ) → length cs ≡ n → under_validity n (map value (map bool_cell (map flag_of cs))) (map inner_value cs) ≡ Some (map value cs)
under_flags cs n e =
    ap (λ b. if b then Some (kept_rows (map value (map bool_cell (map flag_of cs))) (map inner_value cs)) else None)
    (eq-eqb (length (map value (map bool_cell (map flag_of cs)))) n (length-map (map bool_cell (map flag_of cs)) value ∙ length-map (map flag_of cs) bool_cell ∙ length-map cs flag_of ∙ e))
    ∙ ap Some (flags_keep cs)

nullable_rows_are : (fs : Tys) (cs : List CellData) (n : ℕ) → length cs ≡ n → all_by (fits (struct fs true)) cs ≡ true
    → struct_rows true n (map value (map bool_cell (map flag_of cs)) ∷ column_values (field_cells fs cs)) ≡ Some (map value cs)
nullable_rows_are fs cs n e h =
    ap (and_then (under_validity n (map value (map bool_cell (map flag_of cs)))))
    (ap (λ b. if b then Some (zipped n (column_values (field_cells fs cs))) else None) (counts_ok fs cs n e)
    ∙ ap Some (ap (λ k. zipped k (column_values (field_cells fs cs))) (sym e) ∙ zipped_fields fs true cs h))
    ∙ under_flags cs n e

-- the cells of a stream fit its type
stream_fits : (t : Ty) (cs : List Chunk) → Chunks t cs → all_by (fits t) (stream_cells cs) ≡ true
stream_fits t [] h = refl
stream_fits t (c ∷ cs) h = all_append (fits t) (cells c.1) (stream_cells cs) (cells_fine t c.1 h.0).fit (stream_fits t cs h.1)

struct_layout_rows : {A : Type 0} (admitted : Bool) (s : Setting) (look : A → Option (List ℕ)) (fs : Tys) (m : Bool) (n : ℕ) (ls : List (LayoutData A)) (vss : List (List ValueData)) (out : List ValueData)
    → ReadAll admitted s look ls vss → struct_rows m n vss ≡ Some out → length out ≡ n → Gives admitted s look (struct_layout (struct fs m) n ls) out
struct_layout_rows admitted s look fs m n ls vss out r e l = record {
  read = ap (λ z. and_then (counted n) (and_then (struct_rows m n) z)) (all_there_read admitted s look ls vss r) ∙ ap (and_then (counted n)) e ∙ counted_same n out l;
  zones = λ a. (tt, all_zones admitted s look ls vss r a);
}

values_length : (items : List Item) → length (map value (stream_cells items)) ≡ row_total items
values_length items = length-map (stream_cells items) value ∙ sym (row_total_cells items)

field_values : (fs : Tys) (c : ℕ) (xs : List Split) (items : List Item) → streams_cells (field_streams fs c xs) ≡ field_cells fs (Rattle.vx_rules.proofs.ColumnStreams.all_cells (chunk_cells items))
    → streams_values (field_streams fs c xs) ≡ column_values (field_cells fs (stream_cells items))
field_values fs c xs items h =
    streams_values_cells (field_streams fs c xs) ∙ ap column_values h ∙ ap (λ z. column_values (field_cells fs z)) (all_chunk_cells items)

nullable_reads : (admitted : Bool) (s : Setting) (fs : Tys) (v : Node) (ks : List Node) → Reads admitted s (boolean false) v → Fields (λ t k. Reads admitted s t k) fs ks
    → Reads admitted s (struct fs true) (struct_node fs true None v ks)
nullable_reads admitted s fs v ks rv rs = record { reads = go }
  where
    go : (m : Bool) (items : List Item) (e : Eof) → ItemsOf (struct fs true) items → (struct_node fs true None v ks m items true e).faults ≡ [] → Fit (struct_node fs true None v ks m items true e).numbers
        → (look : List ℕ → Option (List ℕ)) → Holds look (struct_node fs true None v ks m items true e).pairs
        → Gives admitted s look (struct_node fs true None v ks m items true e).layout (stream_values items)
    go m items e of clean fit look held =
        let xs : List Split = struct_splits fs true items in
        let p : Plan = v m (column 0 xs) true (inside e) in
        let ps : List Plan = column_plans (marked (m || true) ks) 1 (other_columns xs) true (next e) in
        let flags : Chunks (boolean false) (column 0 xs) × (stream_cells (column 0 xs) ≡ map bool_cell (map flag_of (stream_cells items))) = validity_stream fs items of in
        let fields : StreamsOf fs (field_streams fs 1 (other_columns xs)) × (streams_cells (field_streams fs 1 (other_columns xs)) ≡ field_cells fs (Rattle.vx_rules.proofs.ColumnStreams.all_cells (chunk_cells items))) =
        streams_are fs 1 (other_columns xs) (chunk_cells items) (nullable_shows fs items of) in
        let numbers : Fit (p.numbers ++ all_numbers ps) = fit_right (column_numbers items (struct_writers true m v ks) e) (p.numbers ++ all_numbers ps) fit in
        let first : Gives admitted s look p.layout (stream_values (column 0 xs)) =
        rv.reads m (column 0 xs) (inside e) flags.0 (nil_left p.faults (all_faults ps) clean) (fit_left p.numbers (all_numbers ps) numbers) look (holds_left look p.pairs (all_pairs ps) held) in
        let others : ReadAll admitted s look (all_layouts ps) (streams_values (field_streams fs 1 (other_columns xs))) =
        fields_read admitted s fs ks rs (m || true) 1 (other_columns xs) (next e) fields.0 (nil_right p.faults (all_faults ps) clean) (fit_right p.numbers (all_numbers ps) numbers) look (holds_right look p.pairs (all_pairs ps) held) in
        gives_same admitted s look (struct_node fs true None v ks m items true e).layout (map value (stream_cells items)) (stream_values items)
        (struct_layout_rows admitted s look fs true (row_total items) (p.layout ∷ all_layouts ps) (stream_values (column 0 xs) ∷ streams_values (field_streams fs 1 (other_columns xs))) (map value (stream_cells items))
        (first, others)
        (ap₂ (λ x y. struct_rows true (row_total items) (x ∷ y)) (stream_values_cells (column 0 xs) ∙ ap (map value) flags.1) (field_values fs 1 (other_columns xs) items fields.1)
        ∙ nullable_rows_are fs (stream_cells items) (row_total items) (sym (row_total_cells items)) (stream_fits (struct fs true) items of))
        (values_length items))
        (sym (stream_values_cells items))

plain_reads : (admitted : Bool) (s : Setting) (fs : Tys) (v : Node) (ks : List Node) → Fields (λ t k. Reads admitted s t k) fs ks
    → Reads admitted s (struct fs false) (struct_node fs false None v ks)
plain_reads admitted s fs v ks rs = record { reads = go }
  where
    go : (m : Bool) (items : List Item) (e : Eof) → ItemsOf (struct fs false) items → (struct_node fs false None v ks m items true e).faults ≡ [] → Fit (struct_node fs false None v ks m items true e).numbers
        → (look : List ℕ → Option (List ℕ)) → Holds look (struct_node fs false None v ks m items true e).pairs
        → Gives admitted s look (struct_node fs false None v ks m items true e).layout (stream_values items)
    go m items e of clean fit look held =
        let xs : List Split = struct_splits fs false items in
        let ps : List Plan = column_plans (marked (m || false) ks) 0 xs true e in
        let fields : StreamsOf fs (field_streams fs 0 xs) × (streams_cells (field_streams fs 0 xs) ≡ field_cells fs (Rattle.vx_rules.proofs.ColumnStreams.all_cells (chunk_cells items))) =
        streams_are fs 0 xs (chunk_cells items) (struct_shows fs items of) in
        let read : ReadAll admitted s look (all_layouts ps) (streams_values (field_streams fs 0 xs)) =
        fields_read admitted s fs ks rs (m || false) 0 xs e fields.0 clean (fit_right (column_numbers items (struct_writers false m v ks) e) (all_numbers ps) fit) look held in
        gives_same admitted s look (struct_node fs false None v ks m items true e).layout (map value (stream_cells items)) (stream_values items)
        (struct_layout_rows admitted s look fs false (row_total items) (all_layouts ps) (streams_values (field_streams fs 0 xs)) (map value (stream_cells items))
        read
        (ap (struct_rows false (row_total items)) (field_values fs 0 xs items fields.1)
        ∙ struct_rows_are fs (stream_cells items) (row_total items) (sym (row_total_cells items)) (stream_fits (struct fs false) items of))
        (values_length items))
        (sym (stream_values_cells items))

pub struct_reads : (admitted : Bool) (s : Setting) (fs : Tys) (n : Bool) (dup : Option (List ℕ)) (v : Node) (ks : List Node) → Reads admitted s (boolean false) v → Fields (λ t k. Reads admitted s t k) fs ks
    → Reads admitted s (struct fs n) (struct_node fs n dup v ks)
struct_reads admitted s fs n (Some name) v ks rv rs = record { reads = λ m items e of clean fit look held. absurd (cons_nil clean) }
struct_reads admitted s fs true None v ks rv rs = nullable_reads admitted s fs v ks rv rs
struct_reads admitted s fs false None v ks rv rs = plain_reads admitted s fs v ks rs

pub not_struct_reads : (admitted : Bool) (s : Setting) (t : Ty) → Reads admitted s t (not_struct_node t)
not_struct_reads admitted s t = record { reads = λ m items e of clean fit look held. absurd (cons_nil clean) }

-- ---- rows of lists

list_layout_rows : {A : Type 0} (admitted : Bool) (s : Setting) (look : A → Option (List ℕ)) (t : Ty) (m : Bool) (n : ℕ) (ls : List (LayoutData A)) (vss : List (List ValueData)) (out : List ValueData)
    → ReadAll admitted s look ls vss → list_rows m n vss ≡ Some out → length out ≡ n → Gives admitted s look (list_layout (list t m) n ls) out
list_layout_rows admitted s look t m n ls vss out r e l = record {
  read = ap (λ z. and_then (counted n) (and_then (list_rows m n) z)) (all_there_read admitted s look ls vss r) ∙ ap (and_then (counted n)) e ∙ counted_same n out l;
  zones = λ a. (tt, all_zones admitted s look ls vss r a);
}

summed_elements : (items : List Item) → summed elements_in items ≡ length (all_elements (stream_cells items))
summed_elements [] = refl
summed_elements (i ∷ is) =
    ap (λ n. length (all_elements (cells i.1)) + n) (summed_elements is)
    ∙ sym (length-append (all_elements (cells i.1)) (all_elements (stream_cells is)))
    ∙ ap length (sym (elements_append (cells i.1) (stream_cells is)))

-- what the numbers of a list node tell of its offsets and elements, and those of its columns
pub record ListFits (items : List Item) (ns : List ℕ) : Type 0 where
  pub offsets : suc (length (stream_cells items)) < 2 ^ 64
  pub elements : length (all_elements (stream_cells items)) < 2 ^ 64
  pub columns : Fit ns

pub list_fits : (items : List Item) (ks : List Column) (e : Eof) (ns : List ℕ) → Fit (list_numbers items ks e ++ ns) → ListFits items ns
list_fits items ks e ns h =
    let own : (1 + row_total items < 2 ^ 64) × Fit (totals elements_in 0 items ++ column_numbers items ks e) =
    fit_last rows_in 1 items (totals elements_in 0 items ++ column_numbers items ks e) (omega arith) (fit_left (list_numbers items ks e) ns h) in
    let all : (0 + summed elements_in items < 2 ^ 64) × Fit (column_numbers items ks e) = fit_last elements_in 0 items (column_numbers items ks e) (omega arith) own.1 in
    record {
      offsets = let a : 1 + row_total items < 2 ^ 64 = own.0 in let b : row_total items ≡ length (stream_cells items) = row_total_cells items in omega arith;
      elements = let a : 0 + summed elements_in items < 2 ^ 64 = all.0 in let b : summed elements_in items ≡ length (all_elements (stream_cells items)) = summed_elements items in omega arith;
      columns = fit_right (list_numbers items ks e) ns h;
    }

pub list_reads : (admitted : Bool) (s : Setting) (t : Ty) (n : Bool) (es os v : Node) → Reads admitted s t es → Reads admitted s offset_type os → Reads admitted s (boolean false) v → Reads admitted s (list t n) (list_node t n es os v)
list_reads admitted s t n es os v re ro rv = record { reads = go n re ro rv }
  where
    go : (n : Bool) → Reads admitted s t es → Reads admitted s offset_type os → Reads admitted s (boolean false) v
        → (m : Bool) (items : List Item) (e : Eof) → ItemsOf (list t n) items → (list_node t n es os v m items true e).faults ≡ [] → Fit (list_node t n es os v m items true e).numbers
        → (look : List ℕ → Option (List ℕ)) → Holds look (list_node t n es os v m items true e).pairs
        → Gives admitted s look (list_node t n es os v m items true e).layout (stream_values items)
    go n re ro rv m [] e of clean fit look held = absurd (cons_nil clean)
    go false re ro rv m (i ∷ is) e of clean fit look held =
        let items : List Item = i ∷ is in
        let xs : List Split = list_splits t false true 0 (i ∷ is) in
        let p : Plan = es m (column 0 xs) true (inside e) in
        let q : Plan = os m (column 1 (other_columns xs)) true (inside (next e)) in
        let fits : ListFits (i ∷ is) (p.numbers ++ (q.numbers ++ [])) = list_fits (i ∷ is) (list_writers false m es os v) e (p.numbers ++ (q.numbers ++ [])) fit in
        let numbers : Fit (p.numbers ++ (q.numbers ++ [])) = fits.columns in
        let elements : Chunks t (column 0 xs) × (stream_cells (column 0 xs) ≡ all_elements (stream_cells (i ∷ is))) = elements_stream t false true 0 (i ∷ is) of fits.elements in
        let offsets : Chunks offset_type (column 1 (other_columns xs)) × (stream_cells (column 1 (other_columns xs)) ≡ map offset_cell (0 ∷ ends 0 (stream_cells (i ∷ is)))) =
        offsets_stream t false i is fits.elements fits.offsets in
        let first : Gives admitted s look p.layout (stream_values (column 0 xs)) =
        re.reads m (column 0 xs) (inside e) elements.0 (nil_left p.faults (q.faults ++ []) clean) (fit_left p.numbers (q.numbers ++ []) numbers) look (holds_left look p.pairs (q.pairs ++ []) held) in
        let second : Gives admitted s look q.layout (stream_values (column 1 (other_columns xs))) =
        ro.reads m (column 1 (other_columns xs)) (inside (next e)) offsets.0 (nil_left q.faults [] (nil_right p.faults (q.faults ++ []) clean)) (fit_left q.numbers [] (fit_right p.numbers (q.numbers ++ []) numbers)) look
        (holds_left look q.pairs [] (holds_right look p.pairs (q.pairs ++ []) held)) in
        gives_same admitted s look (list_node t false es os v m (i ∷ is) true e).layout (map value (stream_cells (i ∷ is))) (stream_values (i ∷ is))
        (list_layout_rows admitted s look t false (row_total (i ∷ is)) (p.layout ∷ q.layout ∷ []) (stream_values (column 0 xs) ∷ stream_values (column 1 (other_columns xs)) ∷ []) (map value (stream_cells (i ∷ is)))
        (first, (second, tt))
        (ap₂ (λ x y. lists_of x y) (stream_values_cells (column 0 xs) ∙ ap (map value) elements.1) (stream_values_cells (column 1 (other_columns xs)) ∙ ap (map value) offsets.1)
        ∙ lists_are t false (stream_cells (i ∷ is)) (stream_fits (list t false) (i ∷ is) of)
        ∙ ap Some (lists_valid t (stream_cells (i ∷ is)) (stream_fits (list t false) (i ∷ is) of)))
        (values_length (i ∷ is)))
        (sym (stream_values_cells (i ∷ is)))
    go true re ro rv m (i ∷ is) e of clean fit look held =
        let xs : List Split = list_splits t true true 0 (i ∷ is) in
        let p : Plan = es m (column 0 xs) true (inside e) in
        let q : Plan = os m (column 1 (other_columns xs)) true (inside (next e)) in
        let r : Plan = v m (column 2 (other_columns (other_columns xs))) true (inside (next (next e))) in
        let fits : ListFits (i ∷ is) (p.numbers ++ (q.numbers ++ (r.numbers ++ []))) = list_fits (i ∷ is) (list_writers true m es os v) e (p.numbers ++ (q.numbers ++ (r.numbers ++ []))) fit in
        let count : row_total (i ∷ is) ≡ length (stream_cells (i ∷ is)) = row_total_cells (i ∷ is) in
        let numbers : Fit (p.numbers ++ (q.numbers ++ (r.numbers ++ []))) = fits.columns in
        let elements : Chunks t (column 0 xs) × (stream_cells (column 0 xs) ≡ all_elements (stream_cells (i ∷ is))) = elements_stream t true true 0 (i ∷ is) of fits.elements in
        let offsets : Chunks offset_type (column 1 (other_columns xs)) × (stream_cells (column 1 (other_columns xs)) ≡ map offset_cell (0 ∷ ends 0 (stream_cells (i ∷ is)))) =
        offsets_stream t true i is fits.elements fits.offsets in
        let flags : Chunks (boolean false) (column 2 (other_columns (other_columns xs))) × (stream_cells (column 2 (other_columns (other_columns xs))) ≡ map bool_cell (map flag_of (stream_cells (i ∷ is)))) =
        list_validity_stream t true 0 (i ∷ is) of in
        let first : Gives admitted s look p.layout (stream_values (column 0 xs)) =
        re.reads m (column 0 xs) (inside e) elements.0 (nil_left p.faults (q.faults ++ (r.faults ++ [])) clean) (fit_left p.numbers (q.numbers ++ (r.numbers ++ [])) numbers) look (holds_left look p.pairs (q.pairs ++ (r.pairs ++ [])) held) in
        let second : Gives admitted s look q.layout (stream_values (column 1 (other_columns xs))) =
        ro.reads m (column 1 (other_columns xs)) (inside (next e)) offsets.0 (nil_left q.faults (r.faults ++ []) (nil_right p.faults (q.faults ++ (r.faults ++ [])) clean))
        (fit_left q.numbers (r.numbers ++ []) (fit_right p.numbers (q.numbers ++ (r.numbers ++ [])) numbers)) look
        (holds_left look q.pairs (r.pairs ++ []) (holds_right look p.pairs (q.pairs ++ (r.pairs ++ [])) held)) in
        let third : Gives admitted s look r.layout (stream_values (column 2 (other_columns (other_columns xs)))) =
        rv.reads m (column 2 (other_columns (other_columns xs))) (inside (next (next e))) flags.0
        (nil_left r.faults [] (nil_right q.faults (r.faults ++ []) (nil_right p.faults (q.faults ++ (r.faults ++ [])) clean)))
        (fit_left r.numbers [] (fit_right q.numbers (r.numbers ++ []) (fit_right p.numbers (q.numbers ++ (r.numbers ++ [])) numbers))) look
        (holds_left look r.pairs [] (holds_right look q.pairs (r.pairs ++ []) (holds_right look p.pairs (q.pairs ++ (r.pairs ++ [])) held))) in
        gives_same admitted s look (list_node t true es os v m (i ∷ is) true e).layout (map value (stream_cells (i ∷ is))) (stream_values (i ∷ is))
        (list_layout_rows admitted s look t true (row_total (i ∷ is)) (p.layout ∷ q.layout ∷ r.layout ∷ [])
        (stream_values (column 0 xs) ∷ stream_values (column 1 (other_columns xs)) ∷ stream_values (column 2 (other_columns (other_columns xs))) ∷ []) (map value (stream_cells (i ∷ is)))
        (first, (second, (third, tt)))
        (ap₂ (λ x y. and_then (under_validity (row_total (i ∷ is)) (stream_values (column 2 (other_columns (other_columns xs))))) (lists_of x y))
        (stream_values_cells (column 0 xs) ∙ ap (map value) elements.1) (stream_values_cells (column 1 (other_columns xs)) ∙ ap (map value) offsets.1)
        ∙ ap (and_then (under_validity (row_total (i ∷ is)) (stream_values (column 2 (other_columns (other_columns xs)))))) (lists_are t true (stream_cells (i ∷ is)) (stream_fits (list t true) (i ∷ is) of))
        ∙ ap (λ z. under_validity (row_total (i ∷ is)) z (map inner_value (stream_cells (i ∷ is)))) (stream_values_cells (column 2 (other_columns (other_columns xs))) ∙ ap (map value) flags.1)
        ∙ under_flags (stream_cells (i ∷ is)) (row_total (i ∷ is)) (sym count))
        (values_length (i ∷ is)))
        (sym (stream_values_cells (i ∷ is)))

-- ---- paths

-- from column c on below the stream's paths, or at e and behind
abbrev pub Beyond : ℕ → List (List ℕ) → Eof → List ℕ → Type 0
Beyond c ps e x = ((p : List ℕ) × In p ps × ((j : ℕ) × (c ≤ j) × (begins (under p j) x ≡ true))) ⊎ ((j : ℕ) × (begins (raised e j) x ≡ true))

-- each of some writers, of whatever types, keeps to its region
abbrev pub AllPlaced : List Column → Type 0
AllPlaced [] = Unit {0}
AllPlaced (k ∷ ks) = ((items : List Item) (ended : Bool) (e : Eof) → Apart (places items) e → Lies (Region (places items) e) (paths (k items ended e).pairs)) × AllPlaced ks

scattered_pair : (ps : List (List ℕ)) → Scattered ps → (p q : List ℕ) → In p ps → In q ps → (p ≡ q) ⊎ (meets p q ≡ false)
scattered_pair [] s p q i j = absurd i
scattered_pair (r ∷ ps) s p q (inl a) (inl b) = inl (a ∙ sym b)
scattered_pair (r ∷ ps) s p q (inl a) (inr b) = inr (subst (λ z. meets z q ≡ false) (sym a) (s.0 q b))
scattered_pair (r ∷ ps) s p q (inr a) (inl b) = inr (meets-sym p q ∙ subst (λ z. meets z p ≡ false) (sym b) (s.0 p a))
scattered_pair (r ∷ ps) s p q (inr a) (inr b) = scattered_pair ps s.1 p q a b

from_unders : (c : ℕ) (ps : List (List ℕ)) (x : List ℕ) → In x (unders c ps) → (p : List ℕ) × In p ps × (x ≡ under p c)
from_unders c [] x h = absurd h
from_unders c (p ∷ ps) x h = ⊎_elim (λ e. (p, inl refl, e)) (λ t. let r : (q : List ℕ) × In q ps × (x ≡ under q c) = from_unders c ps x t in (r.0, inr r.1, r.2)) h

unders_scattered : (c : ℕ) (ps : List (List ℕ)) → Scattered ps → Scattered (unders c ps)
unders_scattered c [] s = tt
unders_scattered c (p ∷ ps) s = (
  λ q h. let r : (z : List ℕ) × In z ps × (q ≡ under z c) = from_unders c ps q h in
      subst (λ z. meets (under p c) z ≡ false) (sym r.2) (apart_both p r.0 (under p c) (under r.0 c) (s.0 r.0 r.1) (begins-under p c) (begins-under r.0 c)),
  unders_scattered c ps s.1,
)

unders_apart : (c : ℕ) (ps : List (List ℕ)) (e : Eof) → Apart ps e → Apart (unders c ps) (inside e)
unders_apart c ps e a = record {
  scattered = unders_scattered c ps a.scattered;
  off = λ x i j. let r : (p : List ℕ) × In p ps × (x ≡ under p c) = from_unders c ps x i in
      subst (λ z. meets z (raised (inside e) j) ≡ false) (sym r.2)
      (apart_both r.0 (raised e 0) (under r.0 c) (raised (inside e) j) (a.off r.0 r.1 0) (begins-under r.0 c) (inside_begins e j (raised (inside e) j) (begins-refl (raised (inside e) j))));
}

-- the paths of column c, and those of the columns behind it
beside_lies : (c : ℕ) (ps : List (List ℕ)) (e : Eof) (us bs : List (List ℕ)) → Apart ps e → Lies (Region (unders c ps) (inside e)) us → Lies (Beyond (suc c) ps (next e)) bs
    → Lies (Beyond c ps e) (us ++ bs)
beside_lies c ps e us bs a l r = record {
  scattered = scattered_both us bs l.scattered r.scattered (λ x y i j. cross x y (l.within x i) (r.within y j));
  within = λ x h. ⊎_elim (λ i. first x (l.within x i)) (λ i. second x (r.within x i)) (in_cases x us bs h);
}
  where
    first : (x : List ℕ) → Region (unders c ps) (inside e) x → Beyond c ps e x
    first x (inl h) = let w : (p : List ℕ) × In p ps × (h.0 ≡ under p c) = from_unders c ps h.0 h.1 in inl (w.0, w.1, (c, omega arith, subst (λ z. begins z x ≡ true) w.2 h.2))
    first x (inr h) = inr (0, inside_begins e h.0 x h.1)

    second : (x : List ℕ) → Beyond (suc c) ps (next e) x → Beyond c ps e x
    second x (inl h) = let k : (j : ℕ) × (suc c ≤ j) × (begins (under h.0 j) x ≡ true) = h.2 in let le : suc c ≤ k.0 = k.1 in inl (h.0, h.1, (k.0, omega arith, k.2))
    second x (inr h) = inr (h.0 + 1, subst (λ z. begins z x ≡ true) (raised-next e h.0) h.1)

    two : (p q : List ℕ) (j : ℕ) (x y : List ℕ) → (p ≡ q) ⊎ (meets p q ≡ false) → suc c ≤ j → begins (under p c) x ≡ true → begins (under q j) y ≡ true → meets x y ≡ false
    two p q j x y (inl s) le b d = apart_both (under p c) (under p j) x y (under_apart p c j (omega arith)) b (subst (λ z. begins (under z j) y ≡ true) (sym s) d)
    two p q j x y (inr m) le b d = apart_both p q x y m (begins-trans p (under p c) x (begins-under p c) b) (begins-trans q (under q j) y (begins-under q j) d)

    cross : (x y : List ℕ) → Region (unders c ps) (inside e) x → Beyond (suc c) ps (next e) y → meets x y ≡ false
    cross x y (inl h) (inl k) =
        let w : (p : List ℕ) × In p ps × (h.0 ≡ under p c) = from_unders c ps h.0 h.1 in
        let v : (j : ℕ) × (suc c ≤ j) × (begins (under k.0 j) y ≡ true) = k.2 in
        two w.0 k.0 v.0 x y (scattered_pair ps a.scattered w.0 k.0 w.1 k.1) v.1 (subst (λ z. begins z x ≡ true) w.2 h.2) v.2
    cross x y (inl h) (inr k) =
        let w : (p : List ℕ) × In p ps × (h.0 ≡ under p c) = from_unders c ps h.0 h.1 in
        apart_both w.0 (raised e (k.0 + 1)) x y (a.off w.0 w.1 (k.0 + 1)) (begins-trans w.0 (under w.0 c) x (begins-under w.0 c) (subst (λ z. begins z x ≡ true) w.2 h.2)) (subst (λ z. begins z y ≡ true) (raised-next e k.0) k.1)
    cross x y (inr h) (inl k) =
        let v : (j : ℕ) × (suc c ≤ j) × (begins (under k.0 j) y ≡ true) = k.2 in
        apart_both (raised e 0) k.0 x y (meets-sym (raised e 0) k.0 ∙ a.off k.0 k.1 0) (inside_begins e h.0 x h.1) (begins-trans k.0 (under k.0 v.0) y (begins-under k.0 v.0) v.2)
    cross x y (inr h) (inr k) =
        apart_both (raised e 0) (raised e (k.0 + 1)) x y (raised_apart e 0 (k.0 + 1) (omega arith)) (inside_begins e h.0 x h.1) (subst (λ z. begins z y ≡ true) (raised-next e k.0) k.1)

columns_placed : (ks : List Column) → AllPlaced ks → (c : ℕ) (xs : List Split) (ended : Bool) (e : Eof) → Apart (split_paths xs) e
    → Lies (Beyond c (split_paths xs) e) (paths (all_pairs (column_plans ks c xs ended e)))
columns_placed [] h c xs ended e a = lies_none (Beyond c (split_paths xs) e)
columns_placed (k ∷ ks) h c xs ended e a =
    let l : Lies (Region (chunk_paths (column c xs)) (inside e)) (paths (k (column c xs) ended (inside e)).pairs) =
    h.0 (column c xs) ended (inside e) (subst (λ z. Apart z (inside e)) (sym (column_paths c xs)) (unders_apart c (split_paths xs) e a)) in
    let r : Lies (Beyond (suc c) (split_paths (other_columns xs)) (next e)) (paths (all_pairs (column_plans ks (suc c) (other_columns xs) ended (next e)))) =
    columns_placed ks h.1 (suc c) (other_columns xs) ended (next e) (subst (λ z. Apart z (next e)) (sym (other_paths xs)) (apart_next (split_paths xs) e a)) in
    subst (Lies (Beyond c (split_paths xs) e)) (sym (paths-append (k (column c xs) ended (inside e)).pairs (all_pairs (column_plans ks (suc c) (other_columns xs) ended (next e)))))
    (beside_lies c (split_paths xs) e (paths (k (column c xs) ended (inside e)).pairs) (paths (all_pairs (column_plans ks (suc c) (other_columns xs) ended (next e)))) a
    (subst (λ z. Lies (Region z (inside e)) (paths (k (column c xs) ended (inside e)).pairs)) (column_paths c xs) l)
    (subst (λ z. Lies (Beyond (suc c) z (next e)) (paths (all_pairs (column_plans ks (suc c) (other_columns xs) ended (next e))))) (other_paths xs) r))

beyond_region : (ps : List (List ℕ)) (e : Eof) (xs : List (List ℕ)) → Lies (Beyond 0 ps e) xs → Lies (Region ps e) xs
beyond_region ps e xs l = record { scattered = l.scattered; within = λ x i. go x (l.within x i) }
  where
    go : (x : List ℕ) → Beyond 0 ps e x → Region ps e x
    go x (inl h) = inl (h.0, h.1, begins-trans h.0 (under h.0 h.2.0) x (begins-under h.0 h.2.0) h.2.2)
    go x (inr h) = inr h

one_placed : (t : Ty) (k : Node) → Placed t k → (m : Bool) (ks : List Column) → AllPlaced ks → AllPlaced (k m ∷ ks)
one_placed t k c m ks h = ((λ items ended e a. c.placed m items ended e a), h)

fields_placed : (fs : Tys) (ks : List Node) → Fields (λ t k. Placed t k) fs ks → (m : Bool) → AllPlaced (marked m ks)
fields_placed no_fields [] h m = tt
fields_placed no_fields (k ∷ ks) h m = absurd h
fields_placed (field name t fs) [] h m = absurd h
fields_placed (field name t fs) (k ∷ ks) h m = one_placed t k h.0 m (marked m ks) (fields_placed fs ks h.1 m)

writers_placed : (fs : Tys) (n m : Bool) (v : Node) (ks : List Node) → Placed (boolean false) v → Fields (λ t k. Placed t k) fs ks → AllPlaced (struct_writers n m v ks)
writers_placed fs true m v ks c h = one_placed (boolean false) v c m (marked (m || true) ks) (fields_placed fs ks h (m || true))
writers_placed fs false m v ks c h = fields_placed fs ks h (m || false)

pub struct_placed : (fs : Tys) (n : Bool) (dup : Option (List ℕ)) (v : Node) (ks : List Node) → Placed (boolean false) v → Fields (λ t k. Placed t k) fs ks → Placed (struct fs n) (struct_node fs n dup v ks)
struct_placed fs n (Some name) v ks c h = record { placed = λ m items ended e a. lies_none (Region (places items) e) }
struct_placed fs n None v ks c h = record {
  placed = λ m items ended e a.
      beyond_region (places items) e (paths (all_pairs (struct_plans fs n v ks m items ended e)))
      (subst (λ z. Lies (Beyond 0 z e) (paths (all_pairs (struct_plans fs n v ks m items ended e)))) (struct_paths fs n items)
      (columns_placed (struct_writers n m v ks) (writers_placed fs n m v ks c h) 0 (struct_splits fs n items) ended e (subst (λ z. Apart z e) (sym (struct_paths fs n items)) a)));
}

pub not_struct_placed : (t : Ty) → Placed t (not_struct_node t)
not_struct_placed t = record { placed = λ m items ended e a. lies_none (Region (places items) e) }

list_writers_placed : (t : Ty) (n m : Bool) (es os v : Node) → Placed t es → Placed offset_type os → Placed (boolean false) v → AllPlaced (list_writers n m es os v)
list_writers_placed t true m es os v a b c = one_placed t es a m (os m ∷ v m ∷ []) (one_placed offset_type os b m (v m ∷ []) (one_placed (boolean false) v c m [] tt))
list_writers_placed t false m es os v a b c = one_placed t es a m (os m ∷ []) (one_placed offset_type os b m [] tt)

pub list_placed : (t : Ty) (n : Bool) (es os v : Node) → Placed t es → Placed offset_type os → Placed (boolean false) v → Placed (list t n) (list_node t n es os v)
list_placed t n es os v p q r = record { placed = go }
  where
    columns : (m : Bool) (items : List Item) (ended : Bool) (e : Eof) → Apart (places items) e → Lies (Region (places items) e) (paths (list_columns_plan t n es os v m items ended e).pairs)
    columns m items ended e a =
        beyond_region (places items) e (paths (all_pairs (list_plans t n es os v m items ended e)))
        (subst (λ z. Lies (Beyond 0 z e) (paths (all_pairs (list_plans t n es os v m items ended e)))) (list_paths t n true 0 items)
        (columns_placed (list_writers n m es os v) (list_writers_placed t n m es os v p q r) 0 (list_splits t n true 0 items) ended e (subst (λ z. Apart z e) (sym (list_paths t n true 0 items)) a)))

    go : (m : Bool) (items : List Item) (ended : Bool) (e : Eof) → Apart (places items) e → Lies (Region (places items) e) (paths (list_node t n es os v m items ended e).pairs)
    go m [] true e a = lies_none (Region [] e)
    go m [] false e a = columns m [] false e a
    go m (i ∷ is) ended e a = columns m (i ∷ is) ended e a

-- ---- prefixes

-- each of some writers keeps what it wrote
abbrev pub AllGrow : List Column → Type 0
AllGrow [] = Unit {0}
AllGrow (k ∷ ks) = ((xs ys : List Item) (ended : Bool) (e : Eof) → Within (k xs false e) (k (xs ++ ys) ended e)) × ((e : Eof) → (k [] false e).pairs ≡ []) × ((e : Eof) → (k [] false e).reserved ≡ 0)
    × ((d e : Eof) → (k [] false d).faults ≡ (k [] false e).faults) × AllGrow ks

columns_grow : (ks : List Column) → AllGrow ks → (c : ℕ) (xs ys : List Split) (ended : Bool) (e : Eof) → Grow (column_plans ks c xs false e) (column_plans ks c (xs ++ ys) ended e)
columns_grow [] h c xs ys ended e = grow_none []
columns_grow (k ∷ ks) h c xs ys ended e =
    grow_more (k (column c xs) false (inside e)) (k (column c (xs ++ ys)) ended (inside e)) (column_plans ks (suc c) (other_columns xs) false (next e)) (column_plans ks (suc c) (other_columns (xs ++ ys)) ended (next e))
    (subst (λ z. Within (k (column c xs) false (inside e)) (k z ended (inside e))) (sym (column-append c xs ys)) (h.0 (column c xs) (column c ys) ended (inside e)))
    (subst (λ z. Grow (column_plans ks (suc c) (other_columns xs) false (next e)) (column_plans ks (suc c) z ended (next e))) (sym (other_columns-append xs ys))
    (columns_grow ks h.4 (suc c) (other_columns xs) (other_columns ys) ended (next e)))

columns_quiet : (ks : List Column) → AllGrow ks → (c : ℕ) (e : Eof) → all_pairs (column_plans ks c [] false e) ≡ []
columns_quiet [] h c e = refl
columns_quiet (k ∷ ks) h c e = ap₂ (λ x y. x ++ y) (h.1 (inside e)) (columns_quiet ks h.4 (suc c) (next e))

columns_still : (ks : List Column) → AllGrow ks → (c : ℕ) (e : Eof) → all_reserved (column_plans ks c [] false e) ≡ 0
columns_still [] h c e = refl
columns_still (k ∷ ks) h c e =
    let a : (k [] false (inside e)).reserved ≡ 0 = h.2 (inside e) in let b : all_reserved (column_plans ks (suc c) [] false (next e)) ≡ 0 = columns_still ks h.4 (suc c) (next e) in omega arith

columns_steady : (ks : List Column) → AllGrow ks → (c : ℕ) (d e : Eof) → all_faults (column_plans ks c [] false d) ≡ all_faults (column_plans ks c [] false e)
columns_steady [] h c d e = refl
columns_steady (k ∷ ks) h c d e = ap₂ (λ x y. x ++ y) (h.3 (inside d) (inside e)) (columns_steady ks h.4 (suc c) (next d) (next e))

beside_within : (l k : LayoutData (List ℕ)) (ns ms : List ℕ) (ps qs : List Plan) → (Fit ms → Fit ns) → Grow ps qs → Within (beside l ns ps) (beside k ms qs)
beside_within l k ns ms ps qs f g =
    within g.pairs g.faults (λ e h. fit_both ns (all_numbers ps) (f (fit_left ms (all_numbers qs) h)) (g.fit e (fit_right ms (all_numbers qs) h))) g.reserved

one_grows : (t : Ty) (k : Node) → Grows t k → (m : Bool) (ks : List Column) → AllGrow ks → AllGrow (k m ∷ ks)
one_grows t k c m ks h = ((λ xs ys ended e. c.grows m xs ys ended e), (λ e. c.quiet m e), (λ e. c.still m e), (λ d e. c.steady m d e), h)

fields_grow : (fs : Tys) (ks : List Node) → Fields (λ t k. Grows t k) fs ks → (m : Bool) → AllGrow (marked m ks)
fields_grow no_fields [] h m = tt
fields_grow no_fields (k ∷ ks) h m = absurd h
fields_grow (field name t fs) [] h m = absurd h
fields_grow (field name t fs) (k ∷ ks) h m = one_grows t k h.0 m (marked m ks) (fields_grow fs ks h.1 m)

writers_grow : (fs : Tys) (n m : Bool) (v : Node) (ks : List Node) → Grows (boolean false) v → Fields (λ t k. Grows t k) fs ks → AllGrow (struct_writers n m v ks)
writers_grow fs true m v ks c h = one_grows (boolean false) v c m (marked (m || true) ks) (fields_grow fs ks h (m || true))
writers_grow fs false m v ks c h = fields_grow fs ks h (m || false)

numbers_fit : (xs ys : List Item) (ks : List Column) (e : Eof) → Fit (column_numbers (xs ++ ys) ks e) → Fit (column_numbers xs ks e)
numbers_fit xs ys ks e h = fit_before rows_in 0 xs ys (length ks ∷ (e.last + length ks) ∷ []) (length ks ∷ (e.last + length ks) ∷ []) (λ f. f) h

pub struct_grows : (fs : Tys) (n : Bool) (dup : Option (List ℕ)) (v : Node) (ks : List Node) → Grows (boolean false) v → Fields (λ t k. Grows t k) fs ks → Grows (struct fs n) (struct_node fs n dup v ks)
struct_grows fs n (Some name) v ks c h = record {
  grows = λ m xs ys ended e. within_itself (struct_node fs n (Some name) v ks m xs false e);
  quiet = λ m e. refl;
  still = λ m e. refl;
  steady = λ m d e. refl;
}
struct_grows fs n None v ks c h = record {
  grows = λ m xs ys ended e.
      beside_within (struct_node fs n None v ks m xs false e).layout (struct_node fs n None v ks m (xs ++ ys) ended e).layout
      (column_numbers xs (struct_writers n m v ks) e) (column_numbers (xs ++ ys) (struct_writers n m v ks) e) (struct_plans fs n v ks m xs false e) (struct_plans fs n v ks m (xs ++ ys) ended e)
      (numbers_fit xs ys (struct_writers n m v ks) e)
      (subst (λ z. Grow (struct_plans fs n v ks m xs false e) (column_plans (struct_writers n m v ks) 0 z ended e)) (sym (struct_splits-append fs n xs ys))
      (columns_grow (struct_writers n m v ks) (writers_grow fs n m v ks c h) 0 (struct_splits fs n xs) (struct_splits fs n ys) ended e));
  quiet = λ m e. columns_quiet (struct_writers n m v ks) (writers_grow fs n m v ks c h) 0 e;
  still = λ m e. columns_still (struct_writers n m v ks) (writers_grow fs n m v ks c h) 0 e;
  steady = λ m d e. columns_steady (struct_writers n m v ks) (writers_grow fs n m v ks c h) 0 d e;
}

pub not_struct_grows : (t : Ty) → Grows t (not_struct_node t)
not_struct_grows t = record {
  grows = λ m xs ys ended e. within_itself (not_struct_node t m xs false e);
  quiet = λ m e. refl;
  still = λ m e. refl;
  steady = λ m d e. refl;
}

list_writers_grow : (t : Ty) (n m : Bool) (es os v : Node) → Grows t es → Grows offset_type os → Grows (boolean false) v → AllGrow (list_writers n m es os v)
list_writers_grow t true m es os v a b c = one_grows t es a m (os m ∷ v m ∷ []) (one_grows offset_type os b m (v m ∷ []) (one_grows (boolean false) v c m [] tt))
list_writers_grow t false m es os v a b c = one_grows t es a m (os m ∷ []) (one_grows offset_type os b m [] tt)

list_numbers_fit : (xs ys : List Item) (ks : List Column) (e : Eof) → Fit (list_numbers (xs ++ ys) ks e) → Fit (list_numbers xs ks e)
list_numbers_fit xs ys ks e h =
    fit_before rows_in 1 xs ys (totals elements_in 0 (xs ++ ys) ++ column_numbers (xs ++ ys) ks e) (totals elements_in 0 xs ++ column_numbers xs ks e)
    (fit_before elements_in 0 xs ys (column_numbers (xs ++ ys) ks e) (column_numbers xs ks e) (numbers_fit xs ys ks e)) h

pub list_grows : (t : Ty) (n : Bool) (es os v : Node) → Grows t es → Grows offset_type os → Grows (boolean false) v → Grows (list t n) (list_node t n es os v)
list_grows t n es os v p q r = record {
  grows = go;
  quiet = λ m e. columns_quiet (list_writers n m es os v) (list_writers_grow t n m es os v p q r) 0 e;
  still = λ m e. columns_still (list_writers n m es os v) (list_writers_grow t n m es os v p q r) 0 e;
  steady = λ m d e. columns_steady (list_writers n m es os v) (list_writers_grow t n m es os v p q r) 0 d e;
}
  where
    columns : (m : Bool) (xs ys : List Item) (ended : Bool) (e : Eof) → Within (list_columns_plan t n es os v m xs false e) (list_columns_plan t n es os v m (xs ++ ys) ended e)
    columns m xs ys ended e =
        let b : (more : List Split) × (list_splits t n true 0 (xs ++ ys) ≡ list_splits t n true 0 xs ++ more) = list_splits_begin t n true 0 xs ys in
        beside_within (list_columns_plan t n es os v m xs false e).layout (list_columns_plan t n es os v m (xs ++ ys) ended e).layout
        (list_numbers xs (list_writers n m es os v) e) (list_numbers (xs ++ ys) (list_writers n m es os v) e) (list_plans t n es os v m xs false e) (list_plans t n es os v m (xs ++ ys) ended e)
        (list_numbers_fit xs ys (list_writers n m es os v) e)
        (subst (λ z. Grow (list_plans t n es os v m xs false e) (column_plans (list_writers n m es os v) 0 z ended e)) (sym b.1)
        (columns_grow (list_writers n m es os v) (list_writers_grow t n m es os v p q r) 0 (list_splits t n true 0 xs) b.0 ended e))

    go : (m : Bool) (xs ys : List Item) (ended : Bool) (e : Eof) → Within (list_node t n es os v m xs false e) (list_node t n es os v m (xs ++ ys) ended e)
    go m [] [] true e =
        within (λ x i. subst (In x) (columns_quiet (list_writers n m es os v) (list_writers_grow t n m es os v p q r) 0 e) i) (λ f i. inr i) (λ f g. absurd (cons_nil f))
        (let z : all_reserved (list_plans t n es os v m [] false e) ≡ 0 = columns_still (list_writers n m es os v) (list_writers_grow t n m es os v p q r) 0 e in omega arith)
    go m [] [] false e = columns m [] [] false e
    go m [] (y ∷ ys) ended e = columns m [] (y ∷ ys) ended e
    go m (x ∷ xs) ys ended e = columns m (x ∷ xs) ys ended e

-- ---- type

pub struct_typed : (fs : Tys) (n : Bool) (dup : Option (List ℕ)) (v : Node) (ks : List Node) → Typed (struct fs n) (struct_node fs n dup v ks)
struct_typed fs n (Some name) v ks = record { typed = λ m items ended e. refl }
struct_typed fs n None v ks = record { typed = λ m items ended e. refl }

pub not_struct_typed : (t : Ty) → Typed t (not_struct_node t)
not_struct_typed t = record { typed = λ m items ended e. refl }

pub list_typed : (t : Ty) (n : Bool) (es os v : Node) → Typed (list t n) (list_node t n es os v)
list_typed t n es os v = record { typed = go }
  where
    go : (m : Bool) (items : List Item) (ended : Bool) (e : Eof) → layout_type (list_node t n es os v m items ended e).layout ≡ list t n
    go m [] true e = refl
    go m [] false e = refl
    go m (i ∷ is) ended e = refl
