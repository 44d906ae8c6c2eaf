-- The layouts of struct and list nodes.
use Rattle.std.proofs.Common.{◌≡◌, ℕ, suc, ◌||◌, Bool, true, false, List, [], ◌∷◌, ◌++◌, length, Option, Some, None, sym, ap, ◌∙◌, subst}
use Rattle.vx_model.specs.Ty.{Ty, Tys, boolean, no_fields, field, struct, list}
use Rattle.vx_path.specs.Path.{Eof, inside, next}
use Rattle.vx_session.specs.Scope.{Scope}
use Rattle.vx_session.specs.Kinds.{types_in}
use Rattle.vx_rules.specs.Columns.{Split, struct_splits, list_splits, column, other_columns, offset_type}
use Rattle.vx_rules.proofs.ColumnStreams.{field_streams, StreamsOf, Shows, streams_are, chunk_cells, all_cells, all_chunk_cells, struct_shows, nullable_shows, validity_stream, elements_stream, offsets_stream, list_validity_stream}
use Rattle.vx_plan.specs.PlanData.{Setting, Item, Plan, Node, row_total}
use Rattle.vx_plan.specs.Valid.{Fit}
use Rattle.vx_plan.specs.ChunkedNode.{all_faults, all_layouts, all_numbers}
use Rattle.vx_plan.specs.ColumnNodes.{marked, column_plans, not_struct_node, struct_writers, column_numbers, struct_node, list_writers, list_node}
use Rattle.vx_plan.proofs.Relate.{Fields}
use Rattle.vx_plan.proofs.PlanLists.{ItemsOf, nil_left, nil_right, fit_left, fit_right, row_total_cells}
use Rattle.vx_plan.proofs.FlatLaws.{cons_nil}
use Rattle.vx_plan.proofs.ColumnLaws.{ListFits, list_fits}
use Rattle.vx_parse_back_laws.proofs.Layouts.{Written, Beside, struct_written, list_written}
use Rattle.vx_parse_back_laws.proofs.Streams.{EachCounts, fields_count, flags_count, offsets_count}
use Rattle.vx_parse_back_laws.proofs.NodeLayouts.{Writes}

module _ (s : Scope) (f : List ℕ → ℕ) (st : Setting) where
  -- ---- structs

  fields_written : (fs : Tys) (ks : List Node) → Fields (λ t k. Writes s f st t k) fs ks → (m : Bool) (c : ℕ) (xs : List Split) (e : Eof) (n : ℕ)
      → StreamsOf fs (field_streams fs c xs) → EachCounts n fs c xs → all_faults (column_plans (marked m ks) c xs true e) ≡ [] → Fit (all_numbers (column_plans (marked m ks) c xs true e))
      → Beside s f n (types_in fs) (all_layouts (column_plans (marked m ks) c xs true e))
  fields_written no_fields [] ws m c xs e n of count clean fit = tt
  fields_written no_fields (k ∷ ks) ws m c xs e n of count clean fit = absurd ws
  fields_written (field name t fs) [] ws m c xs e n of count clean fit = absurd ws
  fields_written (field name t fs) (k ∷ ks) ws m c xs e n of count clean fit =
      let p : Plan = k m (column c xs) true (inside e) in
      let ps : List Plan = column_plans (marked m ks) (suc c) (other_columns xs) true (next e) in (
        subst (λ r. Written s f t r p.layout) count.0
            (ws.0.written m (column c xs) (inside e) of.0 (nil_left p.faults (all_faults ps) clean) (fit_left p.numbers (all_numbers ps) fit)),
        fields_written fs ks ws.1 m (suc c) (other_columns xs) (next e) n of.1 count.1 (nil_right p.faults (all_faults ps) clean) (fit_right p.numbers (all_numbers ps) fit),
      )

  -- the fields' streams are of whole chunks, and have a row for each struct
  fields_stream : (fs : Tys) (c : ℕ) (xs : List Split) (items : List Item) → Shows fs xs (chunk_cells items) → StreamsOf fs (field_streams fs c xs) × EachCounts (row_total items) fs c xs
  fields_stream fs c xs items shows =
      let r : StreamsOf fs (field_streams fs c xs) × _ = streams_are fs c xs (chunk_cells items) shows in
      (r.0, fields_count fs c xs (all_cells (chunk_cells items)) (row_total items) (ap length (all_chunk_cells items) ∙ sym (row_total_cells items)) r.1)

  nullable_written : (fs : Tys) (v : Node) (ks : List Node) → Writes s f st (boolean false) v → Fields (λ t k. Writes s f st t k) fs ks → Writes s f st (struct fs true) (struct_node fs true None v ks)
  nullable_written fs v ks wv ws = record { written = go }
    where
      go : (m : Bool) (items : List Item) (e : Eof) → ItemsOf (struct fs true) items → (struct_node fs true None v ks m items true e).faults ≡ [] → Fit (struct_node fs true None v ks m items true e).numbers
          → Written s f (struct fs true) (row_total items) (struct_node fs true None v ks m items true e).layout
      go m items e of clean fit =
          let xs : List Split = struct_splits fs true items in
          let p : Plan = v m (column 0 xs) true (inside e) in
          let ps : List Plan = column_plans (marked (m || true) ks) 1 (other_columns xs) true (next e) in
          let flags = validity_stream fs items of in
          let fields = fields_stream fs 1 (other_columns xs) items (nullable_shows fs items of) in
          let numbers : Fit (p.numbers ++ all_numbers ps) = fit_right (column_numbers items (struct_writers true m v ks) e) (p.numbers ++ all_numbers ps) fit in
          struct_written s f fs true (row_total items) (p.layout ∷ all_layouts ps) (
            subst (λ r. Written s f (boolean false) r p.layout) (flags_count items (column 0 xs) flags.1)
                (wv.written m (column 0 xs) (inside e) flags.0 (nil_left p.faults (all_faults ps) clean) (fit_left p.numbers (all_numbers ps) numbers)),
            fields_written fs ks ws (m || true) 1 (other_columns xs) (next e) (row_total items) fields.0 fields.1 (nil_right p.faults (all_faults ps) clean) (fit_right p.numbers (all_numbers ps) numbers),
          )

  plain_written : (fs : Tys) (v : Node) (ks : List Node) → Fields (λ t k. Writes s f st t k) fs ks → Writes s f st (struct fs false) (struct_node fs false None v ks)
  plain_written fs v ks ws = record {
    written = λ m items e of clean fit.
        let xs : List Split = struct_splits fs false items in
        let fields = fields_stream fs 0 xs items (struct_shows fs items of) in
        struct_written s f fs false (row_total items) (all_layouts (column_plans (marked (m || false) ks) 0 xs true e))
        (fields_written fs ks ws (m || false) 0 xs e (row_total items) fields.0 fields.1 clean (fit_right (column_numbers items (struct_writers false m v ks) e) (all_numbers (column_plans (marked (m || false) ks) 0 xs true e)) fit));
  }

  pub struct_writes : (fs : Tys) (n : Bool) (dup : Option (List ℕ)) (v : Node) (ks : List Node) → Writes s f st (boolean false) v → Fields (λ t k. Writes s f st t k) fs ks
      → Writes s f st (struct fs n) (struct_node fs n dup v ks)
  struct_writes fs n (Some name) v ks wv ws = record { written = λ m items e of clean fit. absurd (cons_nil clean) }
  struct_writes fs true None v ks wv ws = nullable_written fs v ks wv ws
  struct_writes fs false None v ks wv ws = plain_written fs v ks ws

  pub not_struct_writes : (t : Ty) → Writes s f st t (not_struct_node t)
  not_struct_writes t = record { written = λ m items e of clean fit. absurd (cons_nil clean) }

  -- ---- lists

  pub list_writes : (t : Ty) (n : Bool) (es os v : Node) → Writes s f st t es → Writes s f st offset_type os → Writes s f st (boolean false) v → Writes s f st (list t n) (list_node t n es os v)
  list_writes t n es os v we wo wv = record { written = go n }
    where
      go : (n : Bool) (m : Bool) (items : List Item) (e : Eof) → ItemsOf (list t n) items → (list_node t n es os v m items true e).faults ≡ [] → Fit (list_node t n es os v m items true e).numbers
          → Written s f (list t n) (row_total items) (list_node t n es os v m items true e).layout
      go n m [] e of clean fit = absurd (cons_nil clean)
      go false m (i ∷ is) e of clean fit =
          let xs : List Split = list_splits t false true 0 (i ∷ is) in
          let p : Plan = es m (column 0 xs) true (inside e) in
          let q : Plan = os m (column 1 (other_columns xs)) true (inside (next e)) in
          let fits : ListFits (i ∷ is) (p.numbers ++ (q.numbers ++ [])) = list_fits (i ∷ is) (list_writers false m es os v) e (p.numbers ++ (q.numbers ++ [])) fit in
          let elements = elements_stream t false true 0 (i ∷ is) of fits.elements in
          let offsets = offsets_stream t false i is fits.elements fits.offsets in
          let numbers : Fit (p.numbers ++ (q.numbers ++ [])) = fits.columns in
          list_written s f t false (row_total (i ∷ is)) (row_total (column 0 xs)) p.layout q.layout []
          (we.written m (column 0 xs) (inside e) elements.0 (nil_left p.faults (q.faults ++ []) clean) (fit_left p.numbers (q.numbers ++ []) numbers))
          (subst (λ r. Written s f offset_type r q.layout) (offsets_count (i ∷ is) (column 1 (other_columns xs)) offsets.1)
          (wo.written m (column 1 (other_columns xs)) (inside (next e)) offsets.0 (nil_left q.faults [] (nil_right p.faults (q.faults ++ []) clean))
          (fit_left q.numbers [] (fit_right p.numbers (q.numbers ++ []) numbers))))
          tt
      go true m (i ∷ is) e of clean fit =
          let xs : List Split = list_splits t true true 0 (i ∷ is) in
          let p : Plan = es m (column 0 xs) true (inside e) in
          let q : Plan = os m (column 1 (other_columns xs)) true (inside (next e)) in
          let r : Plan = v m (column 2 (other_columns (other_columns xs))) true (inside (next (next e))) in
          let fits : ListFits (i ∷ is) (p.numbers ++ (q.numbers ++ (r.numbers ++ []))) = list_fits (i ∷ is) (list_writers true m es os v) e (p.numbers ++ (q.numbers ++ (r.numbers ++ []))) fit in
          let elements = elements_stream t true true 0 (i ∷ is) of fits.elements in
          let offsets = offsets_stream t true i is fits.elements fits.offsets in
          let flags = list_validity_stream t true 0 (i ∷ is) of in
          let numbers : Fit (p.numbers ++ (q.numbers ++ (r.numbers ++ []))) = fits.columns in
          list_written s f t true (row_total (i ∷ is)) (row_total (column 0 xs)) p.layout q.layout (r.layout ∷ [])
          (we.written m (column 0 xs) (inside e) elements.0 (nil_left p.faults (q.faults ++ (r.faults ++ [])) clean) (fit_left p.numbers (q.numbers ++ (r.numbers ++ [])) numbers))
          (subst (λ n. Written s f offset_type n q.layout) (offsets_count (i ∷ is) (column 1 (other_columns xs)) offsets.1)
          (wo.written m (column 1 (other_columns xs)) (inside (next e)) offsets.0 (nil_left q.faults (r.faults ++ []) (nil_right p.faults (q.faults ++ (r.faults ++ [])) clean))
          (fit_left q.numbers (r.numbers ++ []) (fit_right p.numbers (q.numbers ++ (r.numbers ++ [])) numbers)))) (
            subst (λ n. Written s f (boolean false) n r.layout) (flags_count (i ∷ is) (column 2 (other_columns (other_columns xs))) flags.1)
                (wv.written m (column 2 (other_columns (other_columns xs))) (inside (next (next e))) flags.0
                (nil_left r.faults [] (nil_right q.faults (r.faults ++ []) (nil_right p.faults (q.faults ++ (r.faults ++ [])) clean)))
                (fit_left r.numbers [] (fit_right q.numbers (r.numbers ++ []) (fit_right p.numbers (q.numbers ++ (r.numbers ++ [])) numbers)))),
            tt,
          )
