-- The array trees below struct and list nodes.
use Rattle.std.proofs.Common.{◌≡◌, ℕ, suc, ◌||◌, Bool, true, false, List, [], ◌∷◌, ◌++◌, Option, Some, None}
use Rattle.vx_model.specs.Ty.{Ty, Tys, boolean, no_fields, field, struct, list}
use Rattle.vx_path.specs.Path.{Eof, inside, next}
use Rattle.vx_rules.specs.Columns.{Split, struct_splits, list_splits, column, other_columns, offset_type}
use Rattle.vx_rules.proofs.ColumnStreams.{field_streams, StreamsOf, streams_are, chunk_cells, struct_shows, nullable_shows, validity_stream, elements_stream, offsets_stream, list_validity_stream}
use Rattle.vx_plan.specs.PlanData.{Setting, Item, Plan, Node}
use Rattle.vx_strategy_spec.specs.StrategyData.{FlatOptions}
use Rattle.vx_plan.specs.Valid.{Fit}
use Rattle.vx_plan.specs.ChunkedNode.{all_pairs, all_faults, all_layouts, all_numbers}
use Rattle.vx_plan.specs.ColumnNodes.{marked, column_plans, not_struct_node, struct_writers, column_numbers, struct_node, list_writers, list_node}
use Rattle.vx_plan.proofs.Relate.{Fields}
use Rattle.vx_plan.proofs.PlanLists.{ItemsOf, Holds, nil_left, nil_right, fit_left, fit_right, holds_left, holds_right}
use Rattle.vx_plan.proofs.FlatLaws.{cons_nil}
use Rattle.vx_plan.proofs.ColumnLaws.{ListFits, list_fits}
use Rattle.vx_array_tree_laws.specs.Flats.{FlatsHold}
use Rattle.vx_array_tree_laws.proofs.FlatLists.{AllHold, all_flats}
use Rattle.vx_array_tree_laws.proofs.NodeArrays.{Arrays}

-- ---- structs

fields_hold : (s : Setting) (options : List FlatOptions) (Good : Type 0) (fs : Tys) (ks : List Node) → Fields (λ t k. Arrays s options Good t k) fs ks → (m : Bool) (c : ℕ) (xs : List Split) (e : Eof)
    → (Good → StreamsOf fs (field_streams fs c xs)) → all_faults (column_plans (marked m ks) c xs true e) ≡ [] → (Good → Fit (all_numbers (column_plans (marked m ks) c xs true e)))
    → (look : List ℕ → Option (List ℕ)) → Holds look (all_pairs (column_plans (marked m ks) c xs true e)) → AllHold s options Good look (all_layouts (column_plans (marked m ks) c xs true e))
fields_hold s options Good no_fields [] r m c xs e of clean fit look held = tt
fields_hold s options Good no_fields (k ∷ ks) r m c xs e of clean fit look held = absurd r
fields_hold s options Good (field name t fs) [] r m c xs e of clean fit look held = absurd r
fields_hold s options Good (field name t fs) (k ∷ ks) r m c xs e of clean fit look held =
    let p : Plan = k m (column c xs) true (inside e) in
    let ps : List Plan = column_plans (marked m ks) (suc c) (other_columns xs) true (next e) in (
      r.0.arrays m (column c xs) (inside e) (λ g. (of g).0) (nil_left p.faults (all_faults ps) clean) (λ g. fit_left p.numbers (all_numbers ps) (fit g)) look (holds_left look p.pairs (all_pairs ps) held),
      fields_hold s options Good fs ks r.1 m (suc c) (other_columns xs) (next e) (λ g. (of g).1) (nil_right p.faults (all_faults ps) clean) (λ g. fit_right p.numbers (all_numbers ps) (fit g)) look (holds_right look p.pairs (all_pairs ps) held),
    )

nullable_arrays : (s : Setting) (options : List FlatOptions) (Good : Type 0) (fs : Tys) (v : Node) (ks : List Node) → Arrays s options Good (boolean false) v → Fields (λ t k. Arrays s options Good t k) fs ks
    → Arrays s options Good (struct fs true) (struct_node fs true None v ks)
nullable_arrays s options Good fs v ks rv rs = record { arrays = go }
  where
    go : (m : Bool) (items : List Item) (e : Eof) → (Good → ItemsOf (struct fs true) items) → (struct_node fs true None v ks m items true e).faults ≡ [] → (Good → Fit (struct_node fs true None v ks m items true e).numbers)
        → (look : List ℕ → Option (List ℕ)) → Holds look (struct_node fs true None v ks m items true e).pairs → FlatsHold s options Good look (struct_node fs true None v ks m items true e).layout
    go m items e of clean fit look held =
        let xs : List Split = struct_splits fs true items in
        let p : Plan = v m (column 0 xs) true (inside e) in
        let ps : List Plan = column_plans (marked (m || true) ks) 1 (other_columns xs) true (next e) in
        let first : FlatsHold s options Good look p.layout =
        rv.arrays m (column 0 xs) (inside e) (λ g. (validity_stream fs items (of g)).0) (nil_left p.faults (all_faults ps) clean) (λ g. fit_left p.numbers (all_numbers ps) (fit_right (column_numbers items (struct_writers true m v ks) e) (p.numbers ++ all_numbers ps) (fit g))) look (holds_left look p.pairs (all_pairs ps) held) in
        let others : AllHold s options Good look (all_layouts ps) =
        fields_hold s options Good fs ks rs (m || true) 1 (other_columns xs) (next e) (λ g. (streams_are fs 1 (other_columns xs) (chunk_cells items) (nullable_shows fs items (of g))).0)
        (nil_right p.faults (all_faults ps) clean) (λ g. fit_right p.numbers (all_numbers ps) (fit_right (column_numbers items (struct_writers true m v ks) e) (p.numbers ++ all_numbers ps) (fit g))) look (holds_right look p.pairs (all_pairs ps) held) in
        (tt, (first, all_flats s options Good look (all_layouts ps) others))

plain_arrays : (s : Setting) (options : List FlatOptions) (Good : Type 0) (fs : Tys) (v : Node) (ks : List Node) → Fields (λ t k. Arrays s options Good t k) fs ks
    → Arrays s options Good (struct fs false) (struct_node fs false None v ks)
plain_arrays s options Good fs v ks rs = record {
  arrays = λ m items e of clean fit look held. (
    tt,
    all_flats s options Good look (all_layouts (column_plans (marked (m || false) ks) 0 (struct_splits fs false items) true e))
        (fields_hold s options Good fs ks rs (m || false) 0 (struct_splits fs false items) e (λ g. (streams_are fs 0 (struct_splits fs false items) (chunk_cells items) (struct_shows fs items (of g))).0)
        clean (λ g. fit_right (column_numbers items (struct_writers false m v ks) e) (all_numbers (column_plans (marked (m || false) ks) 0 (struct_splits fs false items) true e)) (fit g)) look held),
  );
}

pub struct_arrays : (s : Setting) (options : List FlatOptions) (Good : Type 0) (fs : Tys) (n : Bool) (dup : Option (List ℕ)) (v : Node) (ks : List Node) → Arrays s options Good (boolean false) v
    → Fields (λ t k. Arrays s options Good t k) fs ks → Arrays s options Good (struct fs n) (struct_node fs n dup v ks)
struct_arrays s options Good fs n (Some name) v ks rv rs = record { arrays = λ m items e of clean fit look held. absurd (cons_nil clean) }
struct_arrays s options Good fs true None v ks rv rs = nullable_arrays s options Good fs v ks rv rs
struct_arrays s options Good fs false None v ks rv rs = plain_arrays s options Good fs v ks rs

pub not_struct_arrays : (s : Setting) (options : List FlatOptions) (Good : Type 0) (t : Ty) → Arrays s options Good t (not_struct_node t)
not_struct_arrays s options Good t = record { arrays = λ m items e of clean fit look held. absurd (cons_nil clean) }

-- ---- lists

pub list_arrays : (s : Setting) (options : List FlatOptions) (Good : Type 0) (t : Ty) (n : Bool) (es os v : Node) → Arrays s options Good t es → Arrays s options Good offset_type os → Arrays s options Good (boolean false) v
    → Arrays s options Good (list t n) (list_node t n es os v)
list_arrays s options Good t n es os v re ro rv = record { arrays = go n }
  where
    go : (n : Bool) (m : Bool) (items : List Item) (e : Eof) → (Good → ItemsOf (list t n) items) → (list_node t n es os v m items true e).faults ≡ [] → (Good → Fit (list_node t n es os v m items true e).numbers)
        → (look : List ℕ → Option (List ℕ)) → Holds look (list_node t n es os v m items true e).pairs → FlatsHold s options Good look (list_node t n es os v m items true e).layout
    go n m [] e of clean fit look held = absurd (cons_nil clean)
    go false m (i ∷ is) e of clean fit look held =
        let xs : List Split = list_splits t false true 0 (i ∷ is) in
        let p : Plan = es m (column 0 xs) true (inside e) in
        let q : Plan = os m (column 1 (other_columns xs)) true (inside (next e)) in
        let fits : Good → ListFits (i ∷ is) (p.numbers ++ (q.numbers ++ [])) = λ g. list_fits (i ∷ is) (list_writers false m es os v) e (p.numbers ++ (q.numbers ++ [])) (fit g) in
        let first : FlatsHold s options Good look p.layout =
        re.arrays m (column 0 xs) (inside e) (λ g. (elements_stream t false true 0 (i ∷ is) (of g) (fits g).elements).0) (nil_left p.faults (q.faults ++ []) clean)
        (λ g. fit_left p.numbers (q.numbers ++ []) (fits g).columns) look (holds_left look p.pairs (q.pairs ++ []) held) in
        let second : FlatsHold s options Good look q.layout =
        ro.arrays m (column 1 (other_columns xs)) (inside (next e)) (λ g. (offsets_stream t false i is (fits g).elements (fits g).offsets).0)
        (nil_left q.faults [] (nil_right p.faults (q.faults ++ []) clean))
        (λ g. fit_left q.numbers [] (fit_right p.numbers (q.numbers ++ []) (fits g).columns)) look (holds_left look q.pairs [] (holds_right look p.pairs (q.pairs ++ []) held)) in
        (tt, (first, (second, tt)))
    go true m (i ∷ is) e of clean fit look held =
        let xs : List Split = list_splits t true true 0 (i ∷ is) in
        let p : Plan = es m (column 0 xs) true (inside e) in
        let q : Plan = os m (column 1 (other_columns xs)) true (inside (next e)) in
        let r : Plan = v m (column 2 (other_columns (other_columns xs))) true (inside (next (next e))) in
        let fits : Good → ListFits (i ∷ is) (p.numbers ++ (q.numbers ++ (r.numbers ++ []))) = λ g. list_fits (i ∷ is) (list_writers true m es os v) e (p.numbers ++ (q.numbers ++ (r.numbers ++ []))) (fit g) in
        let first : FlatsHold s options Good look p.layout =
        re.arrays m (column 0 xs) (inside e) (λ g. (elements_stream t true true 0 (i ∷ is) (of g) (fits g).elements).0) (nil_left p.faults (q.faults ++ (r.faults ++ [])) clean)
        (λ g. fit_left p.numbers (q.numbers ++ (r.numbers ++ [])) (fits g).columns) look (holds_left look p.pairs (q.pairs ++ (r.pairs ++ [])) held) in
        let second : FlatsHold s options Good look q.layout =
        ro.arrays m (column 1 (other_columns xs)) (inside (next e)) (λ g. (offsets_stream t true i is (fits g).elements (fits g).offsets).0)
        (nil_left q.faults (r.faults ++ []) (nil_right p.faults (q.faults ++ (r.faults ++ [])) clean))
        (λ g. fit_left q.numbers (r.numbers ++ []) (fit_right p.numbers (q.numbers ++ (r.numbers ++ [])) (fits g).columns)) look
        (holds_left look q.pairs (r.pairs ++ []) (holds_right look p.pairs (q.pairs ++ (r.pairs ++ [])) held)) in
        let third : FlatsHold s options Good look r.layout =
        rv.arrays m (column 2 (other_columns (other_columns xs))) (inside (next (next e))) (λ g. (list_validity_stream t true 0 (i ∷ is) (of g)).0)
        (nil_left r.faults [] (nil_right q.faults (r.faults ++ []) (nil_right p.faults (q.faults ++ (r.faults ++ [])) clean)))
        (λ g. fit_left r.numbers [] (fit_right q.numbers (r.numbers ++ []) (fit_right p.numbers (q.numbers ++ (r.numbers ++ [])) (fits g).columns))) look
        (holds_left look r.pairs [] (holds_right look q.pairs (r.pairs ++ []) (holds_right look p.pairs (q.pairs ++ (r.pairs ++ [])) held))) in
        (tt, (first, (second, (third, tt))))
