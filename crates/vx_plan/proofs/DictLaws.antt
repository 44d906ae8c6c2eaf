-- The laws of a dictionary node.
use Rattle.std.proofs.Common.{◌≡◌, ℕ, ◌+◌, ◌*◌, ◌<◌, ◌≤◌, ◌^◌, Bool, true, false, List, [], ◌∷◌, ◌++◌, map, length, Option, Some, refl, sym, ap, ap₂, ◌∙◌, subst, inl, inr, arith, append_assoc}
use Rattle.std.specs.Prelude.{if◌then◌else◌}
use Rattle.std.proofs.lemmas.List.{length-map, map-append}
use Rattle.std.proofs.lemmas.Bool.{true≢false}
use Rattle.vx_model.specs.Ty.{Ty}
use Rattle.vx_model.specs.CellData.{CellData}
use Rattle.vx_model.specs.ValueData.{ValueData, value}
use Rattle.vx_model.specs.ChunkData.{is_dict_type}
use Rattle.vx_path.specs.Path.{Eof, Region, inside, next}
use Rattle.vx_layout_spec.specs.Rows.{rows, and_then, all_there, counted, joined, dict_rows}
use Rattle.vx_layout_spec.specs.LayoutTree.{LayoutData, layout_type, dict_layout, gathered}
use Rattle.vx_rules.specs.Stream.{Chunks, stream_cells, chunk_paths}
use Rattle.vx_rules.specs.Columns.{offset_cell}
use Rattle.vx_rules.specs.Runs.{DictOptions, Run, runs, code_type, cut_at}
use Rattle.vx_rules.proofs.RunLaws.{decodes_rows, decodes_length}
use Rattle.vx_rules.proofs.RunStreams.{Ended, AllEnded, runs_end, RunGrows, RunsGrow, runs_grow, run_paths, runs_onto}
use Rattle.vx_plan.specs.PlanData.{Setting, Item, Pair, Plan, Node, paths, places, stream_values, rows_in, row_total}
use Rattle.vx_plan.specs.ChunkedNode.{both_plans, all_pairs, all_faults, all_numbers, all_layouts}
use Rattle.vx_plan.specs.DictNode.{is_dictionary, run_plan, run_plans, made_counts, dict_numbers, runs_node, dict_node}
use Rattle.vx_plan.specs.Valid.{Fit}
use Rattle.vx_plan.specs.Statements.{Within}
use Rattle.vx_plan.proofs.PlanLists.{ItemsOf, Holds, Gives, gives_same, ReadAll, Grow, grow_none, grow_more, in_joined, within, within_itself, gathered_reads, counted_same, nil_left, nil_right, fit_left, fit_right, fit_both, fit_before, holds_left, holds_right, row_total_cells, stream_values_cells}
use Rattle.vx_plan.proofs.Spots.{Apart, Lies, lies_none, two_parts, apart_left, apart_right, apart_inside, apart_next}
use Rattle.vx_plan.proofs.FlatLaws.{Reads, Placed, Grows, Typed}
use Rattle.vx_plan.proofs.ChunkedLaws.{paths-append}
use Rattle.vx_plan.proofs.GroupLaws.{apart_onto, lies_onto}

-- ---- rows

dict_layout_rows : {A : Type 0} (admitted : Bool) (s : Setting) (look : A → Option (List ℕ)) (t : Ty) (n : ℕ) (values codes : LayoutData A) (vs cs out : List ValueData)
    → Gives admitted s look values vs → Gives admitted s look codes cs → dict_rows (vs ∷ cs ∷ []) ≡ Some out → length out ≡ n → Gives admitted s look (dict_layout t n values codes) out
dict_layout_rows admitted s look t n values codes vs cs out e f g l = record {
  read = ap₂ (λ a b. and_then (counted n) (and_then dict_rows (all_there (a ∷ b ∷ [])))) e.read f.read ∙ ap (and_then (counted n)) g ∙ counted_same n out l;
  zones = λ a. (tt, (e.zones a, (f.zones a, tt)));
}

-- one run that has ended
run_reads : (admitted : Bool) (s : Setting) (o : DictOptions) (t : Ty) (ck vk : Node) → Reads admitted s (code_type o) ck → Reads admitted s t vk → (m : Bool) (codes values : List Item) (closed : Bool) (e : Eof) (part : List CellData) → closed ≡ true
    → (ns : List ℕ) (ds : List CellData) → stream_cells codes ≡ map offset_cell ns → stream_cells values ≡ ds → Rattle.vx_rules.proofs.RunLaws.Decodes ds ns part → Chunks (code_type o) codes → Chunks t values
    → (ck m codes closed (inside e)).faults ++ (vk m values closed (inside (next e))).faults ≡ []
    → Fit ((ck m codes closed (inside e)).numbers ++ (vk m values closed (inside (next e))).numbers) → (look : List ℕ → Option (List ℕ))
    → Holds look ((ck m codes closed (inside e)).pairs ++ (vk m values closed (inside (next e))).pairs)
    → Gives admitted s look (dict_layout t (row_total codes) (vk m values closed (inside (next e))).layout (ck m codes closed (inside e)).layout) (map value part)
run_reads admitted s o t ck vk rc rv m codes values false e part c ns ds x y d oc ov clean fit look held = absurd (true≢false (sym c))
run_reads admitted s o t ck vk rc rv m codes values true e part c ns ds x y d oc ov clean fit look held =
    let p : Plan = ck m codes true (inside e) in
    let q : Plan = vk m values true (inside (next e)) in
    let l : length ns ≡ length part = decodes_length ds ns part d in
    dict_layout_rows admitted s look t (row_total codes) q.layout p.layout (map value ds) (map value (map offset_cell ns)) (map value part)
    (gives_same admitted s look q.layout (stream_values values) (map value ds) (rv.reads m values (inside (next e)) ov (nil_right p.faults q.faults clean) (fit_right p.numbers q.numbers fit) look (holds_right look p.pairs q.pairs held)) (stream_values_cells values ∙ ap (map value) y))
    (gives_same admitted s look p.layout (stream_values codes) (map value (map offset_cell ns)) (rc.reads m codes (inside e) oc (nil_left p.faults q.faults clean) (fit_left p.numbers q.numbers fit) look (holds_left look p.pairs q.pairs held)) (stream_values_cells codes ∙ ap (map value) x))
    (decodes_rows ds ns part d)
    (length-map part value ∙ sym l ∙ sym (length-map ns offset_cell) ∙ sym (ap length x) ∙ sym (row_total_cells codes))

-- the rows of each run
abbrev pub parts_of : (o : DictOptions) (t : Ty) (rs : List Run) (rows : List CellData) → AllEnded o t rs rows → List (List ValueData)
parts_of o t [] rows h = []
parts_of o t (r ∷ rs) rows h = map value h.0 ∷ parts_of o t rs h.1 h.4

joined_parts : (o : DictOptions) (t : Ty) (rs : List Run) (cs : List CellData) (h : AllEnded o t rs cs) → joined (parts_of o t rs cs h) ≡ map value cs
joined_parts o t [] cs h = ap (map value) (sym h)
joined_parts o t (r ∷ rs) cs h = ap (λ z. map value h.0 ++ z) (joined_parts o t rs h.1 h.4) ∙ sym (map-append value h.0 h.1) ∙ ap (map value) (sym h.2)

runs_read : (admitted : Bool) (s : Setting) (o : DictOptions) (t : Ty) (ck vk : Node) → Reads admitted s (code_type o) ck → Reads admitted s t vk → (m : Bool) (rs : List Run) (e : Eof) (cs : List CellData) (h : AllEnded o t rs cs)
    → all_faults (run_plans t ck vk m rs e) ≡ [] → Fit (all_numbers (run_plans t ck vk m rs e)) → (look : List ℕ → Option (List ℕ)) → Holds look (all_pairs (run_plans t ck vk m rs e))
    → ReadAll admitted s look (all_layouts (run_plans t ck vk m rs e)) (parts_of o t rs cs h)
runs_read admitted s o t ck vk rc rv m [] e cs h clean fit look held = tt
runs_read admitted s o t ck vk rc rv m (r ∷ rs) e cs h clean fit look held =
    let p : Plan = run_plan t ck vk m r e in
    let ps : List Plan = run_plans t ck vk m rs (next (next e)) in
    let w : Ended o t r h.0 = h.3 in (
      run_reads admitted s o t ck vk rc rv m r.codes r.values r.closed e h.0 w.closed w.codes w.distinct w.codes_cells w.values_cells w.decodes w.codes_of w.values_of
          (nil_left p.faults (all_faults ps) clean) (fit_left p.numbers (all_numbers ps) fit) look (holds_left look p.pairs (all_pairs ps) held),
      runs_read admitted s o t ck vk rc rv m rs (next (next e)) h.1 h.4 (nil_right p.faults (all_faults ps) clean) (fit_right p.numbers (all_numbers ps) fit) look (holds_right look p.pairs (all_pairs ps) held),
    )

fit_tail : (items : List Item) (o : DictOptions) (t : Ty) (ended : Bool) (e : Eof) (ns : List ℕ) → Fit (dict_numbers o t items ended e ++ ns) → Fit ns
fit_tail items o t ended e ns h = fit_right (dict_numbers o t items ended e) ns h

pub dict_reads : (admitted : Bool) (s : Setting) (o : DictOptions) (t : Ty) → is_dict_type t ≡ true → (ck vk f : Node) → Reads admitted s (code_type o) ck → Reads admitted s t vk → Reads admitted s t f → Reads admitted s t (dict_node s o t ck vk f)
dict_reads admitted s o t d ck vk f rc rv rf = record { reads = go }
  where
    by_runs : (m : Bool) (i : Item) (is : List Item) (e : Eof) → ItemsOf t (i ∷ is) → (runs_node o t ck vk m (i ∷ is) true e).faults ≡ [] → Fit (runs_node o t ck vk m (i ∷ is) true e).numbers
        → (look : List ℕ → Option (List ℕ)) → Holds look (runs_node o t ck vk m (i ∷ is) true e).pairs
        → Gives admitted s look (runs_node o t ck vk m (i ∷ is) true e).layout (stream_values (i ∷ is))
    by_runs m i is e of clean fit look held =
        let h : AllEnded o t (runs o t (i ∷ is) true) (stream_cells (i ∷ is)) = runs_end o t d i is of in
        let vss : List (List ValueData) = parts_of o t (runs o t (i ∷ is) true) (stream_cells (i ∷ is)) h in
        gives_same admitted s look (runs_node o t ck vk m (i ∷ is) true e).layout (joined vss) (stream_values (i ∷ is))
        (gathered_reads admitted s look t (row_total (i ∷ is)) (all_layouts (run_plans t ck vk m (runs o t (i ∷ is) true) e)) vss
        (runs_read admitted s o t ck vk rc rv m (runs o t (i ∷ is) true) e (stream_cells (i ∷ is)) h clean
        (fit_tail (i ∷ is) o t true e (all_numbers (run_plans t ck vk m (runs o t (i ∷ is) true) e)) fit) look held)
        (ap length (joined_parts o t (runs o t (i ∷ is) true) (stream_cells (i ∷ is)) h) ∙ length-map (stream_cells (i ∷ is)) value ∙ sym (row_total_cells (i ∷ is))))
        (joined_parts o t (runs o t (i ∷ is) true) (stream_cells (i ∷ is)) h ∙ sym (stream_values_cells (i ∷ is)))

    either : (b : Bool) (m : Bool) (i : Item) (is : List Item) (e : Eof) → ItemsOf t (i ∷ is) → (if b then runs_node o t ck vk m (i ∷ is) true e else f m (i ∷ is) true e).faults ≡ []
        → Fit (if b then runs_node o t ck vk m (i ∷ is) true e else f m (i ∷ is) true e).numbers
        → (look : List ℕ → Option (List ℕ)) → Holds look (if b then runs_node o t ck vk m (i ∷ is) true e else f m (i ∷ is) true e).pairs
        → Gives admitted s look (if b then runs_node o t ck vk m (i ∷ is) true e else f m (i ∷ is) true e).layout (stream_values (i ∷ is))
    either true m i is e of clean fit look held = by_runs m i is e of clean fit look held
    either false m i is e of clean fit look held = rf.reads m (i ∷ is) e of clean fit look held

    go : (m : Bool) (items : List Item) (e : Eof) → ItemsOf t items → (dict_node s o t ck vk f m items true e).faults ≡ [] → Fit (dict_node s o t ck vk f m items true e).numbers
        → (look : List ℕ → Option (List ℕ)) → Holds look (dict_node s o t ck vk f m items true e).pairs
        → Gives admitted s look (dict_node s o t ck vk f m items true e).layout (stream_values items)
    go m [] e of clean fit look held = rf.reads m [] e of clean fit look held
    go m (i ∷ is) e of clean fit look held = either (is_dictionary (s.image o.probe i.1)) m i is e of clean fit look held

-- ---- paths

runs_placed : (o : DictOptions) (t : Ty) (ck vk : Node) → Placed (code_type o) ck → Placed t vk → (m : Bool) (rs : List Run) (e : Eof) → Apart (run_paths rs) e
    → Lies (Region (run_paths rs) e) (paths (all_pairs (run_plans t ck vk m rs e)))
runs_placed o t ck vk c v m [] e a = lies_none (Region [] e)
runs_placed o t ck vk c v m (r ∷ rs) e a =
    let p : Plan = ck m r.codes r.closed (inside e) in
    let q : Plan = vk m r.values r.closed (inside (next e)) in
    let ps : List Pair = all_pairs (run_plans t ck vk m rs (next (next e))) in
    let behind : Apart (chunk_paths r.values ++ run_paths rs) (next e) = apart_next (chunk_paths r.values ++ run_paths rs) e (apart_right (chunk_paths r.codes) (chunk_paths r.values ++ run_paths rs) e a) in
    subst (Lies (Region (run_paths (r ∷ rs)) e)) (sym (paths-append (p.pairs ++ q.pairs) ps ∙ ap (λ z. z ++ paths ps) (paths-append p.pairs q.pairs) ∙ append_assoc (paths p.pairs) (paths q.pairs) (paths ps)))
    (two_parts (chunk_paths r.codes) (chunk_paths r.values ++ run_paths rs) e (paths p.pairs) (paths q.pairs ++ paths ps) a
    (c.placed m r.codes r.closed (inside e) (apart_inside (chunk_paths r.codes) e (apart_left (chunk_paths r.codes) (chunk_paths r.values ++ run_paths rs) e a)))
    (two_parts (chunk_paths r.values) (run_paths rs) (next e) (paths q.pairs) (paths ps) behind
    (v.placed m r.values r.closed (inside (next e)) (apart_inside (chunk_paths r.values) (next e) (apart_left (chunk_paths r.values) (run_paths rs) (next e) behind)))
    (runs_placed o t ck vk c v m rs (next (next e)) (apart_next (run_paths rs) (next e) (apart_right (chunk_paths r.values) (run_paths rs) (next e) behind)))))

pub dict_placed : (s : Setting) (o : DictOptions) (t : Ty) (ck vk f : Node) → Placed (code_type o) ck → Placed t vk → Placed t f → Placed t (dict_node s o t ck vk f)
dict_placed s o t ck vk f c v pf = record { placed = go }
  where
    either : (b : Bool) (m : Bool) (i : Item) (is : List Item) (ended : Bool) (e : Eof) → Apart (places (i ∷ is)) e
        → Lies (Region (places (i ∷ is)) e) (paths (if b then runs_node o t ck vk m (i ∷ is) ended e else f m (i ∷ is) ended e).pairs)
    either true m i is ended e a =
        lies_onto (run_paths (runs o t (i ∷ is) ended)) (places (i ∷ is)) e (paths (all_pairs (run_plans t ck vk m (runs o t (i ∷ is) ended) e))) (runs_onto o t i is ended)
        (runs_placed o t ck vk c v m (runs o t (i ∷ is) ended) e (apart_onto (run_paths (runs o t (i ∷ is) ended)) (places (i ∷ is)) e (runs_onto o t i is ended) a))
    either false m i is ended e a = pf.placed m (i ∷ is) ended e a

    go : (m : Bool) (items : List Item) (ended : Bool) (e : Eof) → Apart (places items) e → Lies (Region (places items) e) (paths (dict_node s o t ck vk f m items ended e).pairs)
    go m [] true e a = pf.placed m [] true e a
    go m [] false e a = lies_none (Region [] e)
    go m (i ∷ is) ended e a = either (is_dictionary (s.image o.probe i.1)) m i is ended e a

-- ---- prefixes

both_within : (l k : LayoutData (List ℕ)) (p q r u : Plan) → Within p r → Within q u → Within (both_plans l [] p q) (both_plans k [] r u)
both_within l k p q r u a b =
    within (in_joined p.pairs q.pairs r.pairs u.pairs a.pairs b.pairs) (in_joined p.faults q.faults r.faults u.faults a.faults b.faults)
    (λ e h. fit_both p.numbers q.numbers (a.fit (nil_left r.faults u.faults e) (fit_left r.numbers u.numbers h)) (b.fit (nil_right r.faults u.faults e) (fit_right r.numbers u.numbers h)))
    (let m : p.reserved ≤ r.reserved = a.reserved in let n : q.reserved ≤ u.reserved = b.reserved in omega arith)

run_within : (o : DictOptions) (t : Ty) (ck vk : Node) → Grows (code_type o) ck → Grows t vk → (m : Bool) (r q : Run) (e : Eof) → RunGrows r q → Within (run_plan t ck vk m r e) (run_plan t ck vk m q e)
run_within o t ck vk c v m r q e (inl h) = subst (λ z. Within (run_plan t ck vk m r e) (run_plan t ck vk m z e)) h (within_itself (run_plan t ck vk m r e))
run_within o t ck vk c v m r q e (inr h) =
    both_within (run_plan t ck vk m r e).layout (run_plan t ck vk m q e).layout (ck m r.codes r.closed (inside e)) (vk m r.values r.closed (inside (next e)))
    (ck m q.codes q.closed (inside e)) (vk m q.values q.closed (inside (next e)))
    (subst (λ b. Within (ck m r.codes b (inside e)) (ck m q.codes q.closed (inside e))) (sym h.0)
    (subst (λ z. Within (ck m r.codes false (inside e)) (ck m z q.closed (inside e))) (sym h.2.1) (c.grows m r.codes h.2.0 q.closed (inside e))))
    (subst (λ b. Within (vk m r.values b (inside (next e))) (vk m q.values q.closed (inside (next e)))) (sym h.0)
    (subst (λ z. Within (vk m z false (inside (next e))) (vk m q.values q.closed (inside (next e)))) (sym h.1) (v.grows m [] q.values q.closed (inside (next e)))))

runs_within : (o : DictOptions) (t : Ty) (ck vk : Node) → Grows (code_type o) ck → Grows t vk → (m : Bool) (rs qs : List Run) (e : Eof) → RunsGrow rs qs → Grow (run_plans t ck vk m rs e) (run_plans t ck vk m qs e)
runs_within o t ck vk c v m [] qs e h = grow_none (run_plans t ck vk m qs e)
runs_within o t ck vk c v m (r ∷ rs) [] e h = absurd h
runs_within o t ck vk c v m (r ∷ rs) (q ∷ qs) e h =
    grow_more (run_plan t ck vk m r e) (run_plan t ck vk m q e) (run_plans t ck vk m rs (next (next e))) (run_plans t ck vk m qs (next (next e)))
    (run_within o t ck vk c v m r q e h.0) (runs_within o t ck vk c v m rs qs (next (next e)) h.1)

runs_fewer : (rs qs : List Run) → RunsGrow rs qs → length rs ≤ length qs
runs_fewer [] qs h = omega arith
runs_fewer (r ∷ rs) [] h = absurd h
runs_fewer (r ∷ rs) (q ∷ qs) h = let l : length rs ≤ length qs = runs_fewer rs qs h.1 in omega arith

made_begin : (o : DictOptions) (t : Ty) (ds : List CellData) (xs ys : List Item) (ended : Bool) → (more : List ℕ) × (made_counts o t ds (xs ++ ys) ended ≡ made_counts o t ds xs false ++ more)
made_begin o t ds [] ys ended = (made_counts o t ds ys ended, refl)
made_begin o t ds (x ∷ []) ys ended = (made_counts o t ds (x ∷ ys) ended, refl)
made_begin o t ds (x ∷ z ∷ xs) ys ended =
    let h : (more : List ℕ) × (made_counts o t (cut_at o t ds x).distinct (z ∷ xs ++ ys) ended ≡ made_counts o t (cut_at o t ds x).distinct (z ∷ xs) false ++ more) = made_begin o t (cut_at o t ds x).distinct (z ∷ xs) ys ended in
    (h.0, ap (λ w. (2 * length (cut_at o t ds x).closed + 1) ∷ w) h.1)

numbers_before : (o : DictOptions) (t : Ty) (x : Item) (xs ys : List Item) (ended : Bool) (e : Eof) → Fit (dict_numbers o t (x ∷ xs ++ ys) ended e) → Fit (dict_numbers o t (x ∷ xs) false e)
numbers_before o t x xs ys ended e h =
    let b : (more : List ℕ) × (made_counts o t [] (x ∷ xs ++ ys) ended ≡ made_counts o t [] (x ∷ xs) false ++ more) = made_begin o t [] (x ∷ xs) ys ended in
    let l : length (runs o t (x ∷ xs) false) ≤ length (runs o t (x ∷ xs ++ ys) ended) = runs_fewer (runs o t (x ∷ xs) false) (runs o t (x ∷ xs ++ ys) ended) (runs_grow o t x xs ys ended) in
    fit_before rows_in 0 (x ∷ xs) ys ((e.last + 2 * length (runs o t (x ∷ xs ++ ys) ended)) ∷ made_counts o t [] (x ∷ xs ++ ys) ended) ((e.last + 2 * length (runs o t (x ∷ xs) false)) ∷ made_counts o t [] (x ∷ xs) false)
    (λ f. ((let a : e.last + 2 * length (runs o t (x ∷ xs ++ ys) ended) < 2 ^ 64 = f.0 in omega arith), fit_left (made_counts o t [] (x ∷ xs) false) b.0 (subst Fit b.1 f.1))) h

pub dict_grows : (s : Setting) (o : DictOptions) (t : Ty) (ck vk f : Node) → Grows (code_type o) ck → Grows t vk → Grows t f → Grows t (dict_node s o t ck vk f)
dict_grows s o t ck vk f c v gf = record { grows = go; quiet = λ m e. refl; still = λ m e. refl; steady = λ m d e. refl }
  where
    by_runs : (m : Bool) (x : Item) (xs ys : List Item) (ended : Bool) (e : Eof) → Within (runs_node o t ck vk m (x ∷ xs) false e) (runs_node o t ck vk m (x ∷ xs ++ ys) ended e)
    by_runs m x xs ys ended e =
        let g : Grow (run_plans t ck vk m (runs o t (x ∷ xs) false) e) (run_plans t ck vk m (runs o t (x ∷ xs ++ ys) ended) e) =
        runs_within o t ck vk c v m (runs o t (x ∷ xs) false) (runs o t (x ∷ xs ++ ys) ended) e (runs_grow o t x xs ys ended) in
        within g.pairs g.faults
        (λ w h. fit_both (dict_numbers o t (x ∷ xs) false e) (all_numbers (run_plans t ck vk m (runs o t (x ∷ xs) false) e))
        (numbers_before o t x xs ys ended e (fit_left (dict_numbers o t (x ∷ xs ++ ys) ended e) (all_numbers (run_plans t ck vk m (runs o t (x ∷ xs ++ ys) ended) e)) h))
        (g.fit w (fit_right (dict_numbers o t (x ∷ xs ++ ys) ended e) (all_numbers (run_plans t ck vk m (runs o t (x ∷ xs ++ ys) ended) e)) h)))
        g.reserved

    either : (b : Bool) (m : Bool) (x : Item) (xs ys : List Item) (ended : Bool) (e : Eof)
        → Within (if b then runs_node o t ck vk m (x ∷ xs) false e else f m (x ∷ xs) false e) (if b then runs_node o t ck vk m (x ∷ xs ++ ys) ended e else f m (x ∷ xs ++ ys) ended e)
    either true m x xs ys ended e = by_runs m x xs ys ended e
    either false m x xs ys ended e = gf.grows m (x ∷ xs) ys ended e

    go : (m : Bool) (xs ys : List Item) (ended : Bool) (e : Eof) → Within (dict_node s o t ck vk f m xs false e) (dict_node s o t ck vk f m (xs ++ ys) ended e)
    go m [] ys ended e = within (λ x h. absurd h) (λ f h. absurd h) (λ c g. tt) (omega arith)
    go m (x ∷ xs) ys ended e = either (is_dictionary (s.image o.probe x.1)) m x xs ys ended e

-- ---- type

run_typed : (t : Ty) (ck vk : Node) (m : Bool) (rs : List Run) (n : ℕ) (e : Eof) → layout_type (gathered t n (all_layouts (run_plans t ck vk m rs e))) ≡ t
run_typed t ck vk m [] n e = refl
run_typed t ck vk m (r ∷ []) n e = refl
run_typed t ck vk m (r ∷ q ∷ rs) n e = refl

pub dict_typed : (s : Setting) (o : DictOptions) (t : Ty) (ck vk f : Node) → Typed t f → Typed t (dict_node s o t ck vk f)
dict_typed s o t ck vk f tf = record { typed = go }
  where
    either : (b : Bool) (m : Bool) (i : Item) (is : List Item) (ended : Bool) (e : Eof) → layout_type (if b then runs_node o t ck vk m (i ∷ is) ended e else f m (i ∷ is) ended e).layout ≡ t
    either true m i is ended e = run_typed t ck vk m (runs o t (i ∷ is) ended) (row_total (i ∷ is)) e
    either false m i is ended e = tf.typed m (i ∷ is) ended e

    go : (m : Bool) (items : List Item) (ended : Bool) (e : Eof) → layout_type (dict_node s o t ck vk f m items ended e).layout ≡ t
    go m [] true e = tf.typed m [] true e
    go m [] false e = refl
    go m (i ∷ is) ended e = either (is_dictionary (s.image o.probe i.1)) m i is ended e
