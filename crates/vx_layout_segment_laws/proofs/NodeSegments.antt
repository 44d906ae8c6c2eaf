-- The segments that each kind of node names.
use Rattle.std.proofs.Common.{◌≡◌, ℕ, ◌+◌, Bool, true, false, List, [], ◌∷◌, ◌++◌, length, Option, Some, None, refl}
use Rattle.std.specs.Prelude.{if◌then◌else◌}
use Rattle.std.proofs.lemmas.List.Sorted.{IsPermutation-refl}
use Rattle.vx_model.specs.declared.encoding.EncodingId.{EncodingId}
use Rattle.vx_model.specs.Ty.{Ty}
use Rattle.vx_model.specs.CellData.{CellData}
use Rattle.vx_path.specs.Path.{Eof, inside, next}
use Rattle.vx_layout_segments.specs.Segments.{segments_in}
use Rattle.vx_rules.specs.Stream.{Chunk}
use Rattle.vx_rules.specs.Runs.{DictOptions, Run, runs, runs_from, ended_runs, next_codes, cut_at}
use Rattle.vx_zone_spec.specs.ZoneTable.{Filled, table_type}
use Rattle.vx_plan.specs.PlanData.{Setting, Item, Plan, Node, row_total}
use Rattle.vx_strategy_spec.specs.StrategyData.{FlatOptions, ZonedOptions, Grouping}
use Rattle.vx_plan.specs.FlatNode.{flat_node, segment, pair_at, refused_at}
use Rattle.vx_plan.specs.ChunkedNode.{chunked_node, chunked_numbers, chunk_plans, all_faults}
use Rattle.vx_plan.specs.GroupNode.{grouped_stream, grouped_node, images, compressed_node}
use Rattle.vx_plan.specs.DictNode.{is_dictionary, run_plan, run_plans, dict_numbers, runs_node, dict_node}
use Rattle.vx_plan.specs.ZonedNode.{recorded, forbidden_faults, zone_faults, table_items, with_table, table_of, zoned_node}
use Rattle.vx_plan.proofs.PlanLists.{nil_left, nil_right}
use Rattle.vx_plan.proofs.FlatLaws.{cons_nil}
use Rattle.vx_array_tree_laws.specs.Statements.{Encodes}
use Rattle.vx_layout_segment_laws.specs.Named.{SegmentsArePairs}
use Rattle.vx_layout_segment_laws.proofs.Arranged.{Named, named_none, named_both, named_other, named_last, AllNamed, whole_named}

-- of a stream that has ended without a fault
pub record Names (k : Node) : Type 0 where
  pub names : (m : Bool) (items : List Item) (e : Eof) → (k m items true e).faults ≡ [] → SegmentsArePairs (k m items true e)

-- ---- flat

no_refusal : (path : List ℕ) (r : Option EncodingId) → refused_at path r ≡ [] → r ≡ None
no_refusal path None e = refl
no_refusal path (Some id) e = cc

stored_named : (path : List ℕ) (o : Option (List ℕ)) (b : List ℕ) → o ≡ Some b → Named (pair_at path o) (path ∷ [])
stored_named path None b e = cc
stored_named path (Some c) b e = IsPermutation-refl (path ∷ [])

pub flat_names : (s : Setting) → Encodes s → (o : FlatOptions) (t : Ty) → Names (flat_node s o t)
flat_names s encodes o t = record { names = go }
  where
    go : (m : Bool) (items : List Item) (e : Eof) → (flat_node s o t m items true e).faults ≡ [] → SegmentsArePairs (flat_node s o t m items true e)
    go m [] e clean = named_none
    go m (c ∷ []) e clean =
        let enc : (b : List ℕ) × (segment s o c ≡ Some b) = encodes o.padding c.1 (no_refusal c.0 (s.codec.refused s.encodings c.1) clean) in
        stored_named c.0 (segment s o c) enc.0 enc.1
    go m (c ∷ d ∷ is) e clean = let f = nil_right (refused_at c.0 (s.codec.refused s.encodings c.1)) _ clean in absurd (cons_nil f)

-- ---- chunks alone

chunks_named : (k : Node) → Names k → (m : Bool) (items : List Item) (e : Eof) → all_faults (chunk_plans k m items e) ≡ [] → AllNamed (chunk_plans k m items e)
chunks_named k r m [] e clean = tt
chunks_named k r m (i ∷ is) e clean =
    let p : Plan = k m (i ∷ []) true (inside e) in
    let ps : List Plan = chunk_plans k m is (next e) in
    (r.names m (i ∷ []) (inside e) (nil_left p.faults (all_faults ps) clean), chunks_named k r m is (next e) (nil_right p.faults (all_faults ps) clean))

pub chunked_names : (t : Ty) (k : Node) → Names k → Names (chunked_node t k)
chunked_names t k r = record { names = λ m items e clean. whole_named t (row_total items) (chunked_numbers items e) (chunk_plans k m items e) (chunks_named k r m items e clean) }

-- ---- other streams

pub grouped_names : (g : Grouping) (t : Ty) (k : Node) → Names k → Names (grouped_node g t k)
grouped_names g t k r = record { names = λ m items e clean. r.names m (grouped_stream g t items true) e clean }

pub compressed_names : (s : Setting) (which room : ℕ) (t : Ty) (k : Node) → Names k → Names (compressed_node s which room t k)
compressed_names s which room t k r = record { names = λ m items e clean. r.names m (images s which items) e clean }

-- ---- runs, which have all ended

abbrev AllClosed : List Run → Type 0
AllClosed [] = Unit {0}
AllClosed (r ∷ rs) = (r.closed ≡ true) × AllClosed rs

closed_both : (xs ys : List Run) → AllClosed xs → AllClosed ys → AllClosed (xs ++ ys)
closed_both [] ys g h = h
closed_both (x ∷ xs) ys g h = (g.0, closed_both xs ys g.1 h)

ended_closed : (o : DictOptions) (t : Ty) (p : List ℕ) (r : ℕ) (cur : List Chunk) (xs : List (List ℕ × List CellData)) → AllClosed (ended_runs o t p r cur xs)
ended_closed o t p r cur [] = tt
ended_closed o t p r cur (x ∷ xs) = (refl, ended_closed o t p (r + 2) [] xs)

runs_closed : (o : DictOptions) (t : Ty) (ds : List CellData) (cur items : List Chunk) → AllClosed (runs_from o t ds cur items true)
runs_closed o t ds cur [] = tt
runs_closed o t ds cur (c ∷ []) = ended_closed o t c.0 0 cur ((cut_at o t ds c).closed ++ (((cut_at o t ds c).codes, (cut_at o t ds c).distinct) ∷ []))
runs_closed o t ds cur (c ∷ d ∷ cs) =
    closed_both (ended_runs o t c.0 0 cur (cut_at o t ds c).closed)
    (runs_from o t (cut_at o t ds c).distinct (next_codes o c.0 0 cur (cut_at o t ds c).closed (cut_at o t ds c).codes) (d ∷ cs) true)
    (ended_closed o t c.0 0 cur (cut_at o t ds c).closed)
    (runs_closed o t (cut_at o t ds c).distinct (next_codes o c.0 0 cur (cut_at o t ds c).closed (cut_at o t ds c).codes) (d ∷ cs))

-- its values are named first, its codes written first
run_named : (ck vk : Node) → Names ck → Names vk → (m : Bool) (codes values : List Item) (closed : Bool) (e : Eof) → closed ≡ true
    → (ck m codes closed (inside e)).faults ++ (vk m values closed (inside (next e))).faults ≡ []
    → Named ((ck m codes closed (inside e)).pairs ++ (vk m values closed (inside (next e))).pairs)
    (segments_in (vk m values closed (inside (next e))).layout ++ (segments_in (ck m codes closed (inside e)).layout ++ []))
run_named ck vk rc rv m codes values false e c clean = cc
run_named ck vk rc rv m codes values true e c clean =
    let p : Plan = ck m codes true (inside e) in
    let q : Plan = vk m values true (inside (next e)) in
    named_other p.pairs q.pairs (segments_in p.layout ++ []) (segments_in q.layout)
    (named_last p.pairs (segments_in p.layout) (rc.names m codes (inside e) (nil_left p.faults q.faults clean))) (rv.names m values (inside (next e)) (nil_right p.faults q.faults clean))

runs_named : (t : Ty) (ck vk : Node) → Names ck → Names vk → (m : Bool) (rs : List Run) (e : Eof) → AllClosed rs → all_faults (run_plans t ck vk m rs e) ≡ [] → AllNamed (run_plans t ck vk m rs e)
runs_named t ck vk rc rv m [] e c clean = tt
runs_named t ck vk rc rv m (r ∷ rs) e c clean =
    let p : Plan = run_plan t ck vk m r e in
    let ps : List Plan = run_plans t ck vk m rs (next (next e)) in (
      run_named ck vk rc rv m r.codes r.values r.closed e c.0 (nil_left p.faults (all_faults ps) clean),
      runs_named t ck vk rc rv m rs (next (next e)) c.1 (nil_right p.faults (all_faults ps) clean),
    )

pub dict_names : (s : Setting) (o : DictOptions) (t : Ty) (ck vk f : Node) → Names ck → Names vk → Names f → Names (dict_node s o t ck vk f)
dict_names s o t ck vk f rc rv rf = record { names = go }
  where
    either : (b : Bool) (m : Bool) (i : Item) (is : List Item) (e : Eof) → (if b then runs_node o t ck vk m (i ∷ is) true e else f m (i ∷ is) true e).faults ≡ []
        → SegmentsArePairs (if b then runs_node o t ck vk m (i ∷ is) true e else f m (i ∷ is) true e)
    either true m i is e clean =
        whole_named t (row_total (i ∷ is)) (dict_numbers o t (i ∷ is) true e) (run_plans t ck vk m (runs o t (i ∷ is) true) e)
        (runs_named t ck vk rc rv m (runs o t (i ∷ is) true) e (runs_closed o t [] [] (i ∷ is)) clean)
    either false m i is e clean = rf.names m (i ∷ is) e clean

    go : (m : Bool) (items : List Item) (e : Eof) → (dict_node s o t ck vk f m items true e).faults ≡ [] → SegmentsArePairs (dict_node s o t ck vk f m items true e)
    go m [] e clean = rf.names m [] e clean
    go m (i ∷ is) e clean = either (is_dictionary (s.image o.probe i.1)) m i is e clean

-- ---- zones

table_named : (s : Setting) (o : ZonedOptions) (t : Ty) (stats : Ty → Node) → ((u : Ty) → Names (stats u)) → (items : List Item) (e : Eof) (p : Plan) (cs : Option (List Filled))
    → (p.faults ≡ [] → SegmentsArePairs p) → (with_table s o t stats false items e p cs).faults ≡ [] → SegmentsArePairs (with_table s o t stats false items e p cs)
table_named s o t stats rs items e p None r clean = r clean
table_named s o t stats rs items e p (Some cs) r clean =
    let q : Plan = stats (table_type cs) false (table_items cs (length items) e) true (next (next e)) in
    named_both p.pairs q.pairs (segments_in p.layout) (segments_in q.layout ++ []) (r (nil_left p.faults q.faults clean))
    (named_last q.pairs (segments_in q.layout) ((rs (table_type cs)).names false (table_items cs (length items) e) (next (next e)) (nil_right p.faults q.faults clean)))

pub zoned_names : (s : Setting) (o : ZonedOptions) (t : Ty) (k : Node) (stats : Ty → Node) → Names k → ((u : Ty) → Names (stats u)) → Names (zoned_node s o t k stats)
zoned_names s o t k stats r rs = record { names = go }
  where
    go : (m : Bool) (items : List Item) (e : Eof) → (zoned_node s o t k stats m items true e).faults ≡ [] → SegmentsArePairs (zoned_node s o t k stats m items true e)
    go true items e clean = r.names true items e clean
    go false items e clean =
        table_named s o t stats rs items e (k false items true (inside e)) (table_of s o t items true) (λ c. r.names false items (inside e) c)
        (nil_right (forbidden_faults s.allowed (recorded o t) ++ zone_faults o.zone_len (recorded o t) items) (with_table s o t stats false items e (k false items true (inside e)) (table_of s o t items true)).faults clean)
