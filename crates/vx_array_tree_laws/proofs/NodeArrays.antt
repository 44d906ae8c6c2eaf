-- The array trees below each kind of node.
use Rattle.std.proofs.Common.{◌≡◌, ℕ, ◌+◌, ◌<◌, ◌^◌, Bool, true, false, List, [], ◌∷◌, ◌++◌, length, Option, Some, None, refl, ◌∙◌}
use Rattle.std.specs.Prelude.{if◌then◌else◌}
use Rattle.vx_model.specs.declared.encoding.EncodingId.{EncodingId}
use Rattle.vx_model.specs.Ty.{Ty}
use Rattle.vx_model.specs.CellData.{CellData}
use Rattle.vx_model.specs.ChunkData.{ChunkData, is_dict_type}
use Rattle.vx_path.specs.Lists.{In}
use Rattle.vx_path.specs.Path.{Eof, inside, next}
use Rattle.vx_rules.specs.Stream.{Chunk, Chunks, stream_cells, piece_cells, PiecesOf}
use Rattle.vx_rules.specs.Blocks.{blocks}
use Rattle.vx_rules.specs.Flushes.{flushes}
use Rattle.vx_rules.specs.Runs.{DictOptions, Run, runs, runs_from, ended_runs, next_codes, cut_at, code_type}
use Rattle.vx_rules.proofs.RegroupLaws.{regrouped_of}
use Rattle.vx_rules.proofs.BlockLaws.{Rows, blocks_regroup}
use Rattle.vx_rules.proofs.FlushLaws.{flushes_regroup, collected_of}
use Rattle.vx_rules.proofs.RunStreams.{Ended, AllEnded, runs_end}
use Rattle.vx_zone_spec.specs.ZoneTable.{Filled, table_type, kept_columns}
use Rattle.vx_plan.specs.PlanData.{Setting, Item, Plan, Node, row_total}
use Rattle.vx_strategy_spec.specs.StrategyData.{FlatOptions, ZonedOptions, Grouping, by_blocks, by_bytes, into_one}
use Rattle.vx_strategy_spec.specs.Admitted.{is_admitted_zoned}
use Rattle.vx_plan.specs.Valid.{Fit, Keeps}
use Rattle.vx_plan.specs.FlatNode.{flat_node, segment, pair_at, refused_at}
use Rattle.vx_plan.specs.ChunkedNode.{chunked_node, chunked_numbers, chunk_plans, all_pairs, all_faults, all_layouts, all_numbers}
use Rattle.vx_plan.specs.GroupNode.{grouped_stream, group_numbers, grouped_node, images, compressed_node}
use Rattle.vx_plan.specs.DictNode.{is_dictionary, run_plan, run_plans, dict_numbers, runs_node, dict_node}
use Rattle.vx_plan.specs.ZonedNode.{recorded, forbidden_faults, zone_faults, zone_records, table_items, data_numbers, with_table, table_of, zoned_node}
use Rattle.vx_plan.proofs.PlanLists.{ItemsOf, Holds, nil_left, nil_right, fit_left, fit_right, holds_left, holds_right, fit_cells}
use Rattle.vx_plan.proofs.FlatLaws.{cons_nil}
use Rattle.vx_array_tree_laws.specs.Flats.{FlatsHold}
use Rattle.vx_array_tree_laws.specs.Statements.{Encodes}
use Rattle.vx_array_tree_laws.proofs.FlatLists.{AllHold, gathered_flats}
use Rattle.vx_plan.proofs.ZonedLaws.{whole_table, zone_fits}

-- What is said of a node at a type: each flat node of what it gives is as the strategy has it.
pub record Arrays (s : Setting) (options : List FlatOptions) (Good : Type 0) (t : Ty) (k : Node) : Type 0 where
  pub arrays : (m : Bool) (items : List Item) (e : Eof) → (Good → ItemsOf t items) → (k m items true e).faults ≡ [] → (Good → Fit (k m items true e).numbers)
      → (look : List ℕ → Option (List ℕ)) → Holds look (k m items true e).pairs → FlatsHold s options Good look (k m items true e).layout

-- ---- flat

no_refusal : (path : List ℕ) (r : Option EncodingId) → refused_at path r ≡ [] → r ≡ None
no_refusal path None e = refl
no_refusal path (Some id) e = cc

held_pair : (look : List ℕ → Option (List ℕ)) (path : List ℕ) (o : Option (List ℕ)) (b : List ℕ) → o ≡ Some b → Holds look (pair_at path o) → look path ≡ Some b
held_pair look path None b e h = cc
held_pair look path (Some c) b e h = h.0 ∙ e

pub flat_arrays : (s : Setting) → Encodes s → (options : List FlatOptions) (Good : Type 0) (o : FlatOptions) → In o options → (t : Ty) → Arrays s options Good t (flat_node s o t)
flat_arrays s encodes options Good o i t = record { arrays = go }
  where
    go : (m : Bool) (items : List Item) (e : Eof) → (Good → ItemsOf t items) → (flat_node s o t m items true e).faults ≡ [] → (Good → Fit (flat_node s o t m items true e).numbers)
        → (look : List ℕ → Option (List ℕ)) → Holds look (flat_node s o t m items true e).pairs → FlatsHold s options Good look (flat_node s o t m items true e).layout
    go m [] e of clean fit look held = (tt, tt)
    go m (c ∷ []) e of clean fit look held =
        let enc : (b : List ℕ) × (segment s o c ≡ Some b) = encodes o.padding c.1 (no_refusal c.0 (s.codec.refused s.encodings c.1) clean) in (
          record {
            node = o;
            name = c.0;
            chunk = c.1;
            bytes = enc.0;
            of_strategy = i;
            context = refl;
            one_segment = refl;
            stored = held_pair look c.0 (segment s o c) enc.0 enc.1 held;
            encoded = enc.1;
            row_count = refl;
            of_type = λ g. (of g).0;
            array_tree = refl;
          },
          tt,
        )
    go m (c ∷ d ∷ is) e of clean fit look held = let f = nil_right (refused_at c.0 (s.codec.refused s.encodings c.1)) _ clean in absurd (cons_nil f)

-- ---- chunks alone

chunks_hold : (s : Setting) (options : List FlatOptions) (Good : Type 0) (t : Ty) (k : Node) → Arrays s options Good t k → (m : Bool) (items : List Item) (e : Eof) → (Good → ItemsOf t items)
    → all_faults (chunk_plans k m items e) ≡ [] → (Good → Fit (all_numbers (chunk_plans k m items e)))
    → (look : List ℕ → Option (List ℕ)) → Holds look (all_pairs (chunk_plans k m items e)) → AllHold s options Good look (all_layouts (chunk_plans k m items e))
chunks_hold s options Good t k r m [] e of clean fit look held = tt
chunks_hold s options Good t k r m (i ∷ is) e of clean fit look held =
    let p : Plan = k m (i ∷ []) true (inside e) in
    let ps : List Plan = chunk_plans k m is (next e) in (
      r.arrays m (i ∷ []) (inside e) (λ g. ((of g).0, tt)) (nil_left p.faults (all_faults ps) clean) (λ g. fit_left p.numbers (all_numbers ps) (fit g)) look (holds_left look p.pairs (all_pairs ps) held),
      chunks_hold s options Good t k r m is (next e) (λ g. (of g).1) (nil_right p.faults (all_faults ps) clean) (λ g. fit_right p.numbers (all_numbers ps) (fit g)) look (holds_right look p.pairs (all_pairs ps) held),
    )

pub chunked_arrays : (s : Setting) (options : List FlatOptions) (Good : Type 0) (t : Ty) (k : Node) → Arrays s options Good t k → Arrays s options Good t (chunked_node t k)
chunked_arrays s options Good t k r = record {
  arrays = λ m items e of clean fit look held.
      gathered_flats s options Good look t (row_total items) (all_layouts (chunk_plans k m items e)) (chunks_hold s options Good t k r m items e of clean (λ g. fit_right (chunked_numbers items e) (all_numbers (chunk_plans k m items e)) (fit g)) look held);
}

-- ---- other streams

kept_of : (g : Grouping) (t : Ty) (items : List Item) → Chunks t items → length (stream_cells items) < 2 ^ 64 → Chunks t (grouped_stream g t items true)
kept_of (by_blocks o) t items of lt = regrouped_of (List CellData) t (blocks o t) (λ rows. rows) (Rows t) (blocks_regroup o t) items of lt
kept_of (by_bytes size) t items of lt = regrouped_of (List ChunkData) t (flushes size) piece_cells (PiecesOf t) (flushes_regroup size t) items of lt
kept_of into_one t items of lt = collected_of t items of lt

pub grouped_arrays : (s : Setting) (options : List FlatOptions) (Good : Type 0) (r : Grouping) (t : Ty) (k : Node) → Arrays s options Good t k → Arrays s options Good t (grouped_node r t k)
grouped_arrays s options Good r t k h = record {
  arrays = λ m items e of clean fit look held.
      h.arrays m (grouped_stream r t items true) e (λ g. kept_of r t items (of g) (fit_cells items (group_numbers r t items true) (k m (grouped_stream r t items true) true e).numbers (fit g)).0) clean
      (λ g. (fit_cells items (group_numbers r t items true) (k m (grouped_stream r t items true) true e).numbers (fit g)).1) look held;
}

images_of : (s : Setting) → Keeps s → (which : ℕ) (t : Ty) (items : List Item) → ItemsOf t items → ItemsOf t (images s which items)
images_of s keeps which t [] of = tt
images_of s keeps which t (c ∷ cs) of = (keeps.image_of which t c.1 of.0, images_of s keeps which t cs of.1)

pub compressed_arrays : (s : Setting) (options : List FlatOptions) (Good : Type 0) → (Good → Keeps s) → (which room : ℕ) (t : Ty) (k : Node) → Arrays s options Good t k → Arrays s options Good t (compressed_node s which room t k)
compressed_arrays s options Good keeps which room t k h = record {
  arrays = λ m items e of clean fit look held. h.arrays m (images s which items) e (λ g. images_of s (keeps g) which t items (of g)) clean fit look held;
}

-- ---- runs, which have all ended

abbrev AllClosed : List Run → Type 0
AllClosed [] = Unit {0}
AllClosed (r ∷ rs) = (r.closed ≡ true) × AllClosed rs

closed_both : (xs ys : List Run) → AllClosed xs → AllClosed ys → AllClosed (xs ++ ys)
closed_both [] ys g h = h
closed_both (x ∷ xs) ys g h = (g.0, closed_both xs ys g.1 h)

ended_closed : (o : DictOptions) (t : Ty) (p : List ℕ) (r : ℕ) (cur : List Chunk) (xs : List (List ℕ × List CellData)) → AllClosed (ended_runs o t p r cur xs)
ended_closed o t p r cur [] = tt
ended_closed o t p r cur (x ∷ xs) = (refl, ended_closed o t p (r + 2) [] xs)

runs_closed : (o : DictOptions) (t : Ty) (ds : List CellData) (cur items : List Chunk) → AllClosed (runs_from o t ds cur items true)
runs_closed o t ds cur [] = tt
runs_closed o t ds cur (c ∷ []) = ended_closed o t c.0 0 cur ((cut_at o t ds c).closed ++ (((cut_at o t ds c).codes, (cut_at o t ds c).distinct) ∷ []))
runs_closed o t ds cur (c ∷ d ∷ cs) =
    closed_both (ended_runs o t c.0 0 cur (cut_at o t ds c).closed)
    (runs_from o t (cut_at o t ds c).distinct (next_codes o c.0 0 cur (cut_at o t ds c).closed (cut_at o t ds c).codes) (d ∷ cs) true)
    (ended_closed o t c.0 0 cur (cut_at o t ds c).closed)
    (runs_closed o t (cut_at o t ds c).distinct (next_codes o c.0 0 cur (cut_at o t ds c).closed (cut_at o t ds c).codes) (d ∷ cs))

-- the codes and values of each run are whole chunks
abbrev RunsOf : DictOptions → Ty → List Run → Type 0
RunsOf o t [] = Unit {0}
RunsOf o t (r ∷ rs) = (Chunks (code_type o) r.codes × Chunks t r.values) × RunsOf o t rs

runs_of : (o : DictOptions) (t : Ty) (rs : List Run) (cs : List CellData) → AllEnded o t rs cs → RunsOf o t rs
runs_of o t [] cs h = tt
runs_of o t (r ∷ rs) cs h = let w : Ended o t r h.0 = h.3 in ((w.codes_of, w.values_of), runs_of o t rs h.1 h.4)

run_holds : (s : Setting) (options : List FlatOptions) (Good : Type 0) (u t : Ty) (ck vk : Node) → Arrays s options Good u ck → Arrays s options Good t vk → (m : Bool) (codes values : List Item) (closed : Bool) (e : Eof) → closed ≡ true
    → (Good → Chunks u codes × Chunks t values)
    → (ck m codes closed (inside e)).faults ++ (vk m values closed (inside (next e))).faults ≡ []
    → (Good → Fit ((ck m codes closed (inside e)).numbers ++ (vk m values closed (inside (next e))).numbers))
    → (look : List ℕ → Option (List ℕ)) → Holds look ((ck m codes closed (inside e)).pairs ++ (vk m values closed (inside (next e))).pairs)
    → FlatsHold s options Good look (vk m values closed (inside (next e))).layout × FlatsHold s options Good look (ck m codes closed (inside e)).layout
run_holds s options Good u t ck vk rc rv m codes values false e c of clean fit look held = cc
run_holds s options Good u t ck vk rc rv m codes values true e c of clean fit look held =
    let p : Plan = ck m codes true (inside e) in
    let q : Plan = vk m values true (inside (next e)) in (
      rv.arrays m values (inside (next e)) (λ g. (of g).1) (nil_right p.faults q.faults clean) (λ g. fit_right p.numbers q.numbers (fit g)) look (holds_right look p.pairs q.pairs held),
      rc.arrays m codes (inside e) (λ g. (of g).0) (nil_left p.faults q.faults clean) (λ g. fit_left p.numbers q.numbers (fit g)) look (holds_left look p.pairs q.pairs held),
    )

runs_hold : (s : Setting) (options : List FlatOptions) (Good : Type 0) (o : DictOptions) (t : Ty) (ck vk : Node) → Arrays s options Good (code_type o) ck → Arrays s options Good t vk → (m : Bool) (rs : List Run) (e : Eof) → AllClosed rs
    → (Good → RunsOf o t rs) → all_faults (run_plans t ck vk m rs e) ≡ [] → (Good → Fit (all_numbers (run_plans t ck vk m rs e)))
    → (look : List ℕ → Option (List ℕ)) → Holds look (all_pairs (run_plans t ck vk m rs e)) → AllHold s options Good look (all_layouts (run_plans t ck vk m rs e))
runs_hold s options Good o t ck vk rc rv m [] e c of clean fit look held = tt
runs_hold s options Good o t ck vk rc rv m (r ∷ rs) e c of clean fit look held =
    let p : Plan = run_plan t ck vk m r e in
    let ps : List Plan = run_plans t ck vk m rs (next (next e)) in
    let h : FlatsHold s options Good look (vk m r.values r.closed (inside (next e))).layout × FlatsHold s options Good look (ck m r.codes r.closed (inside e)).layout =
    run_holds s options Good (code_type o) t ck vk rc rv m r.codes r.values r.closed e c.0 (λ g. (of g).0) (nil_left p.faults (all_faults ps) clean) (λ g. fit_left p.numbers (all_numbers ps) (fit g)) look (holds_left look p.pairs (all_pairs ps) held) in (
      (tt, (h.0, (h.1, tt))),
      runs_hold s options Good o t ck vk rc rv m rs (next (next e)) c.1 (λ g. (of g).1) (nil_right p.faults (all_faults ps) clean) (λ g. fit_right p.numbers (all_numbers ps) (fit g)) look (holds_right look p.pairs (all_pairs ps) held),
    )

pub dict_arrays : (s : Setting) (options : List FlatOptions) (Good : Type 0) (o : DictOptions) (t : Ty) → is_dict_type t ≡ true → (ck vk f : Node) → Arrays s options Good (code_type o) ck → Arrays s options Good t vk
    → Arrays s options Good t f → Arrays s options Good t (dict_node s o t ck vk f)
dict_arrays s options Good o t d ck vk f rc rv rf = record { arrays = go }
  where
    either : (b : Bool) (m : Bool) (i : Item) (is : List Item) (e : Eof) → (Good → ItemsOf t (i ∷ is)) → (if b then runs_node o t ck vk m (i ∷ is) true e else f m (i ∷ is) true e).faults ≡ []
        → (Good → Fit (if b then runs_node o t ck vk m (i ∷ is) true e else f m (i ∷ is) true e).numbers)
        → (look : List ℕ → Option (List ℕ)) → Holds look (if b then runs_node o t ck vk m (i ∷ is) true e else f m (i ∷ is) true e).pairs
        → FlatsHold s options Good look (if b then runs_node o t ck vk m (i ∷ is) true e else f m (i ∷ is) true e).layout
    either true m i is e of clean fit look held =
        gathered_flats s options Good look t (row_total (i ∷ is)) (all_layouts (run_plans t ck vk m (runs o t (i ∷ is) true) e))
        (runs_hold s options Good o t ck vk rc rv m (runs o t (i ∷ is) true) e (runs_closed o t [] [] (i ∷ is))
        (λ g. runs_of o t (runs o t (i ∷ is) true) (stream_cells (i ∷ is)) (runs_end o t d i is (of g))) clean
        (λ g. fit_right (dict_numbers o t (i ∷ is) true e) (all_numbers (run_plans t ck vk m (runs o t (i ∷ is) true) e)) (fit g)) look held)
    either false m i is e of clean fit look held = rf.arrays m (i ∷ is) e of clean fit look held

    go : (m : Bool) (items : List Item) (e : Eof) → (Good → ItemsOf t items) → (dict_node s o t ck vk f m items true e).faults ≡ [] → (Good → Fit (dict_node s o t ck vk f m items true e).numbers)
        → (look : List ℕ → Option (List ℕ)) → Holds look (dict_node s o t ck vk f m items true e).pairs → FlatsHold s options Good look (dict_node s o t ck vk f m items true e).layout
    go m [] e of clean fit look held = rf.arrays m [] e of clean fit look held
    go m (i ∷ is) e of clean fit look held = either (is_dictionary (s.image o.probe i.1)) m i is e of clean fit look held

-- ---- zones

table_holds : (s : Setting) (options : List FlatOptions) (Good : Type 0) (o : ZonedOptions) → (Good → is_admitted_zoned o ≡ true) → (t : Ty) (stats : Ty → Node) → ((u : Ty) → Arrays s options Good u (stats u))
    → (items : List Item) (e : Eof) (p : Plan) (cs : Option (List Filled)) → (Good → ItemsOf t items) → kept_columns (recorded o t) (zone_records s t (recorded o t) items) ≡ cs
    → (look : List ℕ → Option (List ℕ)) → (p.faults ≡ [] → (Good → Fit p.numbers) → Holds look p.pairs → FlatsHold s options Good look p.layout)
    → (with_table s o t stats false items e p cs).faults ≡ [] → (Good → Fit (with_table s o t stats false items e p cs).numbers)
    → Holds look (with_table s o t stats false items e p cs).pairs → FlatsHold s options Good look (with_table s o t stats false items e p cs).layout
table_holds s options Good o ok t stats rs items e p None of kept look r clean fit held = r clean (λ g. fit_right (data_numbers items e) p.numbers (fit g)) held
table_holds s options Good o ok t stats rs items e p (Some cs) of kept look r clean fit held =
    let q : Plan = stats (table_type cs) false (table_items cs (length items) e) true (next (next e)) in (
      tt,
      (
        r (nil_left p.faults q.faults clean) (λ g. fit_left p.numbers q.numbers (zone_fits items e (p.numbers ++ q.numbers) (fit g)).1) (holds_left look p.pairs q.pairs held),
        (
          (rs (table_type cs)).arrays false (table_items cs (length items) e) (next (next e)) (λ g. (whole_table s o t items cs (of g) (zone_fits items e (p.numbers ++ q.numbers) (fit g)).0 kept (ok g), tt))
              (nil_right p.faults q.faults clean) (λ g. fit_right p.numbers q.numbers (zone_fits items e (p.numbers ++ q.numbers) (fit g)).1) look (holds_right look p.pairs q.pairs held),
          tt,
        ),
      ),
    )

pub zoned_arrays : (s : Setting) (options : List FlatOptions) (Good : Type 0) (o : ZonedOptions) → (Good → is_admitted_zoned o ≡ true) → (t : Ty) (k : Node) (stats : Ty → Node) → Arrays s options Good t k
    → ((u : Ty) → Arrays s options Good u (stats u)) → Arrays s options Good t (zoned_node s o t k stats)
zoned_arrays s options Good o ok t k stats r rs = record { arrays = go }
  where
    go : (m : Bool) (items : List Item) (e : Eof) → (Good → ItemsOf t items) → (zoned_node s o t k stats m items true e).faults ≡ [] → (Good → Fit (zoned_node s o t k stats m items true e).numbers)
        → (look : List ℕ → Option (List ℕ)) → Holds look (zoned_node s o t k stats m items true e).pairs → FlatsHold s options Good look (zoned_node s o t k stats m items true e).layout
    go true items e of clean fit look held = r.arrays true items e of clean fit look held
    go false items e of clean fit look held =
        table_holds s options Good o ok t stats rs items e (k false items true (inside e)) (table_of s o t items true) of refl look
        (λ c f h. r.arrays false items (inside e) of c f look h)
        (nil_right (forbidden_faults s.allowed (recorded o t) ++ zone_faults o.zone_len (recorded o t) items) (with_table s o t stats false items e (k false items true (inside e)) (table_of s o t items true)).faults clean)
        fit held
