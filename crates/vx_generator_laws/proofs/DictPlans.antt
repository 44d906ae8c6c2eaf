-- A dictionary by runs, or what stands for it where the first chunk's image is none, of plain chunks: nothing is refused, and sums over the rows bound what is written.
use Rattle.std.proofs.Common.{◌≡◌, ℕ, ◌+◌, ◌*◌, ◌≤◌, Bool, true, false, List, [], ◌∷◌, ◌++◌, map, length, None, refl, sym, ap, ◌∙◌, subst, arith, length-append}
use Rattle.std.specs.Prelude.{if◌then◌else◌, nat_le}
use Rattle.std.proofs.lemmas.List.{length-map}
use Rattle.vx_model.specs.declared.ptype.PType.TheVariants.{U8, U16}
use Rattle.vx_model.specs.Words.{total_by}
use Rattle.vx_model.specs.Ty.{Ty, primitive}
use Rattle.vx_model.specs.CellData.{CellData, cell_size}
use Rattle.vx_model.specs.ChunkData.{ChunkData, plain_piece, cells, is_dict_type}
use Rattle.vx_path.specs.Path.{Eof, inside, next}
use Rattle.vx_layout_spec.specs.LayoutTree.{LayoutData}
use Rattle.vx_rules.specs.Columns.{offset_cell}
use Rattle.vx_rules.specs.Flushes.{chunk_pieces}
use Rattle.vx_rules.specs.Runs.{DictOptions, code_type, codes_piece, Run, cut_at, runs}
use Rattle.vx_strategy_spec.specs.StrategyData.{FlatOptions}
use Rattle.vx_plan.specs.PlanData.{Setting, Item, Plan, Node, row_totals}
use Rattle.vx_plan.specs.FlatNode.{flat_node}
use Rattle.vx_plan.specs.ChunkedNode.{both_plans, all_pairs, all_numbers, all_reserved}
use Rattle.vx_plan.specs.GroupNode.{images, compressed_node}
use Rattle.vx_plan.specs.DictNode.{is_dictionary, run_plan, run_plans, made_counts, runs_node, dict_node}
use Rattle.vx_plan.proofs.PlanLists.{nil_both}
use Rattle.vx_generator_laws.proofs.Sums.{total_most, total_same, total_times}
use Rattle.vx_generator_laws.proofs.RunSums.{in_all, in_runs, Shut, AllShut, runs_shut, closed_count, runs_cost}
use Rattle.vx_generator_laws.proofs.BlockStreams.{AllPlain}
use Rattle.vx_generator_laws.proofs.Tame.{AtMost, most_append, most_up, Tame, tame_up, AllTame, tame_none, tame_more, all_up, bytes_in, bulk, most_totals, pieces_few}
use Rattle.vx_generator_laws.proofs.SegmentPlans.{flat_tame, segments_node, segments_tame}

-- a chunk, its rows and the row sizes
abbrev pub mass : Ty → ChunkData → ℕ
mass t p = 1 + total_by (λ c. 1 + cell_size t c) (cells p)

-- at most so many pairs come of a chunk
abbrev pub slots : ChunkData → ℕ
slots p = 2 + 2 * length (cells p)

abbrev pub one : ChunkData → ℕ
one p = 1

-- ---- what is known of segments

pub record Ample (s : Setting) (o : FlatOptions) : Type 0 where
  -- all encodings may be used
  pub accepts : (p : ChunkData) → s.codec.refused s.encodings p ≡ None
  -- all aggregates are allowed
  pub allows : s.allowed ≡ None
  -- a plain chunk of integers, texts or bytes takes about the row sizes
  pub plain : (t : Ty) → is_dict_type t ≡ true → (cs : List CellData) → bytes_in (s.codec.encode s.encodings o.padding (plain_piece t cs)) ≤ 44 + total_by (cell_size t) cs
  -- so does its image
  pub image : (which : ℕ) (t : Ty) → is_dict_type t ≡ true → (p : ChunkData) → p ≡ plain_piece t (cells p) → bulk s o (s.image which p) ≤ 100 * mass t p

pub rows_mass : (t : Ty) (p : ChunkData) → length (cells p) ≤ mass t p
rows_mass t p = let h : length (cells p) ≤ total_by (λ c. 1 + cell_size t c) (cells p) = go (cells p) in omega arith
  where
    go : (cs : List CellData) → length cs ≤ total_by (λ c. 1 + cell_size t c) cs
    go [] = omega arith
    go (c ∷ cs) = let r : length cs ≤ total_by (λ c. 1 + cell_size t c) cs = go cs in omega arith

runs_few : (rs : List Run) → AllShut rs → length rs ≤ in_runs one rs
runs_few [] h = omega arith
runs_few (r ∷ rs) h =
    let l : length rs ≤ in_runs one rs = runs_few rs h.1 in
    let v : in_all one r.values ≡ 1 = ap (in_all one) h.0.values.1 in omega arith

ones : (ps : List ChunkData) → total_by one ps ≡ length ps
ones ps = let e : total_by one ps ≡ 1 * length ps = total_same 1 ps in omega arith

module _ (s : Setting) (o : FlatOptions) (ample : Ample s o) (opts : DictOptions) (size : ℕ) (t : Ty) (held_type : is_dict_type t ≡ true) where
  -- ---- the chunks of runs

  code_size : (c : CellData) → cell_size (code_type opts) c ≤ 2
  code_size c = go (nat_le opts.max_len 255)
    where
      go : (b : Bool) → cell_size (primitive (if b then U8 else U16) false) c ≤ 2
      go true = omega arith
      go false = omega arith

  codes_bulk : (codes : List ℕ) → bulk s o (codes_piece opts codes) ≤ 45 + total_by (λ n. 5) codes
  codes_bulk codes =
      let cs : List CellData = map offset_cell codes in
      let a : total_by (cell_size (code_type opts)) cs ≤ total_by (λ c. 2) cs = total_most (cell_size (code_type opts)) (λ c. 2) code_size cs in
      let b : total_by (λ c. 2) cs ≡ 2 * length cs = total_same 2 cs in
      let l : length cs ≡ length codes = length-map codes offset_cell in
      let e : total_by (λ n. 5) codes ≡ 5 * length codes = total_same 5 codes in
      let k : bytes_in (s.codec.encode s.encodings o.padding (codes_piece opts codes)) ≤ 44 + total_by (cell_size (code_type opts)) cs = ample.plain (code_type opts) refl cs in omega arith

  values_bulk : (ds : List CellData) → bulk s o (plain_piece t ds) ≤ 45 + total_by (λ c. 1 + 2 * cell_size t c) ds
  values_bulk ds =
      let e : total_by (λ c. 1 + 2 * cell_size t c) ds ≡ length ds + 2 * total_by (cell_size t) ds = go ds in
      let k : bytes_in (s.codec.encode s.encodings o.padding (plain_piece t ds)) ≤ 44 + total_by (cell_size t) ds = ample.plain t held_type ds in omega arith
    where
      go : (cs : List CellData) → total_by (λ c. 1 + 2 * cell_size t c) cs ≡ length cs + 2 * total_by (cell_size t) cs
      go [] = omega arith
      go (c ∷ cs) = let r : total_by (λ c. 1 + 2 * cell_size t c) cs ≡ length cs + 2 * total_by (cell_size t) cs = go cs in omega arith

  run_bulk : (items : List Item) → in_runs (bulk s o) (runs opts t items true) ≤ 96 * in_all (mass t) items
  run_bulk items =
      let h : in_runs (bulk s o) (runs opts t items true) ≤ in_all (λ p. 2 * 45 + total_by (λ c. 2 * 45 + 5 + (1 + 2 * cell_size t c)) (cells p)) items =
      runs_cost opts t (bulk s o) 45 5 (λ n. 5) (λ c. 1 + 2 * cell_size t c) (λ n. omega arith) codes_bulk values_bulk items in
      let k : in_all (λ p. 2 * 45 + total_by (λ c. 2 * 45 + 5 + (1 + 2 * cell_size t c)) (cells p)) items ≤ in_all (λ p. 96 * mass t p) items =
      total_most _ _ (λ p. let r : total_by (λ c. 2 * 45 + 5 + (1 + 2 * cell_size t c)) (cells p) ≤ 96 * total_by (λ c. 1 + cell_size t c) (cells p) = go (cells p) in omega arith) (chunk_pieces items) in
      let e : in_all (λ p. 96 * mass t p) items ≡ 96 * in_all (mass t) items = total_times 96 (mass t) (chunk_pieces items) in omega arith
    where
      go : (cs : List CellData) → total_by (λ c. 2 * 45 + 5 + (1 + 2 * cell_size t c)) cs ≤ 96 * total_by (λ c. 1 + cell_size t c) cs
      go [] = omega arith
      go (c ∷ cs) = let r : total_by (λ c. 2 * 45 + 5 + (1 + 2 * cell_size t c)) cs ≤ 96 * total_by (λ c. 1 + cell_size t c) cs = go cs in omega arith

  run_count : (items : List Item) → in_runs one (runs opts t items true) ≤ in_all slots items
  run_count items =
      let h : in_runs one (runs opts t items true) ≤ in_all (λ p. 2 * 1 + total_by (λ c. 2 * 1 + 0 + 0) (cells p)) items =
      runs_cost opts t one 1 0 (λ n. 0) (λ c. 0) (λ n. omega arith) (λ codes. omega arith) (λ ds. omega arith) items in
      let k : in_all (λ p. 2 * 1 + total_by (λ c. 2 * 1 + 0 + 0) (cells p)) items ≤ in_all slots items =
      total_most _ _ (λ p. let e : total_by (λ c. 2 * 1 + 0 + 0) (cells p) ≡ 2 * length (cells p) = total_same 2 (cells p) in omega arith) (chunk_pieces items) in omega arith

  -- ---- one run

  abbrev codes_node : Node
  codes_node = segments_node s o ample.accepts size (code_type opts)

  abbrev values_node : Node
  values_node = flat_node s o t

  both_tame : (l : LayoutData (List ℕ)) (m : Bool) (codes : List Item) (i : Item) (e : Eof)
      → Tame 0 (in_all one codes + 1) (2 * (in_all (bulk s o) codes + bulk s o i.1)) (both_plans l [] (codes_node m codes true (inside e)) (values_node m (i ∷ []) true (inside (next e))))
  both_tame l m codes i e =
      let p : Plan = segments_node s o ample.accepts size (code_type opts) m codes true (inside e) in
      let q : Plan = flat_node s o t m (i ∷ []) true (inside (next e)) in
      let g : Tame 0 (length (chunk_pieces codes)) (2 * in_all (bulk s o) codes) p = segments_tame s o ample.accepts size (code_type opts) m codes (inside e) in
      let h : Tame 0 1 (bulk s o i.1) q = flat_tame s o ample.accepts t m i (inside (next e)) in
      let n : ℕ = 2 * (in_all (bulk s o) codes + bulk s o i.1) in
      let a : length p.pairs ≤ length (chunk_pieces codes) = g.pairs in
      let b : length q.pairs ≤ 1 = h.pairs in
      let c : length (p.pairs ++ q.pairs) ≡ length p.pairs + length q.pairs = length-append p.pairs q.pairs in
      let d : in_all one codes ≡ length (chunk_pieces codes) = ones (chunk_pieces codes) in
      let u : p.reserved ≤ 2 * in_all (bulk s o) codes = g.reserved in
      let v : q.reserved ≤ bulk s o i.1 = h.reserved in
      record {
        faultless = nil_both p.faults q.faults g.faultless h.faultless;
        pairs = omega arith;
        numbers = most_append (0 + n) p.numbers q.numbers (most_up (0 + 2 * in_all (bulk s o) codes) (0 + n) p.numbers (omega arith) g.numbers) (most_up (0 + bulk s o i.1) (0 + n) q.numbers (omega arith) h.numbers);
        reserved = omega arith;
      }

  run_tame : (m : Bool) (r : Run) (e : Eof) → Shut r → Tame 0 (in_all one r.codes + in_all one r.values) (2 * (in_all (bulk s o) r.codes + in_all (bulk s o) r.values)) (run_plan t codes_node values_node m r e)
  run_tame m r e h = go _ r.values r.closed h.closed h.values.0 h.values.1
    where
      go : (l : LayoutData (List ℕ)) (values : List Item) (closed : Bool) → closed ≡ true → (i : Item) → values ≡ i ∷ []
          → Tame 0 (in_all one r.codes + in_all one values) (2 * (in_all (bulk s o) r.codes + in_all (bulk s o) values)) (both_plans l [] (codes_node m r.codes closed (inside e)) (values_node m values closed (inside (next e))))
      go l values closed c i v =
          subst (λ b. Tame 0 (in_all one r.codes + in_all one values) (2 * (in_all (bulk s o) r.codes + in_all (bulk s o) values)) (both_plans l [] (codes_node m r.codes b (inside e)) (values_node m values b (inside (next e))))) (sym c)
          (subst (λ vs. Tame 0 (in_all one r.codes + in_all one vs) (2 * (in_all (bulk s o) r.codes + in_all (bulk s o) vs)) (both_plans l [] (codes_node m r.codes true (inside e)) (values_node m vs true (inside (next e))))) (sym v)
          (tame_up 0 (in_all one r.codes + 1) (2 * (in_all (bulk s o) r.codes + bulk s o i.1)) (in_all one r.codes + (1 + 0)) (2 * (in_all (bulk s o) r.codes + (bulk s o i.1 + 0))) _ (omega arith) (omega arith) (both_tame l m r.codes i e)))

  runs_tame : (m : Bool) (rs : List Run) (e : Eof) → AllShut rs → AllTame (in_runs one rs) (2 * in_runs (bulk s o) rs) (run_plans t codes_node values_node m rs e)
  runs_tame m [] e h = tame_none
  runs_tame m (r ∷ rs) e h =
      all_up (in_all one r.codes + in_all one r.values + in_runs one rs) (2 * (in_all (bulk s o) r.codes + in_all (bulk s o) r.values) + 2 * in_runs (bulk s o) rs)
      (in_all one r.codes + in_all one r.values + in_runs one rs) (2 * (in_all (bulk s o) r.codes + in_all (bulk s o) r.values + in_runs (bulk s o) rs)) _ (omega arith) (omega arith)
      (tame_more _ _ _ _ (run_plan t codes_node values_node m r e) (run_plans t codes_node values_node m rs (next (next e))) (run_tame m r e h.0) (runs_tame m rs (next (next e)) h.1))

  -- ---- all runs

  made_most : (n : ℕ) (ds : List CellData) (items : List Item) → 4 * in_all (mass t) items ≤ n → AtMost n (made_counts opts t ds items true)
  made_most n ds [] h = tt
  made_most n ds (c ∷ []) h =
      let a : length (cut_at opts t ds c).closed ≤ length (cells c.1) = closed_count opts t ds [] (cells c.1) in
      let b : length (cells c.1) ≤ mass t c.1 = rows_mass t c.1 in
      (omega arith, tt)
  made_most n ds (c ∷ d ∷ cs) h =
      let a : length (cut_at opts t ds c).closed ≤ length (cells c.1) = closed_count opts t ds [] (cells c.1) in
      let b : length (cells c.1) ≤ mass t c.1 = rows_mass t c.1 in
      (omega arith, made_most n (cut_at opts t ds c).distinct (d ∷ cs) (omega arith))

  slots_mass : (items : List Item) → in_all slots items ≤ 4 * in_all (mass t) items
  slots_mass items =
      let a : in_all slots items ≤ in_all (λ p. 4 * mass t p) items = total_most slots (λ p. 4 * mass t p) (λ p. let b : length (cells p) ≤ mass t p = rows_mass t p in omega arith) (chunk_pieces items) in
      let e : in_all (λ p. 4 * mass t p) items ≡ 4 * in_all (mass t) items = total_times 4 (mass t) (chunk_pieces items) in omega arith

  by_runs_tame : (m : Bool) (items : List Item) (e : Eof) → Tame e.last (in_all slots items) (200 * in_all (mass t) items) (runs_node opts t codes_node values_node m items true e)
  by_runs_tame m items e =
      let rs : List Run = runs opts t items true in
      let ps : List Plan = run_plans t codes_node values_node m rs e in
      let shut : AllShut rs = runs_shut opts t items in
      let h : AllTame (in_runs one rs) (2 * in_runs (bulk s o) rs) ps = runs_tame m rs e shut in
      let n : ℕ = e.last + 200 * in_all (mass t) items in
      let own : List ℕ = (e.last + 2 * length rs) ∷ made_counts opts t [] items true in
      let a : in_runs one rs ≤ in_all slots items = run_count items in
      let b : in_runs (bulk s o) rs ≤ 96 * in_all (mass t) items = run_bulk items in
      let c : length rs ≤ in_runs one rs = runs_few rs shut in
      let d : in_all slots items ≤ 4 * in_all (mass t) items = slots_mass items in
      let f : length (all_pairs ps) ≤ in_runs one rs = h.pairs in
      let g : all_reserved ps ≤ 2 * in_runs (bulk s o) rs = h.reserved in
      let r : in_all (λ p. length (cells p)) items ≤ in_all (mass t) items = total_most (λ p. length (cells p)) (mass t) (rows_mass t) (chunk_pieces items) in
      record {
        faultless = h.faultless;
        pairs = omega arith;
        numbers = most_append n (row_totals items ++ own) (all_numbers ps)
            (most_append n (row_totals items) own (most_totals (λ p. length (cells p)) 0 n items (omega arith)) (omega arith, made_most n [] items (omega arith)))
            (most_up (2 * in_runs (bulk s o) rs) n (all_numbers ps) (omega arith) h.numbers);
        reserved = omega arith;
      }

  -- ---- images

  image_pieces : (which : ℕ) (items : List Item) → chunk_pieces (images s which items) ≡ map (s.image which) (chunk_pieces items)
  image_pieces which [] = refl
  image_pieces which (c ∷ cs) = ap (λ z. s.image which c.1 ∷ z) (image_pieces which cs)

  image_bulk : (which : ℕ) (ps : List ChunkData) → AllPlain t ps → total_by (bulk s o) (map (s.image which) ps) ≤ 100 * total_by (mass t) ps
  image_bulk which [] h = omega arith
  image_bulk which (p ∷ ps) h =
      let a : bulk s o (s.image which p) ≤ 100 * mass t p = ample.image which t held_type p h.0 in
      let r : total_by (bulk s o) (map (s.image which) ps) ≤ 100 * total_by (mass t) ps = image_bulk which ps h.1 in omega arith

  pieces_slots : (ps : List ChunkData) → length ps ≤ total_by slots ps
  pieces_slots ps = pieces_few slots (λ p. omega arith) ps

  compressed_tame : (which room : ℕ) (m : Bool) (items : List Item) (e : Eof) → AllPlain t (chunk_pieces items)
      → Tame e.last (in_all slots items) (200 * in_all (mass t) items) (compressed_node s which room t (segments_node s o ample.accepts size t) m items true e)
  compressed_tame which room m items e h =
      let x : List Item = images s which items in
      let k : Tame e.last (length (chunk_pieces x)) (2 * in_all (bulk s o) x) (segments_node s o ample.accepts size t m x true e) = segments_tame s o ample.accepts size t m x e in
      let l : length (chunk_pieces x) ≡ length (chunk_pieces items) = ap length (image_pieces which items) ∙ length-map (chunk_pieces items) (s.image which) in
      let b : in_all (bulk s o) x ≡ total_by (bulk s o) (map (s.image which) (chunk_pieces items)) = ap (total_by (bulk s o)) (image_pieces which items) in
      let c : total_by (bulk s o) (map (s.image which) (chunk_pieces items)) ≤ 100 * in_all (mass t) items = image_bulk which (chunk_pieces items) h in
      let d : length (chunk_pieces items) ≤ in_all slots items = pieces_slots (chunk_pieces items) in
      tame_up e.last _ _ _ _ _ (omega arith) (omega arith) k

  -- ---- either

  abbrev pub blocks_node : ℕ → ℕ → Node
  blocks_node which room = dict_node s opts t (segments_node s o ample.accepts size (code_type opts)) (flat_node s o t) (compressed_node s which room t (segments_node s o ample.accepts size t))

  pub coded_tame : (which room : ℕ) (m : Bool) (items : List Item) (e : Eof) → AllPlain t (chunk_pieces items)
      → Tame e.last (in_all slots items) (200 * in_all (mass t) items) (blocks_node which room m items true e)
  coded_tame which room m [] e h = compressed_tame which room m [] e h
  coded_tame which room m (i ∷ is) e h = go (is_dictionary (s.image opts.probe i.1)) (by_runs_tame m (i ∷ is) e) (compressed_tame which room m (i ∷ is) e h)
    where
      go : (b : Bool)
          → Tame e.last (in_all slots (i ∷ is)) (200 * in_all (mass t) (i ∷ is)) (runs_node opts t (segments_node s o ample.accepts size (code_type opts)) (flat_node s o t) m (i ∷ is) true e)
          → Tame e.last (in_all slots (i ∷ is)) (200 * in_all (mass t) (i ∷ is)) (compressed_node s which room t (segments_node s o ample.accepts size t) m (i ∷ is) true e)
          → Tame e.last (in_all slots (i ∷ is)) (200 * in_all (mass t) (i ∷ is))
          (if b then runs_node opts t (segments_node s o ample.accepts size (code_type opts)) (flat_node s o t) m (i ∷ is) true e else compressed_node s which room t (segments_node s o ample.accepts size t) m (i ∷ is) true e)
      go true x y = x
      go false x y = y
