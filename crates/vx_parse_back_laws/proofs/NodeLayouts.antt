-- The layouts of flat, chunked, regrouping, compressing, dictionary and zoned nodes.
use Rattle.std.proofs.Common.{◌≡◌, ℕ, ◌+◌, ◌<◌, ◌^◌, Bool, true, false, List, [], ◌∷◌, ◌++◌, length, map, Option, Some, None, refl, sym, ap, ◌∙◌, subst, arith, length-append}
use Rattle.std.specs.Prelude.{if◌then◌else◌, nat_le}
use Rattle.std.proofs.lemmas.List.{length-map}
use Rattle.std.proofs.lemmas.Bool.{true≢false}
use Rattle.vx_model.specs.declared.ptype.PType.TheVariants.{U8, U16}
use Rattle.vx_model.specs.Ty.{Ty}
use Rattle.vx_model.specs.CellData.{CellData}
use Rattle.vx_model.specs.ChunkData.{cells, is_dict_type}
use Rattle.vx_path.specs.Path.{Eof, inside, next}
use Rattle.vx_layout_spec.specs.LayoutTree.{layout_type, dict_layout, renamed}
use Rattle.vx_zone_spec.specs.ZoneTable.{Filled, table_type, kept_columns}
use Rattle.vx_aggregate_spec.specs.Tables.{stats_table}
use Rattle.vx_session.specs.Scope.{Scope}
use Rattle.vx_rules.specs.Stream.{Chunks, stream_cells}
use Rattle.vx_rules.specs.Columns.{offset_cell}
use Rattle.vx_rules.specs.Runs.{DictOptions, Run, runs, code_type}
use Rattle.vx_rules.proofs.RunLaws.{decodes_length}
use Rattle.vx_rules.proofs.RunStreams.{Ended, AllEnded, runs_end}
use Rattle.vx_plan.specs.PlanData.{Setting, Item, Plan, Node, Fault, row_total}
use Rattle.vx_strategy_spec.specs.StrategyData.{FlatOptions, ZonedOptions, Grouping}
use Rattle.vx_strategy_spec.specs.Admitted.{is_admitted_zoned}
use Rattle.vx_plan.specs.Valid.{Fit, Keeps}
use Rattle.vx_plan.specs.FlatNode.{flat_node, refused_at}
use Rattle.vx_plan.specs.ChunkedNode.{chunked_node, chunked_numbers, chunk_plans, all_faults, all_layouts, all_numbers}
use Rattle.vx_plan.specs.GroupNode.{grouped_stream, group_numbers, grouped_node, images, compressed_node}
use Rattle.vx_plan.specs.DictNode.{is_dictionary, run_plan, run_plans, dict_numbers, runs_node, dict_node}
use Rattle.vx_plan.specs.ZonedNode.{recorded, forbidden_faults, zone_faults, zone_records, table_items, data_numbers, with_table, table_of, zoned_node}
use Rattle.vx_plan.proofs.PlanLists.{ItemsOf, nil_left, nil_right, fit_left, fit_right, fit_cells, row_total_cells}
use Rattle.vx_plan.proofs.FlatLaws.{cons_nil}
use Rattle.vx_plan.proofs.ZonedLaws.{whole_table, zone_fits}
use Rattle.vx_parse_back_laws.proofs.Layouts.{Written, has_type, has_rows, Parts, gathered_written, dict_written}
use Rattle.vx_parse_back_laws.proofs.Streams.{kept_of, grouped_count, images_of, images_count, rows_of_cells}
use Rattle.vx_zone_table_laws.proofs.TableTypes.{AreColumns, table_aggregates, type_is}
use Rattle.vx_parse_back_laws.proofs.TableSpecs.{are_columns, specs_named, specs_read, metadata_fits}

-- in a scope, with the segments numbered so
module _ (s : Scope) (f : List ℕ → ℕ) (st : Setting) where
  -- What is said of a node at a type: where its stream has ended without a fault, its layout is sound.
  pub record Writes (t : Ty) (k : Node) : Type 0 where
    pub written : (m : Bool) (items : List Item) (e : Eof) → ItemsOf t items → (k m items true e).faults ≡ [] → Fit (k m items true e).numbers → Written s f t (row_total items) (k m items true e).layout

  -- ---- flat

  pub flat_writes : (o : FlatOptions) (t : Ty) → Writes t (flat_node st o t)
  flat_writes o t = record { written = go }
    where
      go : (m : Bool) (items : List Item) (e : Eof) → ItemsOf t items → (flat_node st o t m items true e).faults ≡ [] → Fit (flat_node st o t m items true e).numbers
          → Written s f t (row_total items) (flat_node st o t m items true e).layout
      go m [] e of clean fit = gathered_written s f t 0 [] refl
      go m (i ∷ []) e of clean fit = record {
        typed = refl;
        rows = let h : length (cells i.1) ≡ length (cells i.1) + 0 = omega arith in h;
        sound = λ knows. (record { known = knows.0.0; listed = knows.0.1; segment = f i.0; one = refl; alone = refl }, tt);
      }
      go m (i ∷ j ∷ is) e of clean fit = let g = nil_right (refused_at i.0 (st.codec.refused st.encodings i.1)) _ clean in absurd (cons_nil g)

  -- ---- chunks alone

  chunks_written : (t : Ty) (k : Node) → Writes t k → (m : Bool) (items : List Item) (e : Eof) → ItemsOf t items → all_faults (chunk_plans k m items e) ≡ [] → Fit (all_numbers (chunk_plans k m items e))
      → Parts s f t (row_total items) (all_layouts (chunk_plans k m items e))
  chunks_written t k w m [] e of clean fit = refl
  chunks_written t k w m (i ∷ is) e of clean fit =
      let p : Plan = k m (i ∷ []) true (inside e) in
      let ps : List Plan = chunk_plans k m is (next e) in (
        row_total (i ∷ []),
        row_total is,
        (let h : length (cells i.1) + row_total is ≡ (length (cells i.1) + 0) + row_total is = omega arith in h),
        w.written m (i ∷ []) (inside e) (of.0, tt) (nil_left p.faults (all_faults ps) clean) (fit_left p.numbers (all_numbers ps) fit),
        chunks_written t k w m is (next e) of.1 (nil_right p.faults (all_faults ps) clean) (fit_right p.numbers (all_numbers ps) fit),
      )

  pub chunked_writes : (t : Ty) (k : Node) → Writes t k → Writes t (chunked_node t k)
  chunked_writes t k w = record {
    written = λ m items e of clean fit.
        gathered_written s f t (row_total items) (all_layouts (chunk_plans k m items e)) (chunks_written t k w m items e of clean (fit_right (chunked_numbers items e) (all_numbers (chunk_plans k m items e)) fit));
  }

  -- ---- other streams

  pub grouped_writes : (g : Grouping) (t : Ty) (k : Node) → Writes t k → Writes t (grouped_node g t k)
  grouped_writes g t k w = record {
    written = λ m items e of clean fit.
        subst (λ n. Written s f t n (k m (grouped_stream g t items true) true e).layout) (grouped_count g t items)
        (w.written m (grouped_stream g t items true) e (kept_of g t items of (fit_cells items (group_numbers g t items true) (k m (grouped_stream g t items true) true e).numbers fit).0) clean
        (fit_cells items (group_numbers g t items true) (k m (grouped_stream g t items true) true e).numbers fit).1);
  }

  pub compressed_writes : Keeps st → (which room : ℕ) (t : Ty) (k : Node) → Writes t k → Writes t (compressed_node st which room t k)
  compressed_writes keeps which room t k w = record {
    written = λ m items e of clean fit.
        subst (λ n. Written s f t n (k m (images st which items) true e).layout) (images_count st keeps which t items of)
        (w.written m (images st which items) e (images_of st keeps which t items of) clean fit);
  }

  -- ---- runs, which have all ended

  -- a run's layout has as many rows as it has codes
  run_written : (o : DictOptions) (t : Ty) (ck vk : Node) → Writes (code_type o) ck → Writes t vk → (m : Bool) (codes values : List Item) (closed : Bool) (e : Eof) → closed ≡ true
      → Chunks (code_type o) codes → Chunks t values → (ck m codes closed (inside e)).faults ++ (vk m values closed (inside (next e))).faults ≡ []
      → Fit ((ck m codes closed (inside e)).numbers ++ (vk m values closed (inside (next e))).numbers)
      → Written s f t (row_total codes) (dict_layout t (row_total codes) (vk m values closed (inside (next e))).layout (ck m codes closed (inside e)).layout)
  run_written o t ck vk wc wv m codes values false e c oc ov clean fit = absurd (true≢false (sym c))
  run_written o t ck vk wc wv m codes values true e c oc ov clean fit =
      let p : Plan = ck m codes true (inside e) in
      let q : Plan = vk m values true (inside (next e)) in
      dict_written s f t (row_total codes) (row_total values) (if nat_le o.max_len 255 then U8 else U16) false q.layout p.layout
      (wv.written m values (inside (next e)) ov (nil_right p.faults q.faults clean) (fit_right p.numbers q.numbers fit))
      (wc.written m codes (inside e) oc (nil_left p.faults q.faults clean) (fit_left p.numbers q.numbers fit))

  run_count : (o : DictOptions) (t : Ty) (r : Run) (part : List CellData) → Ended o t r part → row_total r.codes ≡ length part
  run_count o t r part h = rows_of_cells r.codes (map offset_cell h.codes) h.codes_cells ∙ length-map h.codes offset_cell ∙ decodes_length h.distinct h.codes part h.decodes

  runs_written : (o : DictOptions) (t : Ty) (ck vk : Node) → Writes (code_type o) ck → Writes t vk → (m : Bool) (rs : List Run) (e : Eof) (cs : List CellData) → AllEnded o t rs cs
      → all_faults (run_plans t ck vk m rs e) ≡ [] → Fit (all_numbers (run_plans t ck vk m rs e)) → Parts s f t (length cs) (all_layouts (run_plans t ck vk m rs e))
  runs_written o t ck vk wc wv m [] e cs h clean fit = ap length h
  runs_written o t ck vk wc wv m (r ∷ rs) e cs h clean fit =
      let p : Plan = run_plan t ck vk m r e in
      let ps : List Plan = run_plans t ck vk m rs (next (next e)) in
      let w : Ended o t r h.0 = h.3 in (
        length h.0,
        length h.1,
        ap length h.2 ∙ length-append h.0 h.1,
        subst (λ n. Written s f t n p.layout) (run_count o t r h.0 w)
            (run_written o t ck vk wc wv m r.codes r.values r.closed e w.closed w.codes_of w.values_of (nil_left p.faults (all_faults ps) clean) (fit_left p.numbers (all_numbers ps) fit)),
        runs_written o t ck vk wc wv m rs (next (next e)) h.1 h.4 (nil_right p.faults (all_faults ps) clean) (fit_right p.numbers (all_numbers ps) fit),
      )

  pub dict_writes : (o : DictOptions) (t : Ty) → is_dict_type t ≡ true → (ck vk k : Node) → Writes (code_type o) ck → Writes t vk → Writes t k → Writes t (dict_node st o t ck vk k)
  dict_writes o t d ck vk k wc wv w = record { written = go }
    where
      by_runs : (m : Bool) (i : Item) (is : List Item) (e : Eof) → ItemsOf t (i ∷ is) → (runs_node o t ck vk m (i ∷ is) true e).faults ≡ [] → Fit (runs_node o t ck vk m (i ∷ is) true e).numbers
          → Written s f t (row_total (i ∷ is)) (runs_node o t ck vk m (i ∷ is) true e).layout
      by_runs m i is e of clean fit =
          let rs : List Run = runs o t (i ∷ is) true in
          gathered_written s f t (row_total (i ∷ is)) (all_layouts (run_plans t ck vk m rs e))
          (subst (λ n. Parts s f t n (all_layouts (run_plans t ck vk m rs e))) (sym (row_total_cells (i ∷ is)))
          (runs_written o t ck vk wc wv m rs e (stream_cells (i ∷ is)) (runs_end o t d i is of) clean (fit_right (dict_numbers o t (i ∷ is) true e) (all_numbers (run_plans t ck vk m rs e)) fit)))

      either : (b : Bool) (m : Bool) (i : Item) (is : List Item) (e : Eof) → ItemsOf t (i ∷ is) → (if b then runs_node o t ck vk m (i ∷ is) true e else k m (i ∷ is) true e).faults ≡ []
          → Fit (if b then runs_node o t ck vk m (i ∷ is) true e else k m (i ∷ is) true e).numbers
          → Written s f t (row_total (i ∷ is)) (if b then runs_node o t ck vk m (i ∷ is) true e else k m (i ∷ is) true e).layout
      either true m i is e of clean fit = by_runs m i is e of clean fit
      either false m i is e of clean fit = w.written m (i ∷ is) e of clean fit

      go : (m : Bool) (items : List Item) (e : Eof) → ItemsOf t items → (dict_node st o t ck vk k m items true e).faults ≡ [] → Fit (dict_node st o t ck vk k m items true e).numbers
          → Written s f t (row_total items) (dict_node st o t ck vk k m items true e).layout
      go m [] e of clean fit = w.written m [] e of clean fit
      go m (i ∷ is) e of clean fit = either (is_dictionary (st.image o.probe i.1)) m i is e of clean fit

  -- ---- zones

  table_written : (o : ZonedOptions) → is_admitted_zoned o ≡ true → (t : Ty) (stats : Ty → Node) → ((u : Ty) → Writes u (stats u)) → (items : List Item) (e : Eof) (p : Plan) (cs : Option (List Filled)) → ItemsOf t items
      → kept_columns (recorded o t) (zone_records st t (recorded o t) items) ≡ cs
      → (p.faults ≡ [] → Fit p.numbers → Written s f t (row_total items) p.layout)
      → (with_table st o t stats false items e p cs).faults ≡ [] → Fit (with_table st o t stats false items e p cs).numbers
      → Written s f t (row_total items) (with_table st o t stats false items e p cs).layout
  table_written o ok t stats ws items e p None of kept w clean fit = w clean (fit_right (data_numbers items e) p.numbers fit)
  table_written o ok t stats ws items e p (Some cs) of kept w clean fit =
      let q : Plan = stats (table_type cs) false (table_items cs (length items) e) true (next (next e)) in
      let are : AreColumns t cs = are_columns o t (zone_records st t (recorded o t) items) cs ok kept in
      let fits : (length items < 2 ^ 64) × Fit (p.numbers ++ q.numbers) = zone_fits items e (p.numbers ++ q.numbers) fit in
      let column : Written s f t (row_total items) p.layout = w (nil_left p.faults q.faults clean) (fit_left p.numbers q.numbers fits.1) in
      let zones : Written s f (table_type cs) (row_total (table_items cs (length items) e)) q.layout =
      (ws (table_type cs)).written false (table_items cs (length items) e) (next (next e)) (whole_table st o t items cs of fits.0 kept ok, tt) (nil_right p.faults q.faults clean) (fit_right p.numbers q.numbers fits.1) in
      let one : layout_type (renamed f p.layout) ≡ t = has_type s f t (row_total items) p.layout column in
      let two : layout_type (renamed f q.layout) ≡ stats_table t (table_aggregates cs) = has_type s f (table_type cs) (row_total (table_items cs (length items) e)) q.layout zones ∙ type_is t cs are in
      record {
        typed = refl;
        rows = refl;
        sound = λ knows. (
          record {
            known = knows.0.0;
            fits = metadata_fits o cs ok knows.0.1;
            aggregates = table_aggregates cs;
            read = specs_read s t cs knows.0.2 are;
            named = specs_named cs;
            column = renamed f p.layout;
            zones = renamed f q.layout;
            are = refl;
            types = cc;
            rows = has_rows s f t (row_total items) p.layout column;
          },
          (column.sound knows.1.0, (zones.sound knows.1.1.0, tt)),
        );
      }

  pub zoned_writes : (o : ZonedOptions) → is_admitted_zoned o ≡ true → (t : Ty) (k : Node) (stats : Ty → Node) → Writes t k → ((u : Ty) → Writes u (stats u)) → Writes t (zoned_node st o t k stats)
  zoned_writes o ok t k stats w ws = record { written = go }
    where
      go : (m : Bool) (items : List Item) (e : Eof) → ItemsOf t items → (zoned_node st o t k stats m items true e).faults ≡ [] → Fit (zoned_node st o t k stats m items true e).numbers
          → Written s f t (row_total items) (zoned_node st o t k stats m items true e).layout
      go true items e of clean fit = w.written true items e of clean fit
      go false items e of clean fit =
          let own : List Fault = forbidden_faults st.allowed (recorded o t) ++ zone_faults o.zone_len (recorded o t) items in
          let p : Plan = with_table st o t stats false items e (k false items true (inside e)) (table_of st o t items true) in
          table_written o ok t stats ws items e (k false items true (inside e)) (table_of st o t items true) of refl
          (λ c g. w.written false items (inside e) of c g) (nil_right own p.faults clean) fit
