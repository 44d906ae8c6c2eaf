-- What is written has nodes of six kinds alone, and each zoned one has two children.
use Rattle.std.proofs.Common.{ℕ, suc, ◌||◌, Bool, true, false, List, [], ◌∷◌, length, Option, Some, None, sym}
use Rattle.std.proofs.lemmas.Bool.{true≢false}
use Rattle.std.specs.Prelude.{if◌then◌else◌}
use Rattle.vx_model.specs.Ty.{Ty, Tys, no_fields, field}
use Rattle.vx_model.specs.ChunkData.{ChunkData}
use Rattle.vx_path.specs.Path.{Eof, inside, next, root_eof}
use Rattle.vx_layout_spec.specs.LayoutTree.{Kind, flat_kind, chunked_kind, struct_kind, list_kind, dict_kind, zoned_kind, LayoutData, LayoutList, layout, no_layouts, child, lays_of, gathered, renamed, each_renamed}
use Rattle.vx_rules.specs.Columns.{Split, column, other_columns, struct_splits, list_splits}
use Rattle.vx_rules.specs.Runs.{DictOptions, Run, runs}
use Rattle.vx_zone_spec.specs.ZoneTable.{Filled, table_type}
use Rattle.vx_strategy_spec.specs.StrategyData.{StrategyData, FlatOptions, ZonedOptions, Grouping}
use Rattle.vx_plan.specs.PlanData.{Setting, Item, Node, row_total}
use Rattle.vx_plan.specs.FlatNode.{flat_node}
use Rattle.vx_plan.specs.ChunkedNode.{chunked_node, chunk_plans, all_layouts}
use Rattle.vx_plan.specs.GroupNode.{grouped_stream, grouped_node, images, compressed_node}
use Rattle.vx_plan.specs.DictNode.{is_dictionary, run_plans, runs_node, dict_node}
use Rattle.vx_plan.specs.ZonedNode.{table_items, with_table, table_of, zoned_node}
use Rattle.vx_plan.specs.ColumnNodes.{Column, marked, column_plans, struct_writers, list_writers, not_struct_node, struct_node, list_node}
use Rattle.vx_plan.specs.SourcePlan.{plan, batch_items, source_plan}
use Rattle.vx_plan.specs.Number.{number_of, numbered}
use Rattle.vx_plan.proofs.Relate.{Fields, induct}

-- a node of such a kind
abbrev pub OfWrite : Kind → LayoutList ℕ → Type 0
OfWrite (flat_kind encodings tree) ls = Unit {0}
OfWrite chunked_kind ls = Unit {0}
OfWrite struct_kind ls = Unit {0}
OfWrite list_kind ls = Unit {0}
OfWrite (dict_kind all) ls = Unit {0}
OfWrite (zoned_kind n specs) (child data_child (child zones no_layouts)) = Unit {0}
OfWrite k ls = ⊥

abbrev mutual
  pub Shaped : LayoutData ℕ → Type 0
  Shaped (layout k t n names ls) = OfWrite k ls × AllShaped ls

  pub AllShaped : LayoutList ℕ → Type 0
  AllShaped no_layouts = Unit {0}
  AllShaped (child l ls) = Shaped l × AllShaped ls

-- with the segments numbered so
module _ (s : Setting) (f : List ℕ → ℕ) where
  abbrev Numbered : LayoutData (List ℕ) → Type 0
  Numbered l = Shaped (renamed f l)

  abbrev AllNumbered : List (LayoutData (List ℕ)) → Type 0
  AllNumbered ls = AllShaped (each_renamed f (lays_of ls))

  -- What is said of a node: whatever its stream, its layout has the shape.
  record IsShaped (n : Node) : Type 0 where
    pub shaped : (m : Bool) (items : List Item) (ended : Bool) (e : Eof) → Numbered (n m items ended e).layout

  gathered_shaped : (t : Ty) (n : ℕ) (ls : List (LayoutData (List ℕ))) → AllNumbered ls → Numbered (gathered t n ls)
  gathered_shaped t n [] h = (tt, h)
  gathered_shaped t n (l ∷ []) h = h.0
  gathered_shaped t n (l ∷ k ∷ ls) h = (tt, h)

  flat_shaped : (o : FlatOptions) (t : Ty) → IsShaped (flat_node s o t)
  flat_shaped o t = record { shaped = go }
    where
      go : (m : Bool) (items : List Item) (ended : Bool) (e : Eof) → Numbered (flat_node s o t m items ended e).layout
      go m [] ended e = (tt, tt)
      go m (i ∷ []) ended e = (tt, tt)
      go m (i ∷ j ∷ is) ended e = (tt, tt)

  chunks_shaped : (n : Node) → IsShaped n → (m : Bool) (items : List Item) (e : Eof) → AllNumbered (all_layouts (chunk_plans n m items e))
  chunks_shaped n h m [] e = tt
  chunks_shaped n h m (i ∷ is) e = (h.shaped m (i ∷ []) true (inside e), chunks_shaped n h m is (next e))

  chunked_shaped : (t : Ty) (n : Node) → IsShaped n → IsShaped (chunked_node t n)
  chunked_shaped t n h = record { shaped = λ m items ended e. gathered_shaped t (row_total items) (all_layouts (chunk_plans n m items e)) (chunks_shaped n h m items e) }

  grouped_shaped : (g : Grouping) (t : Ty) (n : Node) → IsShaped n → IsShaped (grouped_node g t n)
  grouped_shaped g t n h = record { shaped = λ m items ended e. h.shaped m (grouped_stream g t items ended) ended e }

  compressed_shaped : (which room : ℕ) (t : Ty) (n : Node) → IsShaped n → IsShaped (compressed_node s which room t n)
  compressed_shaped which room t n h = record { shaped = λ m items ended e. h.shaped m (images s which items) ended e }

  -- ---- dictionaries

  runs_shaped : (t : Ty) (cn vn : Node) → IsShaped cn → IsShaped vn → (m : Bool) (rs : List Run) (e : Eof) → AllNumbered (all_layouts (run_plans t cn vn m rs e))
  runs_shaped t cn vn hc hv m [] e = tt
  runs_shaped t cn vn hc hv m (r ∷ rs) e =
      ((tt, (hv.shaped m r.values r.closed (inside (next e)), (hc.shaped m r.codes r.closed (inside e), tt))), runs_shaped t cn vn hc hv m rs (next (next e)))

  dict_shaped : (o : DictOptions) (t : Ty) (cn vn fn : Node) → IsShaped cn → IsShaped vn → IsShaped fn → IsShaped (dict_node s o t cn vn fn)
  dict_shaped o t cn vn fn hc hv hf = record { shaped = go }
    where
      by_image : (b : Bool) (m : Bool) (items : List Item) (ended : Bool) (e : Eof) → Numbered (if b then runs_node o t cn vn m items ended e else fn m items ended e).layout
      by_image true m items ended e = gathered_shaped t (row_total items) (all_layouts (run_plans t cn vn m (runs o t items ended) e)) (runs_shaped t cn vn hc hv m (runs o t items ended) e)
      by_image false m items ended e = hf.shaped m items ended e

      go : (m : Bool) (items : List Item) (ended : Bool) (e : Eof) → Numbered (dict_node s o t cn vn fn m items ended e).layout
      go m [] true e = hf.shaped m [] true e
      go m [] false e = (tt, tt)
      go m (i ∷ is) ended e = by_image (is_dictionary (s.image o.probe i.1)) m (i ∷ is) ended e

  -- ---- zones

  zoned_shaped : (o : ZonedOptions) (t : Ty) (n : Node) (stats : Ty → Node) → IsShaped n → ((u : Ty) → IsShaped (stats u)) → IsShaped (zoned_node s o t n stats)
  zoned_shaped o t n stats h hs = record { shaped = go }
    where
      by_table : (items : List Item) (ended : Bool) (e : Eof) (cs : Option (List Filled)) → Numbered (with_table s o t stats false items e (n false items ended (inside e)) cs).layout
      by_table items ended e None = h.shaped false items ended (inside e)
      by_table items ended e (Some cs) = (tt, (h.shaped false items ended (inside e), ((hs (table_type cs)).shaped false (table_items cs (length items) e) true (next (next e)), tt)))

      go : (m : Bool) (items : List Item) (ended : Bool) (e : Eof) → Numbered (zoned_node s o t n stats m items ended e).layout
      go true items ended e = h.shaped true items ended e
      go false items ended e = by_table items ended e (table_of s o t items ended)

  -- ---- columns

  abbrev ColumnsShaped : List Column → Type 0
  ColumnsShaped [] = Unit {0}
  ColumnsShaped (k ∷ ks) = ((items : List Item) (ended : Bool) (e : Eof) → Numbered (k items ended e).layout) × ColumnsShaped ks

  columns_shaped : (ks : List Column) → ColumnsShaped ks → (c : ℕ) (xs : List Split) (ended : Bool) (e : Eof) → AllNumbered (all_layouts (column_plans ks c xs ended e))
  columns_shaped [] h c xs ended e = tt
  columns_shaped (k ∷ ks) h c xs ended e = (h.0 (column c xs) ended (inside e), columns_shaped ks h.1 (suc c) (other_columns xs) ended (next e))

  fields_shaped : (fs : Tys) (ks : List Node) → Fields (λ t n. IsShaped n) fs ks → (m : Bool) → ColumnsShaped (marked m ks)
  fields_shaped no_fields [] h m = tt
  fields_shaped no_fields (k ∷ ks) h m = absurd h
  fields_shaped (field name t fs) [] h m = absurd h
  fields_shaped (field name t fs) (k ∷ ks) h m = (λ items ended e. h.0.shaped m items ended e, fields_shaped fs ks h.1 m)

  writers_shaped : (fs : Tys) (n : Bool) (v : Node) (ks : List Node) → IsShaped v → Fields (λ t n. IsShaped n) fs ks → (m : Bool) → ColumnsShaped (struct_writers n m v ks)
  writers_shaped fs true v ks hv hs m = (λ items ended e. hv.shaped m items ended e, fields_shaped fs ks hs (m || true))
  writers_shaped fs false v ks hv hs m = fields_shaped fs ks hs (m || false)

  not_struct_shaped : (t : Ty) → IsShaped (not_struct_node t)
  not_struct_shaped t = record { shaped = λ m items ended e. (tt, tt) }

  struct_shaped : (fs : Tys) (n : Bool) (dup : Option (List ℕ)) (v : Node) (ks : List Node) → IsShaped v → Fields (λ t n. IsShaped n) fs ks → IsShaped (struct_node fs n dup v ks)
  struct_shaped fs n dup v ks hv hs = record { shaped = go dup }
    where
      go : (dup : Option (List ℕ)) (m : Bool) (items : List Item) (ended : Bool) (e : Eof) → Numbered (struct_node fs n dup v ks m items ended e).layout
      go (Some name) m items ended e = (tt, tt)
      go None m items ended e = (tt, columns_shaped (struct_writers n m v ks) (writers_shaped fs n v ks hv hs m) 0 (struct_splits fs n items) ended e)

  list_shaped : (t : Ty) (n : Bool) (es os v : Node) → IsShaped es → IsShaped os → IsShaped v → IsShaped (list_node t n es os v)
  list_shaped t n es os v he ho hv = record { shaped = go }
    where
      validity : (n m : Bool) → ColumnsShaped (if n then v m ∷ [] else [])
      validity true m = (λ items ended e. hv.shaped m items ended e, tt)
      validity false m = tt

      parts : (m : Bool) (items : List Item) (ended : Bool) (e : Eof) → AllNumbered (all_layouts (column_plans (list_writers n m es os v) 0 (list_splits t n true 0 items) ended e))
      parts m items ended e =
          columns_shaped (list_writers n m es os v) (λ is b d. he.shaped m is b d, (λ is b d. ho.shaped m is b d, validity n m)) 0 (list_splits t n true 0 items) ended e

      go : (m : Bool) (items : List Item) (ended : Bool) (e : Eof) → Numbered (list_node t n es os v m items ended e).layout
      go m [] true e = (tt, tt)
      go m [] false e = (tt, parts m [] false e)
      go m (i ∷ is) ended e = (tt, parts m (i ∷ is) ended e)

  plan_shaped : (w : StrategyData) (t : Ty) → IsShaped (plan s w t)
  plan_shaped w t = induct s false (λ t n. IsShaped n) (record {
    flat_case = λ o t. flat_shaped o t;
    chunked_case = λ t n h. chunked_shaped t n h;
    grouped_case = λ g a t n h. grouped_shaped g t n h;
    compressed_case = λ which room a t n h. compressed_shaped which room t n h;
    dict_case = λ o t is c v k x y z. dict_shaped o t c v k x y z;
    zoned_case = λ o a t n g h hs. zoned_shaped o t n g h hs;
    not_struct_case = λ t. not_struct_shaped t;
    struct_case = λ fs n dup v ks h hs. struct_shaped fs n dup v ks h hs;
    list_case = λ t n e o v x y z. list_shaped t n e o v x y z;
  }) w (λ e. absurd (true≢false (sym e))) t

  pub numbered_shaped : (w : StrategyData) (t : Ty) (m : Bool) (items : List Item) (ended : Bool) (e : Eof) → Shaped (renamed f (plan s w t m items ended e).layout)
  numbered_shaped w t m items ended e = (plan_shaped w t).shaped m items ended e

pub written_shaped : (s : Setting) (w : StrategyData) (t : Ty) (m : Bool) (xs : List ChunkData) (ended : Bool) (first : ℕ) → Shaped (numbered (source_plan s w t m xs ended) first)
written_shaped s w t m xs ended first = numbered_shaped s (number_of (source_plan s w t m xs ended).pairs first) w t m (batch_items 0 xs) ended root_eof
