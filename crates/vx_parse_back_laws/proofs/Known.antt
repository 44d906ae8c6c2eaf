-- A session of all kinds and all aggregates knows what is written.
use Rattle.std.proofs.Common.{◌≡◌, ℕ, suc, ◌<◌, ◌^◌, ◌||◌, Bool, true, false, List, [], ◌∷◌, length, Option, Some, None, refl, ap, ◌∙◌, arith}
use Rattle.std.specs.Prelude.{if◌then◌else◌}
use Rattle.vx_model.specs.Words.{all_by}
use Rattle.vx_model.specs.Ty.{Ty, Tys, no_fields, field}
use Rattle.vx_path.specs.Path.{Eof, inside, next, root_eof}
use Rattle.vx_layout_spec.specs.LayoutTree.{LayoutData, lays_of, gathered, renamed, each_renamed}
use Rattle.vx_rules.specs.Columns.{Split, column, other_columns, struct_splits, list_splits}
use Rattle.vx_rules.specs.Runs.{DictOptions, Run, runs}
use Rattle.vx_aggregate_spec.specs.Aggregate.{Aggregate, maximum, minimum, bounded_maximum, bounded_minimum, null_count, sum, bloom, aggregate_id}
use Rattle.vx_zone_spec.specs.ZoneTable.{Filled, table_type, table_specs}
use Rattle.vx_session.specs.declared.encoding.LayoutEncoding.{LayoutEncoding}
use Rattle.vx_session.specs.declared.encoding.LayoutEncoding.TheVariants as kinds
use Rattle.vx_session.specs.Ids.{is_listed, aggregate_ids}
use Rattle.vx_session.specs.Scope.{Scope}
use Rattle.vx_layout_codec_spec.specs.Sound.{Knows}
use Rattle.vx_strategy_spec.specs.StrategyData.{StrategyData, FlatOptions, ZonedOptions, Grouping}
use Rattle.vx_strategy_spec.specs.Admitted.{is_admitted, is_admitted_zoned}
use Rattle.vx_plan.specs.PlanData.{Setting, Item, Node, row_total}
use Rattle.vx_plan.specs.FlatNode.{flat_node}
use Rattle.vx_plan.specs.ChunkedNode.{chunked_node, chunk_plans, all_layouts}
use Rattle.vx_plan.specs.GroupNode.{grouped_stream, grouped_node, images, compressed_node}
use Rattle.vx_plan.specs.DictNode.{is_dictionary, run_plans, runs_node, dict_node}
use Rattle.vx_plan.specs.ZonedNode.{recorded, zone_records, table_items, with_table, table_of, zoned_node}
use Rattle.vx_plan.specs.ColumnNodes.{Column, marked, column_plans, struct_writers, list_writers, not_struct_node, struct_node, list_node}
use Rattle.vx_plan.specs.SourcePlan.{plan, batch_items, source_plan}
use Rattle.vx_plan.specs.Number.{number_of}
use Rattle.vx_plan.proofs.Relate.{Fields, induct}
use Rattle.vx_plan.proofs.ZonedLaws.{few_columns}
use Rattle.vx_parse_back_laws.specs.Knowing.{is_known, KnowsLayout, KnowsAll, KnowsWrites}
use Rattle.vx_parse_back_laws.specs.Statements.{WrittenIsKnown, SessionKnowsWrites}

-- in a scope, with the segments numbered so
module _ (s : Scope) (st : Setting) (f : List ℕ → ℕ) (all : KnowsWrites s st) where
  abbrev Known : LayoutData (List ℕ) → Type 0
  Known l = KnowsLayout s (renamed f l)

  abbrev AllKnown : List (LayoutData (List ℕ)) → Type 0
  AllKnown ls = KnowsAll s (each_renamed f (lays_of ls))

  -- What is said of a node: whatever its stream, its layout is known.
  pub record IsKnown (n : Node) : Type 0 where
    pub known : (m : Bool) (items : List Item) (ended : Bool) (e : Eof) → Known (n m items ended e).layout

  knows : (kind : LayoutEncoding) → Knows s kind
  knows kinds.Flat = rw all.kinds refl
  knows kinds.Chunked = rw all.kinds refl
  knows kinds.Struct = rw all.kinds refl
  knows kinds.List = rw all.kinds refl
  knows kinds.Dict = rw all.kinds refl
  knows kinds.Zoned = rw all.kinds refl
  knows kinds.LegacyStats = rw all.kinds refl

  gathered_known : (t : Ty) (n : ℕ) (ls : List (LayoutData (List ℕ))) → AllKnown ls → Known (gathered t n ls)
  gathered_known t n [] h = (knows kinds.Chunked, h)
  gathered_known t n (l ∷ []) h = h.0
  gathered_known t n (l ∷ k ∷ ls) h = (knows kinds.Chunked, h)

  flat_known : (o : FlatOptions) (t : Ty) → IsKnown (flat_node st o t)
  flat_known o t = record { known = go }
    where
      go : (m : Bool) (items : List Item) (ended : Bool) (e : Eof) → Known (flat_node st o t m items ended e).layout
      go m [] ended e = (knows kinds.Chunked, tt)
      go m (i ∷ []) ended e = ((knows kinds.Flat, all.encodings), tt)
      go m (i ∷ j ∷ is) ended e = ((knows kinds.Flat, all.encodings), tt)

  chunks_known : (n : Node) → IsKnown n → (m : Bool) (items : List Item) (e : Eof) → AllKnown (all_layouts (chunk_plans n m items e))
  chunks_known n h m [] e = tt
  chunks_known n h m (i ∷ is) e = (h.known m (i ∷ []) true (inside e), chunks_known n h m is (next e))

  chunked_known : (t : Ty) (n : Node) → IsKnown n → IsKnown (chunked_node t n)
  chunked_known t n h = record { known = λ m items ended e. gathered_known t (row_total items) (all_layouts (chunk_plans n m items e)) (chunks_known n h m items e) }

  grouped_known : (g : Grouping) (t : Ty) (n : Node) → IsKnown n → IsKnown (grouped_node g t n)
  grouped_known g t n h = record { known = λ m items ended e. h.known m (grouped_stream g t items ended) ended e }

  compressed_known : (which room : ℕ) (t : Ty) (n : Node) → IsKnown n → IsKnown (compressed_node st which room t n)
  compressed_known which room t n h = record { known = λ m items ended e. h.known m (images st which items) ended e }

  -- ---- dictionaries

  runs_known : (t : Ty) (cn vn : Node) → IsKnown cn → IsKnown vn → (m : Bool) (rs : List Run) (e : Eof) → AllKnown (all_layouts (run_plans t cn vn m rs e))
  runs_known t cn vn hc hv m [] e = tt
  runs_known t cn vn hc hv m (r ∷ rs) e = (
    (knows kinds.Dict, (hv.known m r.values r.closed (inside (next e)), (hc.known m r.codes r.closed (inside e), tt))),
    runs_known t cn vn hc hv m rs (next (next e)),
  )

  dict_known : (o : DictOptions) (t : Ty) (cn vn fn : Node) → IsKnown cn → IsKnown vn → IsKnown fn → IsKnown (dict_node st o t cn vn fn)
  dict_known o t cn vn fn hc hv hf = record { known = go }
    where
      by_image : (b : Bool) (m : Bool) (items : List Item) (ended : Bool) (e : Eof) → Known (if b then runs_node o t cn vn m items ended e else fn m items ended e).layout
      by_image true m items ended e = gathered_known t (row_total items) (all_layouts (run_plans t cn vn m (runs o t items ended) e)) (runs_known t cn vn hc hv m (runs o t items ended) e)
      by_image false m items ended e = hf.known m items ended e

      go : (m : Bool) (items : List Item) (ended : Bool) (e : Eof) → Known (dict_node st o t cn vn fn m items ended e).layout
      go m [] true e = hf.known m [] true e
      go m [] false e = (knows kinds.Chunked, tt)
      go m (i ∷ is) ended e = by_image (is_dictionary (st.image o.probe i.1)) m (i ∷ is) ended e

  -- ---- zones

  specs_known : (cs : List Filled) → all_by (is_known s.context) (table_specs cs) ≡ true
  specs_known [] = refl
  specs_known (c ∷ cs) = rw (all.aggregates c.aggregate, specs_known cs) refl

  specs_count : (cs : List Filled) → length (table_specs cs) ≡ length cs
  specs_count [] = refl
  specs_count (c ∷ cs) = ap suc (specs_count cs)

  few_specs : (o : ZonedOptions) (t : Ty) (items : List Item) (ended : Bool) (cs : List Filled) → is_admitted_zoned o ≡ true → table_of st o t items ended ≡ Some cs → length (table_specs cs) < 2 ^ 32
  few_specs o t items true cs ok kept = omega (arith, specs_count cs, few_columns o t (zone_records st t (recorded o t) items) cs ok kept)
  few_specs o t items false cs ok kept = absurd (cc kept)

  zoned_known : (o : ZonedOptions) → is_admitted_zoned o ≡ true → (t : Ty) (n : Node) (stats : Ty → Node) → IsKnown n → ((u : Ty) → IsKnown (stats u)) → IsKnown (zoned_node st o t n stats)
  zoned_known o ok t n stats h hs = record { known = go }
    where
      by_table : (items : List Item) (ended : Bool) (e : Eof) (cs : Option (List Filled)) → table_of st o t items ended ≡ cs → Known (with_table st o t stats false items e (n false items ended (inside e)) cs).layout
      by_table items ended e None kept = h.known false items ended (inside e)
      by_table items ended e (Some cs) kept = (
        (knows kinds.Zoned, few_specs o t items ended cs ok kept, specs_known cs),
        (h.known false items ended (inside e), ((hs (table_type cs)).known false (table_items cs (length items) e) true (next (next e)), tt)),
      )

      go : (m : Bool) (items : List Item) (ended : Bool) (e : Eof) → Known (zoned_node st o t n stats m items ended e).layout
      go true items ended e = h.known true items ended e
      go false items ended e = by_table items ended e (table_of st o t items ended) refl

  -- ---- columns

  abbrev ColumnsKnown : List Column → Type 0
  ColumnsKnown [] = Unit {0}
  ColumnsKnown (k ∷ ks) = ((items : List Item) (ended : Bool) (e : Eof) → Known (k items ended e).layout) × ColumnsKnown ks

  columns_known : (ks : List Column) → ColumnsKnown ks → (c : ℕ) (xs : List Split) (ended : Bool) (e : Eof) → AllKnown (all_layouts (column_plans ks c xs ended e))
  columns_known [] h c xs ended e = tt
  columns_known (k ∷ ks) h c xs ended e = (h.0 (column c xs) ended (inside e), columns_known ks h.1 (suc c) (other_columns xs) ended (next e))

  fields_known : (fs : Tys) (ks : List Node) → Fields (λ t n. IsKnown n) fs ks → (m : Bool) → ColumnsKnown (marked m ks)
  fields_known no_fields [] h m = tt
  fields_known no_fields (k ∷ ks) h m = absurd h
  fields_known (field name t fs) [] h m = absurd h
  fields_known (field name t fs) (k ∷ ks) h m = (λ items ended e. h.0.known m items ended e, fields_known fs ks h.1 m)

  writers_known : (fs : Tys) (n : Bool) (v : Node) (ks : List Node) → IsKnown v → Fields (λ t n. IsKnown n) fs ks → (m : Bool) → ColumnsKnown (struct_writers n m v ks)
  writers_known fs true v ks hv hs m = (λ items ended e. hv.known m items ended e, fields_known fs ks hs (m || true))
  writers_known fs false v ks hv hs m = fields_known fs ks hs (m || false)

  not_struct_known : (t : Ty) → IsKnown (not_struct_node t)
  not_struct_known t = record { known = λ m items ended e. (knows kinds.Struct, tt) }

  struct_known : (fs : Tys) (n : Bool) (dup : Option (List ℕ)) (v : Node) (ks : List Node) → IsKnown v → Fields (λ t n. IsKnown n) fs ks → IsKnown (struct_node fs n dup v ks)
  struct_known fs n dup v ks hv hs = record { known = go dup }
    where
      go : (dup : Option (List ℕ)) (m : Bool) (items : List Item) (ended : Bool) (e : Eof) → Known (struct_node fs n dup v ks m items ended e).layout
      go (Some name) m items ended e = (knows kinds.Struct, tt)
      go None m items ended e = (knows kinds.Struct, columns_known (struct_writers n m v ks) (writers_known fs n v ks hv hs m) 0 (struct_splits fs n items) ended e)

  list_known : (t : Ty) (n : Bool) (es os v : Node) → IsKnown es → IsKnown os → IsKnown v → IsKnown (list_node t n es os v)
  list_known t n es os v he ho hv = record { known = go }
    where
      validity : (n m : Bool) → ColumnsKnown (if n then v m ∷ [] else [])
      validity true m = (λ items ended e. hv.known m items ended e, tt)
      validity false m = tt

      parts : (m : Bool) (items : List Item) (ended : Bool) (e : Eof) → AllKnown (all_layouts (column_plans (list_writers n m es os v) 0 (list_splits t n true 0 items) ended e))
      parts m items ended e =
          columns_known (list_writers n m es os v) (λ is b d. he.known m is b d, (λ is b d. ho.known m is b d, validity n m)) 0 (list_splits t n true 0 items) ended e

      go : (m : Bool) (items : List Item) (ended : Bool) (e : Eof) → Known (list_node t n es os v m items ended e).layout
      go m [] true e = (knows kinds.List, tt)
      go m [] false e = (knows kinds.List, parts m [] false e)
      go m (i ∷ is) ended e = (knows kinds.List, parts m (i ∷ is) ended e)

  pub plan_known : (w : StrategyData) → is_admitted w ≡ true → (t : Ty) → IsKnown (plan st w t)
  plan_known w ok t = induct st true (λ t n. IsKnown n) (record {
    flat_case = λ o t. flat_known o t;
    chunked_case = λ t n h. chunked_known t n h;
    grouped_case = λ g a t n h. grouped_known g t n h;
    compressed_case = λ which room a t n h. compressed_known which room t n h;
    dict_case = λ o t is c v k x y z. dict_known o t c v k x y z;
    zoned_case = λ o a t n g h hs. zoned_known o (a refl) t n g h hs;
    not_struct_case = λ t. not_struct_known t;
    struct_case = λ fs n dup v ks h hs. struct_known fs n dup v ks h hs;
    list_case = λ t n e o v x y z. list_known t n e o v x y z;
  }) w (λ e. ok) t

pub written_is_known : WrittenIsKnown
written_is_known st s w t m batches ended first ok all =
    (plan_known s st (number_of (source_plan st w t m batches ended).pairs first) all w ok t).known m (batch_items 0 batches) ended root_eof

-- each aggregate's id is one of all
is_one : (a : Aggregate) → is_listed (aggregate_id a) aggregate_ids ≡ true
is_one maximum = refl
is_one minimum = refl
is_one (bounded_maximum n) = refl
is_one (bounded_minimum n) = refl
is_one null_count = refl
is_one sum = refl
is_one (bloom n) = refl

pub session_knows : SessionKnowsWrites
session_knows session ids encodings allow_unknown allowed image kinds aggregates = record {
  kinds = kinds;
  encodings = refl;
  aggregates = λ a. ap (is_listed (aggregate_id a)) aggregates ∙ is_one a;
}
