-- A write of a struct's columns, from what was read and prepared of the source to what its workers leave.
use Rattle.std.proofs.Common.{◌≡◌, ◌+◌, ◌^◌, ◌<◌, ◌∷◌, ◌++◌, ◌∙◌, ℕ, suc, Bool, true, false, List, map, length, Option, Some, None, slice_get, All, refl, sym, ap, subst, arith, []}
use Rattle.std.specs.Prelude.{sum_by}
use Rattle.std.proofs.lemmas.List.FromFn.{length-map-range_with_len}
use Rattle.vx_model.specs.Ty.{Ty, Tys, struct, nullable}
use Rattle.vx_model.specs.TyView.{ty}
use Rattle.vx_model.specs.ChunkData.{ChunkData}
use Rattle.vx_chunk_cells.specs.Parts.{struct_fields}
use Rattle.vx_segment_reader.specs.Codec.{segment_codec}
use Rattle.vx_layout_spec.specs.LayoutTree.{LayoutData}
use Rattle.vx_strategy_spec.specs.StrategyData.{StrategyData, StrategyList, structured}
use Rattle.vx_strategy_spec.specs.Dispatch.{dispatch}
use Rattle.vx_plan.specs.PlanData.{Setting, Pair, Plan, row_total, row_totals}
use Rattle.vx_plan.specs.SourcePlan.{batch_items, source_plan}
use Rattle.vx_plan.specs.Statements.{RowsComeBack}
use Rattle.vx_plan.specs.Valid.{Fit, Keeps}
use Rattle.vx_sink.specs.ContextView.{listed, allowed_in}
use Rattle.vx_sink.specs.declared.context.LayoutWriterContext.{LayoutWriterContext}
use Rattle.vx_sink.specs.declared.list_source.ListSource.{ListSource}
use Rattle.vx_seats.specs.History as seats
use Rattle.vx_column_plan.specs.Columns.{Column, columns_by}
use Rattle.vx_column_plan.specs.Shared.{allowed_by}
use Rattle.vx_named_tasks.specs.Names.{column_outset}
use Rattle.vx_own_plans.specs.OwnPlans.{column_chunks}
use Rattle.vx_own_plans.proofs.OwnLaws.{columns_write_their_own}
use Rattle.vx_column_ids.specs.Outsets.{outset_of, column_outsets}
use Rattle.vx_column_ids.specs.declared.part.ColumnPart.{ColumnPart}
use Rattle.vx_column_ways.specs.Ways.{columns_in}
use Rattle.vx_machine_node.specs.Context.{setting_of}
use Rattle.vx_column_worker.specs.Course.{Course, plan_of}
use Rattle.vx_column_inputs.specs.declared.inputs.Columns.{Columns}
use Rattle.vx_column_inputs.specs.declared.inputs.Input.{Input}
use Rattle.vx_column_inputs.specs.Prepared.{AreInputs, ArePrepared}
use Rattle.vx_column_inputs.specs.Reading.{SourceTold}
use Rattle.vx_column_inputs.proofs.Widths.{columns_counted}
use Rattle.vx_column_worker.specs.Jobs.{JobsFit}
use Rattle.vx_write_answer.specs.declared.error.WriteError.{WriteError}
use Rattle.vx_write.specs.ColumnCount.{columns_of}
use Rattle.vx_write.specs.Written.{Planned, Wrote}
use Rattle.vx_write_columns.specs.Beside.{PassesBeside}
use Rattle.vx_write_columns.specs.Courses.{column_courses, courses_of, pairs_beside}
use Rattle.vx_write_columns.specs.Ends.{End, IsFirstRefusal}
use Rattle.vx_write_columns.specs.Shared.{SharedDone, SharedStopped}
use Rattle.vx_write_columns.specs.Stopped.{ColumnsHalted}
use Rattle.vx_write_columns.proofs.Beside.{course_at, pairs_are, counts_are, all_allowed}
use Rattle.vx_write_columns.proofs.Causing.{course_there}
use Rattle.vx_write_columns.proofs.Prepared.{struct_is, fit_right, courses_are, FitsAt, jobs_fit, parts_long, parts_at}
use Rattle.vx_write_columns.proofs.Wrote.{length_allowed, planned_beside}
use Rattle.vx_write_columns.proofs.Halting.{halted_shared}

-- what holds of structs holds of each type that has columns
pub of_structs : (P : Ty → Type 0) (t : Ty) (count : ℕ) → columns_of t ≡ Some count → ((fs : Tys) (n : Bool) → P (struct fs n)) → P t
of_structs P t count h f = subst P (sym (struct_is t count h)) (f (struct_fields t) (nullable t))

-- the same written of what is equal
done_same : (a b : List seats.Pair) (first next : ℕ) (before now : Option (List (List ℕ))) (xs ys : List Course) (t u : Ty) (i j : ℕ) (l : LayoutData ℕ) → a ≡ b → xs ≡ ys → t ≡ u → i ≡ j
    → SharedDone a first next before now xs t i l → SharedDone b first next before now ys u j l
done_same a b first next before now xs ys t u i j l e f g h d =
    subst (λ z. SharedDone b first next before now ys u z l) h
    (subst (λ z. SharedDone b first next before now ys z i l) g
    (subst (λ z. SharedDone b first next before now z t i l) f
    (subst (λ z. SharedDone z first next before now xs t i l) e d)))

stopped_same : (a b : List seats.Pair) (first next : ℕ) (before now : Option (List (List ℕ))) (tells : List End → Type 0) (xs ys : List Course) (e : WriteError) → a ≡ b → xs ≡ ys
    → SharedStopped a first next before now tells xs e → SharedStopped b first next before now tells ys e
stopped_same a b first next before now tells xs ys e f g h =
    subst (λ z. SharedStopped b first next before now tells z e) g (subst (λ z. SharedStopped z first next before now tells xs e) f h)

module _ {C : Type 0} (image : ℕ → ℕ → ChunkData → ChunkData) (kind : C → ℕ) (types : ListSource → Ty) (may_fail : ListSource → ℕ → Type 0) (to_come : ListSource → Option (List ChunkData)) (left : ListSource → ℕ)
    (ctx : LayoutWriterContext) (which : ℕ) (v d : StrategyData) (ws : StrategyList) (m : Bool) (bs : List ChunkData) (count : ℕ) (columns : Columns) (lent : List C) where
  abbrev s : Setting
  s = setting_of ctx (image which)

  inputs_length : (t : Ty) (k : ℕ) (cs : List Column) (is : List Input) → AreInputs (listed ctx) (allowed_in ctx) types may_fail to_come left t bs k cs is → length cs ≡ length is
  inputs_length t k [] [] h = refl
  inputs_length t k [] (i ∷ is) h = absurd h
  inputs_length t k (c ∷ cs) [] h = absurd h
  inputs_length t k (c ∷ cs) (i ∷ is) h = ap suc (inputs_length t (suc k) cs is h.1)

  -- what the workers write, and the pairs of it all
  abbrev ys : List Course
  ys = courses_of image kind to_come 0 columns.inputs.items lent

  abbrev pairs : List seats.Pair
  pairs = allowed_by (pairs_beside ys)

  -- all were read and prepared, each with a compressor of one kind
  abbrev IsReady : Ty → Type 0
  IsReady t = (columns_of t ≡ Some count) × ArePrepared (listed ctx) (allowed_in ctx) types may_fail to_come left t bs (columns_in (structured v d ws) t m) count columns
      × (length lent ≡ count) × All (λ c. kind c ≡ which) lent

  module _ (fs : Tys) (n : Bool) (r : IsReady (struct fs n)) where
    abbrev ks : List Column
    ks = columns_by v d ws m fs n

    abbrev xs : List Course
    xs = column_courses s fs n bs 0 ks

    abbrev p : Plan
    p = source_plan s (structured v d ws) (struct fs n) m bs true

    counted : length ks ≡ count
    counted = columns_counted v d ws (struct fs n) m count r.0

    inputs_there : length columns.inputs.items ≡ count
    inputs_there = sym (inputs_length (struct fs n) 0 ks columns.inputs.items r.1.inputs_are) ∙ counted

    staffed : length lent ≡ length columns.inputs.items
    staffed = r.2 ∙ sym inputs_there

    courses_there : ys ≡ xs
    courses_there = courses_are image kind types may_fail to_come left ctx which (struct fs n) bs 0 ks columns.inputs.items lent r.1.inputs_are staffed r.3

    pairs_there : pairs ≡ allowed_by p.pairs
    pairs_there = ap (λ (z : List Course). allowed_by (pairs_beside z)) courses_there ∙ ap (λ (z : List Pair). allowed_by z) (pairs_are s v d ws m fs n bs r.1.distinct)

    few : count + 1 < 2 ^ 64
    few = let f : 1 + count < 2 ^ 64 = (fit_right (row_totals (batch_items 0 bs)) (count ∷ (1 + count) ∷ []) r.1.fit.1).1.0 in omega (arith, f)

    fit_there : Fit (length bs ∷ (row_totals (batch_items 0 bs) ++ (length ks ∷ (1 + length ks) ∷ [])))
    fit_there = subst (λ z. Fit (length bs ∷ (row_totals (batch_items 0 bs) ++ (z ∷ (1 + z) ∷ [])))) (sym counted) r.1.fit

    module _ (ps : List ColumnPart) (begin : map outset_of ps ≡ column_outsets (length lent) columns.batches) where
      fits_at : (j : ℕ) (c : Column) (q : ColumnPart) → slice_get ks j ≡ Some c → slice_get ps j ≡ Some q → FitsAt s (struct fs n) bs (allowed_by p.pairs) (0 + j) c (outset_of q)
      fits_at j c q there here =
          let z : j ≡ 0 + j = omega arith in
          record {
            own = parts_at ps (length lent) columns.batches begin j q here ∙ ap (λ i. column_outset i columns.batches) z ∙ ap (λ i. column_outset (0 + j) i) r.1.batches_are;
            many = subst (λ i. length (column_chunks i fs n bs) ≡ length bs) z (columns_write_their_own s ks j c fs n bs true there).as_many;
            all = all_allowed s v d ws m fs n bs r.1.distinct j (course_at s fs n bs (0 + j) c) (course_there s fs n bs 0 ks j c there);
          }

      jobs_there : JobsFit pairs image kind types may_fail to_come left 0 columns.inputs.items ps lent
      jobs_there =
          subst (λ z. JobsFit z image kind types may_fail to_come left 0 columns.inputs.items ps lent) (sym pairs_there)
          (jobs_fit image kind types may_fail to_come left ctx which (struct fs n) bs (allowed_by p.pairs) 0 ks columns.inputs.items ps lent r.1.inputs_are
          (parts_long ps (length lent) columns.batches begin ∙ staffed) staffed r.3 fits_at)

    sum_there : sum_by (λ x. length (plan_of x).pairs) ys ≡ length pairs
    sum_there =
        ap (λ (z : List Course). sum_by (λ (x : Course). length (plan_of x).pairs) z) courses_there ∙ counts_are s v d ws m fs n bs r.1.distinct
        ∙ sym (ap (λ (z : List seats.Pair). length z) pairs_there ∙ length_allowed p.pairs)

    module _ (w : StrategyData) (at_type : dispatch w (struct fs n) ≡ structured v d ws) (first next : ℕ) (before now : Option (List (List ℕ))) (faults faults_now : ℕ) (may must : ℕ → Type 0)
        (told told_now : Option (List ChunkData)) (read : SourceTold faults faults_now may must told told_now bs true false) where
      wrote_there : RowsComeBack → Keeps s → (l : LayoutData ℕ) → SharedDone pairs first next before now ys (ty columns.dtype) columns.rows l
          → Planned s w (struct fs n) m told (Wrote (struct fs n) first next before now l)
      wrote_there back keeps l h =
          planned_beside s v d ws m fs n bs r.1.distinct w at_type back keeps refl first next before now l r.1.whole fit_there
          (done_same pairs (allowed_by p.pairs) first next before now ys xs (ty columns.dtype) (struct fs n) columns.rows (row_total (batch_items 0 bs)) l pairs_there courses_there r.1.type_is r.1.rows_are h)
          told told_now read.came (read.ended refl)

      halted_there : (tells : List End → Type 0) (e : WriteError) → SharedStopped pairs first next before now tells ys e
          → ColumnsHalted s w (struct fs n) m (PassesBeside s w (struct fs n) m) (IsFirstRefusal s w (struct fs n) m first tells) first next faults faults_now may must told told_now before now e
      halted_there tells e h =
          halted_shared s v d ws m fs n bs r.1.distinct w at_type first next faults faults_now may must told told_now before now tells e read r.1.typed
          (stopped_same pairs (allowed_by p.pairs) first next before now tells ys xs e pairs_there courses_there h)

  -- ---- of any type that has columns

  module _ (t : Ty) (is : columns_of t ≡ Some count)
      (r : ArePrepared (listed ctx) (allowed_in ctx) types may_fail to_come left t bs (columns_in (structured v d ws) t m) count columns) (long : length lent ≡ count) (same : All (λ c. kind c ≡ which) lent) where
    ready : IsReady t
    ready = (is, r, long, same)

    -- there are as many of all as columns
    pub fields_counted : (columns_of (ty columns.dtype) ≡ Some count) × (length columns.fronts.items ≡ count) × (length columns.inputs.items ≡ count)
    fields_counted = (
      ap (λ (z : Ty). columns_of z) r.type_is ∙ is,
      ap (λ (z : List (List ℕ)). length z) r.fronts_are ∙ length-map-range_with_len (λ k. 0 ∷ 0 ∷ k ∷ []) 0 count,
      of_structs (λ z. IsReady z → length columns.inputs.items ≡ count) t count is inputs_there ready,
    )

    pub fields_few : count + 1 < 2 ^ 64
    fields_few = of_structs (λ z. IsReady z → count + 1 < 2 ^ 64) t count is few ready

    -- each worker may write what it writes
    pub fields_fit : (ps : List ColumnPart) → map outset_of ps ≡ column_outsets (length lent) columns.batches → JobsFit pairs image kind types may_fail to_come left 0 columns.inputs.items ps lent
    fields_fit ps begin = of_structs (λ z. IsReady z → JobsFit pairs image kind types may_fail to_come left 0 columns.inputs.items ps lent) t count is (λ fs n i. jobs_there fs n i ps begin) ready

    -- and that is all
    pub fields_sum : sum_by (λ x. length (plan_of x).pairs) ys ≡ length pairs
    fields_sum = of_structs (λ z. IsReady z → sum_by (λ x. length (plan_of x).pairs) ys ≡ length pairs) t count is sum_there ready

    -- what they leave
    module _ (w : StrategyData) (at_type : dispatch w t ≡ structured v d ws) (first next : ℕ) (before now : Option (List (List ℕ))) (faults faults_now : ℕ) (may must : ℕ → Type 0)
        (told told_now : Option (List ChunkData)) (read : SourceTold faults faults_now may must told told_now bs true false) where
      pub fields_wrote : RowsComeBack → Keeps s → (l : LayoutData ℕ) → SharedDone pairs first next before now ys (ty columns.dtype) columns.rows l
          → Planned s w t m told (Wrote t first next before now l)
      fields_wrote back keeps l h =
          of_structs (λ z. IsReady z → dispatch w z ≡ structured v d ws → Planned s w z m told (Wrote z first next before now l)) t count is
          (λ fs n i e. wrote_there fs n i w e first next before now faults faults_now may must told told_now read back keeps l h) ready at_type

      pub fields_halted : (tells : List End → Type 0) (e : WriteError) → SharedStopped pairs first next before now tells ys e
          → ColumnsHalted s w t m (PassesBeside s w t m) (IsFirstRefusal s w t m first tells) first next faults faults_now may must told told_now before now e
      fields_halted tells e h =
          of_structs (λ z. IsReady z → dispatch w z ≡ structured v d ws
          → ColumnsHalted s w z m (PassesBeside s w z m) (IsFirstRefusal s w z m first tells) first next faults faults_now may must told told_now before now e) t count is
          (λ fs n i f. halted_there fs n i w f first next before now faults faults_now may must told told_now read tells e h) ready at_type
