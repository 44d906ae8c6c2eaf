-- A column's cause is a cause of the whole write.
use Rattle.std.proofs.Common.{◌≡◌, ◌+◌, ◌≤◌, ◌⊎◌, ◌∷◌, ◌++◌, ◌∙◌, ℕ, zero, suc, Bool, true, false, List, length, Option, Some, None, slice_get, refl, sym, ap, ap₂, subst, inl, inr, arith, length-append, []}
use Rattle.vx_model.specs.Ty.{Ty, Tys, boolean, struct}
use Rattle.vx_model.specs.ChunkData.{ChunkData}
use Rattle.vx_path.specs.Lists.{In}
use Rattle.vx_path.specs.Path.{root_eof}
use Rattle.vx_path.proofs.Lists.{in_left, in_right}
use Rattle.vx_strategy_spec.specs.StrategyData.{StrategyData, StrategyList, structured}
use Rattle.vx_strategy_spec.specs.Walk.{duplicate, field_nodes, walk_named}
use Rattle.vx_strategy_spec.specs.Dispatch.{dispatch}
use Rattle.vx_plan.specs.PlanData.{Setting, Plan, Fault, fault, at_start, What, not_struct, duplicate_field, many_chunks, empty_list, zone_cut, forbidden_aggregate, forbidden_encoding, row_totals}
use Rattle.vx_plan.specs.ChunkedNode.{all_pairs, all_faults, all_numbers, all_reserved}
use Rattle.vx_plan.specs.ColumnNodes.{struct_node}
use Rattle.vx_plan.specs.SourcePlan.{plan_nodes, plan, batch_items, source_plan}
use Rattle.vx_plan.specs.Valid.{IsPast, Has}
use Rattle.vx_column_plan.specs.Columns.{Column, columns_by, batch_plans, IsBeside}
use Rattle.vx_column_plan.proofs.ColumnLaws.{struct_is_columns}
use Rattle.vx_column_ways.specs.Ways.{columns_in}
use Rattle.vx_column_worker.specs.Course.{Course, plan_of}
use Rattle.vx_column_worker.specs.Causes.{Passes}
use Rattle.vx_column_worker.specs.Worked.{WorkerCause, SharedPast}
use Rattle.vx_column_inputs.specs.Prepared.{SplitStops}
use Rattle.vx_write_answer.specs.declared.error.WriteError.{WriteError}
use Rattle.vx_write_answer.specs.declared.error.WriteError.TheVariants.{SourceFault, SinkFault, CompressFault, BatchType, NotStruct, DuplicateField, ManyChunks, EmptyList, ZoneCut, ForbiddenAggregate, ForbiddenEncoding, TooLarge, OutOfMemory, Stopped}
use Rattle.vx_write_columns.specs.Beside.{PassesBeside}
use Rattle.vx_write_columns.specs.Courses.{column_courses}
use Rattle.vx_write_columns.specs.Numbers.{IsOwn}
use Rattle.vx_write_columns.specs.Stopped.{IsNumberPast, HasColumnsCause, OfReading}
use Rattle.vx_write_columns.proofs.Beside.{course_at, place_in}
use Rattle.vx_write_columns.proofs.Dispatched.{stands_for}

same_some : {A : Type 0} (x y : A) → Some x ≡ Some y → x ≡ y
same_some x y e = cc

none_some : {A : Type 0} (x : A) → None ≡ Some x → ⊥
none_some x e = cc

-- ---- one of several plans

in_all_faults : (f : Fault) (q : Plan) (qs : List Plan) → In q qs → In f q.faults → In f (all_faults qs)
in_all_faults f q [] h i = absurd h
in_all_faults f q (r ∷ qs) (inl e) i = in_left f r.faults (all_faults qs) (subst (λ (z : Plan). In f z.faults) e i)
in_all_faults f q (r ∷ qs) (inr j) i = in_right f r.faults (all_faults qs) (in_all_faults f q qs j i)

in_all_numbers : (k : ℕ) (q : Plan) (qs : List Plan) → In q qs → In k q.numbers → In k (all_numbers qs)
in_all_numbers k q [] h i = absurd h
in_all_numbers k q (r ∷ qs) (inl e) i = in_left k r.numbers (all_numbers qs) (subst (λ (z : Plan). In k z.numbers) e i)
in_all_numbers k q (r ∷ qs) (inr j) i = in_right k r.numbers (all_numbers qs) (in_all_numbers k q qs j i)

pairs_within : (q : Plan) (qs : List Plan) → In q qs → length q.pairs ≤ length (all_pairs qs)
pairs_within q [] h = absurd h
pairs_within q (r ∷ qs) (inl e) =
    let l : length (r.pairs ++ all_pairs qs) ≡ length r.pairs + length (all_pairs qs) = length-append r.pairs (all_pairs qs) in
    let same : length q.pairs ≡ length r.pairs = ap (λ (z : Plan). length z.pairs) e in
    omega arith
pairs_within q (r ∷ qs) (inr j) =
    let l : length (r.pairs ++ all_pairs qs) ≡ length r.pairs + length (all_pairs qs) = length-append r.pairs (all_pairs qs) in
    let later : length q.pairs ≤ length (all_pairs qs) = pairs_within q qs j in
    omega arith

pub reserved_within : (q : Plan) (qs : List Plan) → In q qs → q.reserved ≤ all_reserved qs
reserved_within q [] h = absurd h
reserved_within q (r ∷ qs) (inl e) = let same : q.reserved ≡ r.reserved = ap (λ (z : Plan). z.reserved) e in omega arith
reserved_within q (r ∷ qs) (inr j) = let later : q.reserved ≤ all_reserved qs = reserved_within q qs j in omega arith

-- ---- the course at a place

module _ (s : Setting) (fs : Tys) (n : Bool) (bs : List ChunkData) where
  pub course_is : (j : ℕ) (cs : List Column) (k : ℕ) (x : Course) → slice_get (column_courses s fs n bs j cs) k ≡ Some x
      → (c : Column) × (slice_get cs k ≡ Some c) × (x ≡ course_at s fs n bs (j + k) c)
  course_is j [] k x e = absurd (none_some x e)
  course_is j (c ∷ cs) zero x e =
      let z : j ≡ j + 0 = omega arith in
      (c, refl, sym (same_some (course_at s fs n bs j c) x e) ∙ ap (λ i. course_at s fs n bs i c) z)
  course_is j (c ∷ cs) (suc k) x e = next (course_is (suc j) cs k x e)
    where
      next : (d : Column) × (slice_get cs k ≡ Some d) × (x ≡ course_at s fs n bs (suc j + k) d) → (d : Column) × (slice_get cs k ≡ Some d) × (x ≡ course_at s fs n bs (j + suc k) d)
      next (d, i, a) = let z : suc j + k ≡ j + suc k = omega arith in (d, i, a ∙ ap (λ h. course_at s fs n bs h d) z)

  pub course_there : (j : ℕ) (cs : List Column) (k : ℕ) (c : Column) → slice_get cs k ≡ Some c → slice_get (column_courses s fs n bs j cs) k ≡ Some (course_at s fs n bs (j + k) c)
  course_there j [] k c e = absurd (none_some c e)
  course_there j (b ∷ cs) zero c e =
      let z : j ≡ j + 0 = omega arith in
      ap₂ (λ (i : ℕ) (d : Column). Some (course_at s fs n bs i d)) z (same_some b c e)
  course_there j (b ∷ cs) (suc k) c e =
      let z : suc j + k ≡ j + suc k = omega arith in
      course_there (suc j) cs k c e ∙ ap (λ i. Some (course_at s fs n bs i c)) z

-- ---- one column against the struct's plan

module _ (s : Setting) (v d : StrategyData) (ws : StrategyList) (m : Bool) (fs : Tys) (n : Bool) (bs : List ChunkData) (distinct : duplicate fs ≡ None) where
  abbrev ks : List Column
  ks = columns_by v d ws m fs n

  abbrev qs : List Plan
  qs = batch_plans s ks fs n bs true

  abbrev xs : List Course
  xs = column_courses s fs n bs 0 ks

  abbrev p : Plan
  p = source_plan s (structured v d ws) (struct fs n) m bs true

  sides : IsBeside p (struct fs n) bs (length ks) qs
  sides = struct_is_columns s v d ws m fs n bs true distinct

  module _ (k : ℕ) (x : Course) (e : slice_get xs k ≡ Some x) where
    within : In (plan_of x) qs
    within = place_in s v d ws m fs n bs distinct k x e

    fewer : length (plan_of x).pairs ≤ length p.pairs
    fewer =
        let a : length (plan_of x).pairs ≤ length (all_pairs qs) = pairs_within (plan_of x) qs within in
        let b : length p.pairs ≡ length (all_pairs qs) = ap length sides.pairs in
        omega arith

    pub reserves_within : (plan_of x).reserved ≤ p.reserved
    reserves_within =
        let a : (plan_of x).reserved ≤ all_reserved qs = reserved_within (plan_of x) qs within in
        let b : p.reserved ≡ all_reserved qs = sides.reserved in
        omega arith

    -- what it counts the struct's plan counts
    counted : (i : ℕ) → In i (plan_of x).numbers → In i p.numbers
    counted i h =
        subst (λ z. In i z) (sym sides.numbers)
        (inr (in_right i (row_totals (batch_items 0 bs) ++ (length ks ∷ (1 + length ks) ∷ [])) (all_numbers qs) (in_all_numbers i (plan_of x) qs within h)))

    past_there : (i : ℕ) → IsPast i (plan_of x).numbers → IsPast i p.numbers
    past_there i (big, inl h) = (big, inl (counted i h))
    past_there i (big, inr (is, (j, h, far))) = (big, inr (is, (j, counted j h, far)))

    -- its faults are the struct's
    has_there : (a : What) → Has a (plan_of x).faults → Has a p.faults
    has_there a (f, i, is) = (f, subst (λ z. In f z) (sym sides.faults) (in_all_faults f (plan_of x) qs within i), is)

    module _ (w : StrategyData) (at_type : dispatch w (struct fs n) ≡ structured v d ws) where
      passes_there : (i : ℕ) → Passes x i → PassesBeside s w (struct fs n) m bs i
      passes_there i h = on (course_is s fs n bs 0 ks k x e)
        where
          on : (c : Column) × (slice_get ks k ≡ Some c) × (x ≡ course_at s fs n bs (0 + k) c) → PassesBeside s w (struct fs n) m bs i
          on (c, there, is) =
              let z : 0 + k ≡ k = omega arith in
              record {
                place = k;
                column = c;
                at = subst (λ (u : StrategyData). slice_get (columns_in u (struct fs n) m) k ≡ Some c) (sym at_type) there;
                passes = subst (λ (y : Course). Passes y i) (is ∙ ap (λ j. course_at s fs n bs j c) z) h;
              }

      module _ (first : ℕ) where
        number_there : (i : ℕ) → WorkerCause (SharedPast first (length p.pairs)) x (TooLarge i)
            → IsNumberPast first p i ⊎ IsPast i p.numbers ⊎ PassesBeside s w (struct fs n) m bs i
        number_there i (inl (inl (big, less))) = let l : length (plan_of x).pairs ≤ length p.pairs = fewer in inl (big, omega arith)
        number_there i (inl (inr (inl h))) = inr (inl (past_there i h))
        number_there i (inl (inr (inr h))) = inr (inr (passes_there i h))
        number_there i (inr h) = inl h

        cause_there : (error : WriteError) → WorkerCause (SharedPast first (length p.pairs)) x error → IsOwn error
            → HasColumnsCause (struct fs n) (PassesBeside s w (struct fs n) m bs) p bs first error × (OfReading error → ⊥)
        cause_there SourceFault h own = absurd h
        cause_there SinkFault h own = (tt, λ r. r)
        cause_there CompressFault h own = (tt, λ r. r)
        cause_there (BatchType c) h own = absurd h
        cause_there NotStruct h own = (has_there not_struct h, λ r. r)
        cause_there (DuplicateField name) h own = (has_there (duplicate_field name) h, λ r. r)
        cause_there ManyChunks h own = (has_there many_chunks h, λ r. r)
        cause_there EmptyList h own = (has_there empty_list h, λ r. r)
        cause_there (ZoneCut i) h own = (has_there (zone_cut i) h, λ r. r)
        cause_there (ForbiddenAggregate id) h own = (has_there (forbidden_aggregate id) h, λ r. r)
        cause_there (ForbiddenEncoding id) h own = (has_there (forbidden_encoding id) h, λ r. r)
        cause_there (TooLarge i) h own = (number_there i h, λ r. r)
        cause_there OutOfMemory h own = (tt, λ r. r)
        cause_there (Stopped by name) h own = absurd own

  module _ (w : StrategyData) (at_type : dispatch w (struct fs n) ≡ structured v d ws) (first : ℕ) where
    -- the refusal of a column, which isn't another's stop
    pub cause_beside : (k : ℕ) (x : Course) (e : WriteError) → slice_get xs k ≡ Some x → WorkerCause (SharedPast first (length p.pairs)) x e → IsOwn e
        → HasColumnsCause (struct fs n) (PassesBeside s w (struct fs n) m bs) p bs first e × (OfReading e → ⊥)
    cause_beside k x e there h own = cause_there k x there w at_type first e h own

-- ---- all batches, before they are split

module _ (s : Setting) (v d : StrategyData) (ws : StrategyList) (m : Bool) (fs : Tys) (n : Bool) (bs : List ChunkData) where
  -- a repeated name is a fault
  pub repeats : (name : List ℕ) → duplicate fs ≡ Some name → Has (duplicate_field name) (source_plan s (structured v d ws) (struct fs n) m bs true).faults
  repeats name h =
      subst (λ (o : Option (List ℕ)). Has (duplicate_field name) (struct_node fs n o (plan s v (boolean false)) (field_nodes (plan s d) (walk_named (plan_nodes s) ws) fs) m (batch_items 0 bs) true root_eof).faults)
      (sym h) (fault (duplicate_field name) at_start, inl refl, refl)

  -- where none is, the rows are counted
  rows_counted : duplicate fs ≡ None → (i : ℕ) → In i (row_totals (batch_items 0 bs)) → In i (source_plan s (structured v d ws) (struct fs n) m bs true).numbers
  rows_counted distinct i h =
      let b : IsBeside (source_plan s (structured v d ws) (struct fs n) m bs true) (struct fs n) bs (length (columns_by v d ws m fs n)) (batch_plans s (columns_by v d ws m fs n) fs n bs true)
      = struct_is_columns s v d ws m fs n bs true distinct in
      subst (λ z. In i z) (sym b.numbers)
      (inr (in_left i (row_totals (batch_items 0 bs) ++ (length (columns_by v d ws m fs n) ∷ (1 + length (columns_by v d ws m fs n)) ∷ [])) (all_numbers (batch_plans s (columns_by v d ws m fs n) fs n bs true))
      (in_left i (row_totals (batch_items 0 bs)) (length (columns_by v d ws m fs n) ∷ (1 + length (columns_by v d ws m fs n)) ∷ []) h)))

  module _ (w : StrategyData) (at_type : dispatch w (struct fs n) ≡ structured v d ws) where
    same : source_plan s w (struct fs n) m bs true ≡ source_plan s (structured v d ws) (struct fs n) m bs true
    same = stands_for s w (structured v d ws) (struct fs n) m bs true at_type

    split_cause : (passes : ℕ → Type 0) (first : ℕ) (e : WriteError) → SplitStops (struct fs n) bs e → HasColumnsCause (struct fs n) passes (source_plan s w (struct fs n) m bs true) bs first e
    split_cause passes first (DuplicateField name) h = subst (λ (z : Plan). Has (duplicate_field name) z.faults) (sym same) (repeats name h)
    split_cause passes first (TooLarge i) h = inr (inl (h.1.0, inl (subst (λ (z : Plan). In i z.numbers) (sym same) (rows_counted h.0 i h.1.1))))
    split_cause passes first OutOfMemory h = tt
    split_cause passes first SourceFault h = absurd h
    split_cause passes first SinkFault h = absurd h
    split_cause passes first CompressFault h = absurd h
    split_cause passes first (BatchType c) h = absurd h
    split_cause passes first NotStruct h = absurd h
    split_cause passes first ManyChunks h = absurd h
    split_cause passes first EmptyList h = absurd h
    split_cause passes first (ZoneCut i) h = absurd h
    split_cause passes first (ForbiddenAggregate id) h = absurd h
    split_cause passes first (ForbiddenEncoding id) h = absurd h
    split_cause passes first (Stopped by name) h = absurd h

-- what is refused of all batches has its cause there
pub rows_cause : (t : Ty) (w : StrategyData) (s : Setting) (m : Bool) (taken : List ChunkData) (passes : ℕ → Type 0) (first : ℕ) (e : WriteError)
    (v d : StrategyData) (ws : StrategyList) (fs : Tys) (n : Bool) → t ≡ struct fs n → dispatch w t ≡ structured v d ws → SplitStops t taken e
    → HasColumnsCause t passes (source_plan s w t m taken true) taken first e
rows_cause t w s m taken passes first e v d ws fs n is at_type h =
    subst (λ (u : Ty). HasColumnsCause u passes (source_plan s w u m taken true) taken first e) (sym is)
    (split_cause s v d ws m fs n taken w (subst (λ (u : Ty). dispatch w u ≡ structured v d ws) is at_type) passes first e (subst (λ (u : Ty). SplitStops u taken e) is h))
