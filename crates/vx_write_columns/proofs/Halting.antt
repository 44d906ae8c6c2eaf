-- What a refused write by columns leaves, wherever it was refused.
use Rattle.std.proofs.Common.{◌≡◌, ◌⊎◌, ◌+◌, ◌^◌, ◌<◌, ◌≤◌, ◌∙◌, ℕ, max, Bool, true, false, List, length, Option, Some, None, refl, sym, ap, subst, inl, inr, arith, add-zero, []}
use Rattle.std.proofs.lemmas.Bool.{true≢false}
use Rattle.vx_model.specs.Ty.{Ty, Tys, struct, nullable}
use Rattle.vx_model.specs.ChunkData.{ChunkData}
use Rattle.vx_chunk_cells.specs.Parts.{struct_fields}
use Rattle.vx_fault.specs.Told.{before_told, then_told, answers_in}
use Rattle.vx_strategy_spec.specs.StrategyData.{StrategyData, StrategyList, structured}
use Rattle.vx_strategy_spec.specs.Walk.{duplicate}
use Rattle.vx_strategy_spec.specs.Dispatch.{dispatch}
use Rattle.vx_plan.specs.PlanData.{Setting, Plan}
use Rattle.vx_plan.specs.SourcePlan.{source_plan, taken_plan}
use Rattle.vx_plan.specs.Valid.{OfSchema}
use Rattle.vx_seats.specs.History.{stored}
use Rattle.vx_column_plan.specs.Columns.{columns_by}
use Rattle.vx_column_plan.specs.Shared.{allowed_by, AreSome}
use Rattle.vx_column_ways.specs.Ways.{columns_in}
use Rattle.vx_column_worker.specs.Course.{Course}
use Rattle.vx_column_inputs.specs.Reading.{SourceTold, StopsBehind, ReadStops}
use Rattle.vx_column_inputs.specs.Prepared.{SplitStops, RefusedWhole, PrepareStops}
use Rattle.vx_column_worker.specs.Worked.{WorkerCause, SharedPast}
use Rattle.vx_write_answer.specs.declared.error.WriteError.{WriteError}
use Rattle.vx_write_answer.specs.declared.error.WriteError.TheVariants.{SourceFault, SinkFault, CompressFault, BatchType, NotStruct, DuplicateField, ManyChunks, EmptyList, ZoneCut, ForbiddenAggregate, ForbiddenEncoding, TooLarge, OutOfMemory, Stopped}
use Rattle.vx_write_answer.specs.Causes.{is_source_fault}
use Rattle.vx_write.specs.ColumnCount.{columns_of}
use Rattle.vx_write_columns.proofs.Told.{told_same, then_same}
use Rattle.vx_write_columns.specs.Beside.{PassesBeside, courses_at}
use Rattle.vx_write_columns.specs.Courses.{column_courses}
use Rattle.vx_write_columns.specs.Ends.{End, IsFirstOf, IsFirstRefusal}
use Rattle.vx_write_columns.specs.Shared.{SharedStopped}
use Rattle.vx_write_columns.specs.Stopped.{HasColumnsCause, StopsReading, OfReading, ColumnsHalted}
use Rattle.vx_write_columns.proofs.Causing.{cause_beside, rows_cause}
use Rattle.vx_write_columns.proofs.Dispatched.{taken_is}
use Rattle.vx_write_columns.proofs.Firsts.{HasAt, first_at}
use Rattle.vx_write_columns.proofs.Prepared.{struct_is}
use Rattle.vx_write_columns.proofs.Wrote.{length_allowed, next_stored, same_plan, some_written}

-- ---- which call was refused

-- what isn't the reading's refusal isn't the source's
not_source : (e : WriteError) → (OfReading e → ⊥) → is_source_fault e ≡ false
not_source SourceFault h = absurd (h tt)
not_source SinkFault h = refl
not_source CompressFault h = refl
not_source (BatchType c) h = refl
not_source NotStruct h = refl
not_source (DuplicateField name) h = refl
not_source ManyChunks h = refl
not_source EmptyList h = refl
not_source (ZoneCut n) h = refl
not_source (ForbiddenAggregate id) h = refl
not_source (ForbiddenEncoding id) h = refl
not_source (TooLarge n) h = refl
not_source OutOfMemory h = refl
not_source (Stopped by name) h = refl

module _ (t : Ty) (taken : List ChunkData) where
  stops_reading : (e : WriteError) → StopsBehind t taken e → StopsReading e
  stops_reading SourceFault h = tt
  stops_reading (BatchType c) h = tt
  stops_reading OutOfMemory h = tt
  stops_reading SinkFault h = absurd h
  stops_reading CompressFault h = absurd h
  stops_reading NotStruct h = absurd h
  stops_reading (DuplicateField name) h = absurd h
  stops_reading ManyChunks h = absurd h
  stops_reading EmptyList h = absurd h
  stops_reading (ZoneCut n) h = absurd h
  stops_reading (ForbiddenAggregate id) h = absurd h
  stops_reading (ForbiddenEncoding id) h = absurd h
  stops_reading (TooLarge n) h = absurd h
  stops_reading (Stopped by name) h = absurd h

  read_cause : (passes : ℕ → Type 0) (p : Plan) (first : ℕ) (e : WriteError) → StopsBehind t taken e → HasColumnsCause t passes p taken first e
  read_cause passes p first SourceFault h = tt
  read_cause passes p first (BatchType c) h = h
  read_cause passes p first OutOfMemory h = tt
  read_cause passes p first SinkFault h = absurd h
  read_cause passes p first CompressFault h = absurd h
  read_cause passes p first NotStruct h = absurd h
  read_cause passes p first (DuplicateField name) h = absurd h
  read_cause passes p first ManyChunks h = absurd h
  read_cause passes p first EmptyList h = absurd h
  read_cause passes p first (ZoneCut n) h = absurd h
  read_cause passes p first (ForbiddenAggregate id) h = absurd h
  read_cause passes p first (ForbiddenEncoding id) h = absurd h
  read_cause passes p first (TooLarge n) h = absurd h
  read_cause passes p first (Stopped by name) h = absurd h

  -- what is refused of all batches isn't the reading's
  split_not_reading : (e : WriteError) → SplitStops t taken e → OfReading e → ⊥
  split_not_reading SourceFault h r = absurd h
  split_not_reading (BatchType c) h r = absurd h
  split_not_reading SinkFault h r = r
  split_not_reading CompressFault h r = r
  split_not_reading NotStruct h r = r
  split_not_reading (DuplicateField name) h r = r
  split_not_reading ManyChunks h r = r
  split_not_reading EmptyList h r = r
  split_not_reading (ZoneCut n) h r = r
  split_not_reading (ForbiddenAggregate id) h r = r
  split_not_reading (ForbiddenEncoding id) h r = r
  split_not_reading (TooLarge n) h r = r
  split_not_reading OutOfMemory h r = r
  split_not_reading (Stopped by name) h r = r

-- nothing stands
none_written : (p : Plan) → AreSome p []
none_written p = record { some = []; ascend = refl; within = λ x i. absurd i; bytes = refl }

module _ (s : Setting) (w : StrategyData) (t : Ty) (m : Bool) (passes : List ChunkData → ℕ → Type 0) (columns : List ChunkData → WriteError → Type 0) (first : ℕ) (faults faults_now : ℕ) (may must : ℕ → Type 0)
    (to_come to_come_now : Option (List ChunkData)) (before : Option (List (List ℕ))) (e : WriteError) where
  -- where nothing was written
  none_last : first ≤ max first (2 ^ 32)
  none_last = omega arith

  -- in the reading
  pub halted_reading : ReadStops t faults faults_now may must to_come to_come_now e → ColumnsHalted s w t m passes columns first first faults faults_now may must to_come to_come_now before before e
  halted_reading r = record {
    taken = r.taken;
    heard = false;
    told = r.told;
    stood = [];
    early = λ h. (stops_reading t r.taken e r.cause, refl);
    reads = λ h. refl;
    some = none_written (taken_plan s w t m r.taken false);
    stands = then_same before;
    numbers = sym (add-zero first);
    last = none_last;
    cause = read_cause t r.taken (passes r.taken) (taken_plan s w t m r.taken false) first e r.cause;
    whose = λ h. absurd (true≢false (sym h));
  }

  -- before the source is asked
  unasked : (n : ℕ) → n < answers_in {A = ChunkData} [] false → ⊥
  unasked n l = omega (arith, l)

  pub halted_unread : faults_now ≡ faults → to_come_now ≡ to_come → e ≡ OutOfMemory → ColumnsHalted s w t m passes columns first first faults faults_now may must to_come to_come_now before before e
  halted_unread kept left is = subst (λ (z : WriteError). ColumnsHalted s w t m passes columns first first faults faults_now may must to_come to_come_now before before z) (sym is) (record {
    taken = [];
    heard = false;
    told = record {
      came = told_same to_come ∙ ap (λ (z : Option (List ChunkData)). before_told [] z) (sym left);
      ended = λ h. absurd (true≢false (sym h));
      asked = record { counted = kept; allowed = λ h. absurd (true≢false (sym h)); passed = λ k l. absurd (unasked k l) };
    };
    stood = [];
    early = λ h. (tt, refl);
    reads = λ h. absurd h;
    some = none_written (taken_plan s w t m [] false);
    stands = then_same before;
    numbers = sym (add-zero first);
    last = none_last;
    cause = tt;
    whose = λ h. absurd (true≢false (sym h));
  })

  -- behind the source's end, whatever stands
  module _ (next : ℕ) (now : Option (List (List ℕ))) (taken : List ChunkData) (told : SourceTold faults faults_now may must to_come to_come_now taken true false) (typed : OfSchema t taken)
      (other : OfReading e → ⊥) (cause : HasColumnsCause t (passes taken) (source_plan s w t m taken true) taken first e) where
    pub halted_behind : (stood : List (List ℕ)) → (e ≡ OutOfMemory) ⊎ (SplitStops t taken e × (stood ≡ [])) ⊎ columns taken e → AreSome (source_plan s w t m taken true) stood → now ≡ then_told before stood → next ≡ first + length stood → next ≤ max first (2 ^ 32)
        → ColumnsHalted s w t m passes columns first next faults faults_now may must to_come to_come_now before now e
    halted_behind stood whose some stands numbers last = record {
      taken = taken;
      heard = true;
      told = subst (λ b. SourceTold faults faults_now may must to_come to_come_now taken true b) (sym (not_source e other)) told;
      stood = stood;
      early = λ h. absurd (true≢false h);
      reads = λ h. absurd (other h);
      some = subst (λ (z : Plan). AreSome z stood) (sym (taken_is s w t m taken true typed)) some;
      stands = stands;
      numbers = numbers;
      last = last;
      cause = subst (λ (z : Plan). HasColumnsCause t (passes taken) z taken first e) (sym (taken_is s w t m taken true typed)) cause;
      whose = λ h. whose;
    }

  -- before a column is written
  pub halted_whole : (v d : StrategyData) (ws : StrategyList) (fs : Tys) (n : Bool) → t ≡ struct fs n → dispatch w t ≡ structured v d ws → RefusedWhole t faults faults_now may must to_come to_come_now e
      → ColumnsHalted s w t m passes columns first first faults faults_now may must to_come to_come_now before before e
  halted_whole v d ws fs n is at_type r =
      halted_behind first before r.taken r.told r.typed (split_not_reading t r.taken e r.cause) (rows_cause t w s m r.taken (passes r.taken) first e v d ws fs n is at_type r.cause)
      [] (inr (inl (r.cause, refl))) (none_written (source_plan s w t m r.taken true)) (then_same before) (sym (add-zero first)) none_last

-- where nothing was prepared
module _ (s : Setting) (w : StrategyData) (t : Ty) (m : Bool) (passes : List ChunkData → ℕ → Type 0) (columns : List ChunkData → WriteError → Type 0) (first : ℕ) (faults faults_now : ℕ) (may must : ℕ → Type 0)
    (to_come to_come_now : Option (List ChunkData)) (before : Option (List (List ℕ))) (e : WriteError) where
  pub halted_unprepared : (v d : StrategyData) (ws : StrategyList) (count : ℕ) → columns_of t ≡ Some count → dispatch w t ≡ structured v d ws → PrepareStops t faults faults_now may must to_come to_come_now e
      → ColumnsHalted s w t m passes columns first first faults faults_now may must to_come to_come_now before before e
  halted_unprepared v d ws count is at_type (inl r) = halted_reading s w t m passes columns first faults faults_now may must to_come to_come_now before e r
  halted_unprepared v d ws count is at_type (inr r) =
      halted_whole s w t m passes columns first faults faults_now may must to_come to_come_now before e v d ws (struct_fields t) (nullable t) (struct_is t count is) at_type r

-- its refusal is neither the sink's nor a compressor's
module _ (t : Ty) (faults faults_now : ℕ) (may must : ℕ → Type 0) (to_come to_come_now : Option (List ChunkData)) (e : WriteError) where
  pub unprepared_not_sink : PrepareStops t faults faults_now may must to_come to_come_now e → e ≡ SinkFault → ⊥
  unprepared_not_sink (inl r) is = subst (λ (z : WriteError). StopsBehind t r.taken z) is r.cause
  unprepared_not_sink (inr r) is = subst (λ (z : WriteError). SplitStops t r.taken z) is r.cause

  pub unprepared_not_press : PrepareStops t faults faults_now may must to_come to_come_now e → e ≡ CompressFault → ⊥
  unprepared_not_press (inl r) is = subst (λ (z : WriteError). StopsBehind t r.taken z) is r.cause
  unprepared_not_press (inr r) is = subst (λ (z : WriteError). SplitStops t r.taken z) is r.cause

-- in the columns' writes
module _ (s : Setting) (v d : StrategyData) (ws : StrategyList) (m : Bool) (fs : Tys) (n : Bool) (bs : List ChunkData) (distinct : duplicate fs ≡ None)
    (w : StrategyData) (at_type : dispatch w (struct fs n) ≡ structured v d ws) where
  abbrev p : Plan
  p = source_plan s (structured v d ws) (struct fs n) m bs true

  abbrev xs : List Course
  xs = column_courses s fs n bs 0 (columns_by v d ws m fs n)

  abbrev Cause : ℕ → WriteError → Type 0
  Cause first e = HasColumnsCause (struct fs n) (PassesBeside s w (struct fs n) m bs) p bs first e × (OfReading e → ⊥)

  -- the columns' first refusal, in the struct's words
  module _ (first : ℕ) (tells : List End → Type 0) (e : WriteError) where
    abbrev Whose : Type 0
    Whose = (e ≡ OutOfMemory) ⊎ IsFirstOf (SharedPast first (length (allowed_by p.pairs))) tells xs e

    one_cause : Whose → Cause first e
    one_cause (inl is) = subst (λ (z : WriteError). Cause first z) (sym is) (tt, λ r. r)
    one_cause (inr h) = by (first_at (SharedPast first (length (allowed_by p.pairs))) e xs h.ends h.all h.first_is)
      where
        by : HasAt (SharedPast first (length (allowed_by p.pairs))) e xs → Cause first e
        by (k, x, there, own, c) = cause_beside s v d ws m fs n bs distinct w at_type first k x e there (subst (λ z. WorkerCause (SharedPast first z) x e) (length_allowed p.pairs) c) own

    first_here : {A : Type 0} → Whose → (e ≡ OutOfMemory) ⊎ A ⊎ IsFirstRefusal s w (struct fs n) m first tells bs e
    first_here (inl is) = inl is
    first_here (inr h) =
        let same : length (allowed_by p.pairs) ≡ length (source_plan s w (struct fs n) m bs true).pairs
        = length_allowed p.pairs ∙ ap (λ (z : Plan). length z.pairs) (sym (same_plan s v d ws m fs n bs distinct w at_type)) in
        inr (inr (subst (λ z. IsFirstOf (SharedPast first z) tells (courses_at s w (struct fs n) m bs) e) same
        (subst (λ (u : StrategyData). IsFirstOf (SharedPast first (length (allowed_by p.pairs))) tells (column_courses s fs n bs 0 (columns_in u (struct fs n) m)) e) (sym at_type) h)))

  pub halted_shared : (first next : ℕ) (faults faults_now : ℕ) (may must : ℕ → Type 0) (to_come to_come_now : Option (List ChunkData)) (before now : Option (List (List ℕ))) (tells : List End → Type 0) (e : WriteError)
      → SourceTold faults faults_now may must to_come to_come_now bs true false → OfSchema (struct fs n) bs → SharedStopped (allowed_by p.pairs) first next before now tells xs e
      → ColumnsHalted s w (struct fs n) m (PassesBeside s w (struct fs n) m) (IsFirstRefusal s w (struct fs n) m first tells) first next faults faults_now may must to_come to_come_now before now e
  halted_shared first next faults faults_now may must to_come to_come_now before now tells e told typed h =
      let c : Cause first e = one_cause first tells e h.whose in
      halted_behind s w (struct fs n) m (PassesBeside s w (struct fs n) m) (IsFirstRefusal s w (struct fs n) m first tells) first faults faults_now may must to_come to_come_now before e next now bs told typed c.1
      (subst (λ (z : Plan). HasColumnsCause (struct fs n) (PassesBeside s w (struct fs n) m bs) z bs first e) (sym (same_plan s v d ws m fs n bs distinct w at_type)) c.0)
      (stored (allowed_by p.pairs) h.history) (first_here first tells e h.whose) (some_written s v d ws m fs n bs distinct w at_type first next before now h.history h.stands)
      h.stands.stands (next_stored (allowed_by p.pairs) first next before now h.history h.stands) h.stands.last
