-- What is shown of a job that was written by columns, and of one that was refused.
use Rattle.std.proofs.Common.{◌≡◌, ℕ, suc, ◌+◌, ◌<◌, ◌≤◌, ◌^◌, max, Bool, true, false, IsTrue, List, [], ◌∷◌, ◌++◌, length, All, Option, Some, None, refl, sym, ap, subst, ◌⊎◌, inl, inr, if◌then◌else◌, ◌∙◌, length-append, arith}
use Rattle.std.specs.Prelude.{option_map}
use Rattle.vx_path.proofs.Sort.{length-sort_by}
use Rattle.vx_model.specs.Ty.{Ty}
use Rattle.vx_model.specs.ChunkData.{ChunkData}
use Rattle.vx_model.specs.ValueData.{ValueData}
use Rattle.vx_layout_spec.specs.LayoutTree.{LayoutData}
use Rattle.vx_layout_spec.specs.Rows.{rows, all_there}
use Rattle.vx_segment_reader.specs.Codec.{segment_codec}
use Rattle.vx_strategy_spec.specs.StrategyData.{StrategyData}
use Rattle.vx_plan.specs.PlanData.{Setting, Pair, Plan, stored}
use Rattle.vx_plan.specs.SourcePlan.{source_values}
use Rattle.vx_plan.specs.Number.{path_of, sorted, segments, segment_at}
use Rattle.vx_plan.specs.Valid.{Valid}
use Rattle.vx_fault.specs.Counts.{IsCalm}
use Rattle.vx_fault.specs.Fails.{fails_at}
use Rattle.vx_fault.specs.Told.{before_told, NoneTold}
use Rattle.vx_write_columns.specs.Readable.{IsReadable}
use Rattle.vx_write_columns.specs.Written.{Planned, Wrote}
use Rattle.vx_write_answer.specs.Causes.{is_source_fault}
use Rattle.vx_write_answer.specs.declared.error.WriteError.{WriteError}
use Rattle.vx_write_answer.specs.declared.error.WriteError.TheVariants as errors
use Rattle.vx_column_inputs.specs.Reading.{SourceTold}
use Rattle.vx_write_columns.specs.Beside.{PassesBeside}
use Rattle.vx_write_columns.specs.Ends.{IsFirstRefusal, EndsTell}
use Rattle.vx_write_columns.specs.Stopped.{OfReading, ReadWhole, ColumnsHalted, SinkFailed, CompressorFailed, KeptOrFailed, AllKeptOrFailed, AllCalm}
use Rattle.vx_job.specs.JobParts.{FailingCalls}
use Rattle.vx_job.specs.JobText.{JobData}
use Rattle.vx_report.specs.Report.{columns_report, refused_columns}
use Rattle.vx_report.specs.ZoneText.{zone_tables}
use Rattle.vx_run.specs.declared.status.Status.{Status}
use Rattle.vx_run.specs.declared.status.Status.TheVariants.{Done, Refused}
use Rattle.vx_run.specs.RefusalNames.{refusal_name, is_memory}
use Rattle.vx_run.specs.Answers.{job_setting, job_plan, IsText}
use Rattle.vx_run.specs.Tables.{TablesThere, table_rows}
use Rattle.vx_run.proofs.JobSteps.{told_rest, taken_within, fitting}
use Rattle.vx_run.proofs.MemoryWrites.{told_all, is_calm, never_listed}
use Rattle.vx_run.proofs.ShapeSteps.{Shaped, written_shaped}
use Rattle.vx_run.proofs.TableSteps.{tables_there}
use Rattle.vx_run_columns.specs.BesideAnswers.{HasColumns, FailsReading, IsWrittenBeside, IsLetBeside, IsFirstBeside, HaltsBeside, JobAnswerBeside}
use Rattle.vx_run_columns.specs.Compressors.{FailsBy}
use Rattle.vx_run_columns.proofs.Failing.{some_listed, never_by, calm_kept, all_calm, failed_listed}
use Rattle.vx_run_columns.proofs.Ending.{ended_let}

-- ---- what a write of a job starts from

pub record Start (j : JobData) (s : Setting) (t : Ty) (m : Bool) (first : ℕ) (came : Option (List ChunkData)) (old : Option (List (List ℕ))) : Type 0 where
  pub setting : s ≡ job_setting j
  pub schema : t ≡ j.schema
  pub marked : m ≡ j.options.marked
  pub numbers : first ≡ j.options.next
  pub batches : came ≡ Some j.batches
  pub none : old ≡ Some []

-- which calls of the source, the sink and the compressors may fail, which of the source must, and that none did before
pub record Failing {C : Type 0} (j : JobData) (may_source must_source may_sink : ℕ → Type 0) (source_before sink_before : ℕ) (faults : C → ℕ) (may : C → ℕ → Type 0) (compressors : List C) : Type 0 where
  pub may_of_source : (k : ℕ) → may_source k → FailsReading j k
  pub must_of_source : (k : ℕ) → FailsReading j k → must_source k
  pub may_of_sink : (k : ℕ) → may_sink k → IsTrue (fails_at j.options.faults.sink k)
  pub source_none : source_before ≡ 0
  pub sink_none : sink_before ≡ 0
  pub compressors_by : All (λ c. FailsBy j.options.faults.compress (faults c) (may c)) compressors

-- ---- a job that was written

-- all batches were taken
all_taken : (taken xs : List ChunkData) (a c : Option (List ChunkData)) → a ≡ before_told taken c → a ≡ Some xs → NoneTold c → length xs ≤ length taken
all_taken taken xs a None came is none = absurd (let f : None ≡ Some xs = sym came ∙ is in cc)
all_taken taken xs a (Some later) came is none =
    let e : Some xs ≡ Some (taken ++ later) = sym is ∙ came in
    let same : xs ≡ taken ++ later = cc in
    let nothing : length later ≡ 0 = ap (λ (ys : List ChunkData). length ys) none in
    omega (arith, ap (λ (ys : List ChunkData). length ys) same, length-append taken later)

-- the source was asked for each, and for its end
all_asked : (j : JobData) {a c : Option (List ChunkData)} {faults faults_now : ℕ} {may must : ℕ → Type 0} → a ≡ Some j.batches → ((k : ℕ) → FailsReading j k → must k)
    → ReadWhole faults faults_now may must a c → (k : ℕ) → k < length j.batches + 1 → ¬ (FailsReading j k)
all_asked j {a} {c} batches must_of_source whole k less listed =
    let all = all_taken whole.0 j.batches a c whole.1.came batches (whole.1.ended refl) in
    whole.1.asked.passed k (omega (arith, less, all)) (must_of_source k listed)

pub job_written : (j : JobData) (s : Setting) (t : Ty) (m : Bool) {first now : ℕ} {a c : Option (List ChunkData)} {old new : Option (List (List ℕ))} {l : LayoutData ℕ} {stored : List (List ℕ)} {faults faults_now : ℕ} {may must : ℕ → Type 0}
    → Start j s t m first a old → ((k : ℕ) → FailsReading j k → must k) → new ≡ Some stored
    → Planned s j.strategy t m a (Wrote t first now old new l) → Planned s j.strategy t m a (λ xs p. IsReadable s t first (segments p) l)
    → ReadWhole faults faults_now may must a c → IsWrittenBeside j l stored
job_written j s t m {first} {now} {a} {c} {old} {new} {l} {stored} start must_of_source told wrote readable whole =
    let so = rw (start.setting, start.schema, start.marked, start.numbers) at (wrote j.batches start.batches) in
    let read = rw (start.setting, start.schema, start.marked, start.numbers) at (readable j.batches start.batches) in
    let all : stored ≡ segments (job_plan j) = told_all start.none told so.appended in
    let reached : now ≡ j.options.next + length stored = so.counted ∙ ap (λ (bs : List (List ℕ)). j.options.next + length bs) (sym all) in
    record {
      wrote = rw (reached, start.none, told) at so;
      readable = subst (λ (bs : List (List ℕ)). IsReadable (job_setting j) j.schema j.options.next bs l) (sym all) read;
      asked = all_asked j start.batches must_of_source whole;
    }

-- its zone tables are there
pub written_tables : (j : JobData) {l : LayoutData ℕ} {stored : List (List ℕ)} → IsWrittenBeside j l stored → TablesThere (segment_at j.options.next stored) l
written_tables j {l} {stored} w =
    tables_there (job_setting j) (segment_at j.options.next stored) refl l
    (subst Shaped (sym w.wrote.laid) (written_shaped (job_setting j) j.strategy j.schema j.options.marked j.batches true j.options.next)) w.readable.zones

-- the segments are those of the plan
stored_is : (j : JobData) {l : LayoutData ℕ} {stored : List (List ℕ)} → IsWrittenBeside j l stored → stored ≡ segments (job_plan j)
stored_is j w = told_all refl refl w.wrote.appended

pub written_rows : (j : JobData) {l : LayoutData ℕ} {stored : List (List ℕ)} → IsWrittenBeside j l stored
    → rows segment_codec (segment_at j.options.next stored) l ≡ Some (source_values j.batches)
written_rows j {l} w = ap (λ (bs : List (List ℕ)). rows segment_codec (segment_at j.options.next bs) l) (stored_is j w) ∙ w.wrote.read_back

stored_length : (ps : List Pair) → length (stored ps) ≡ length ps
stored_length [] = refl
stored_length (p ∷ ps) = ap suc (stored_length ps)

-- as many as the plan has pairs
segments_length : (p : Plan) → length (segments p) ≡ length p.pairs
segments_length p = stored_length (sorted p.pairs) ∙ length-sort_by path_of p.pairs

-- their numbers fit
pub written_fits : (j : JobData) {l : LayoutData ℕ} {stored : List (List ℕ)} → IsWrittenBeside j l stored → j.options.next + length stored ≤ max j.options.next (2 ^ 32)
written_fits j {stored = stored} w =
    let count : length stored ≡ length (job_plan j).pairs = ap (λ (bs : List (List ℕ)). length bs) (stored_is j w) ∙ segments_length (job_plan j) in
    rw count w.wrote.valid.numbered

-- the report of what was written is the job's answer
pub report_answers : (j : JobData) {l : LayoutData ℕ} {stored : List (List ℕ)} {status : Status} {text : List ℕ} → HasColumns j → IsWrittenBeside j l stored
    → (status ≡ Done) × (Some (Some text) ≡ option_map (λ tables. option_map (columns_report j.options.next l stored tables) (rows segment_codec (segment_at j.options.next stored) l)) (all_there (table_rows (segment_at j.options.next stored) (zone_tables l))))
    → JobAnswerBeside j status text
report_answers j {l} {stored} {status} {text} columns w h = by_tables (all_there (table_rows (segment_at j.options.next stored) (zone_tables l))) refl h.1
  where
    by_tables : (read : Option (List (List ValueData))) → all_there (table_rows (segment_at j.options.next stored) (zone_tables l)) ≡ read
        → Some (Some text) ≡ option_map (λ tables. option_map (columns_report j.options.next l stored tables) (rows segment_codec (segment_at j.options.next stored) l)) read → JobAnswerBeside j status text
    by_tables None is printed = absurd (let f : Some (Some text) ≡ None = printed in cc)
    by_tables (Some tables) is printed =
        let whole : Some text ≡ Some (columns_report j.options.next l stored tables (source_values j.batches)) = (let e : Some (Some text) ≡ Some (Some (columns_report j.options.next l stored tables (source_values j.batches))) = rw (written_rows j w) at printed in cc) in
        let text_is : text ≡ columns_report j.options.next l stored tables (source_values j.batches) = cc in
        subst (λ (st : Status). JobAnswerBeside j st text) (sym h.0) (columns, record { layout = l; stored = stored; written = w; tables = tables; tables_read = is; shown = text_is })

-- ---- a job that was refused

-- what is told of the source, by the calls that the job lets fail
source_by : {faults faults_now : ℕ} {may must may_then must_then : ℕ → Type 0} {a c : Option (List ChunkData)} {taken : List ChunkData} {heard failed : Bool}
    → ((k : ℕ) → may k → may_then k) → ((k : ℕ) → must_then k → must k) → SourceTold faults faults_now may must a c taken heard failed → SourceTold faults faults_now may_then must_then a c taken heard failed
source_by more fewer h = record {
  came = h.came;
  ended = h.ended;
  asked = record { counted = h.asked.counted; allowed = λ is. more _ (h.asked.allowed is); passed = λ k less must. h.asked.passed k less (fewer k must) };
}

-- behind the source's end
whose_by : {A B C D : Type 0} → (C → D) → A ⊎ (B ⊎ C) → A ⊎ (B ⊎ D)
whose_by f (inl a) = inl a
whose_by f (inr (inl b)) = inr (inl b)
whose_by f (inr (inr c)) = inr (inr (f c))

halted_by : {s : Setting} {w : StrategyData} {t : Ty} {m : Bool} {passes : List ChunkData → ℕ → Type 0} {columns columns_then : List ChunkData → WriteError → Type 0} {first now : ℕ} {faults faults_now : ℕ} {may must may_then must_then : ℕ → Type 0}
    {a c : Option (List ChunkData)} {old new : Option (List (List ℕ))} {e : WriteError}
    → ColumnsHalted s w t m passes columns first now faults faults_now may must a c old new e
    → ((k : ℕ) → may k → may_then k) → ((k : ℕ) → must_then k → must k) → ((taken : List ChunkData) → columns taken e → columns_then taken e)
    → ColumnsHalted s w t m passes columns_then first now faults faults_now may_then must_then a c old new e
halted_by h more fewer ended = record {
  taken = h.taken;
  heard = h.heard;
  told = source_by more fewer h.told;
  stood = h.stood;
  early = h.early;
  reads = h.reads;
  some = h.some;
  stands = h.stands;
  numbers = h.numbers;
  last = h.last;
  cause = h.cause;
  whose = λ heard. whose_by (ended h.taken) (h.whose heard);
}

-- a source fails behind as many answers as batches were taken
fails_behind : (taken : List ChunkData) (heard : Bool) (e : WriteError) (may : ℕ → Type 0) → (OfReading e → heard ≡ false) → (IsTrue (is_source_fault e) → may (length taken + (if heard then 1 else 0))) → e ≡ errors.SourceFault → may (length taken)
fails_behind taken heard e may reads failed is = by_heard heard (reads (subst OfReading (sym is) tt)) (failed (ap is_source_fault is))
  where
    by_heard : (b : Bool) → b ≡ false → may (length taken + (if b then 1 else 0)) → may (length taken)
    by_heard true not h = absurd (let f : true ≡ false = not in cc)
    by_heard false not h = let same : length taken + 0 ≡ length taken = omega arith in subst may same h

is_let : (e : WriteError) (j : JobData) (taken : ℕ) → is_memory e ≡ false → (e ≡ errors.SourceFault → FailsReading j taken × (taken ≤ length j.batches))
    → (e ≡ errors.SinkFault → (k : ℕ) × IsTrue (fails_at j.options.faults.sink k)) → (e ≡ errors.CompressFault → (k : ℕ) × IsTrue (fails_at j.options.faults.compress k)) → IsLetBeside j taken e
is_let errors.SourceFault j taken memory of_source of_sink of_press = of_source refl
is_let errors.SinkFault j taken memory of_source of_sink of_press = of_sink refl
is_let errors.CompressFault j taken memory of_source of_sink of_press = of_press refl
is_let errors.OutOfMemory j taken memory of_source of_sink of_press = absurd (let f : true ≡ false = memory in cc)
is_let e j taken memory of_source of_sink of_press = tt

faults_let : (j : JobData) (e : WriteError) {s : Setting} {w : StrategyData} {t : Ty} {m : Bool} {passes : List ChunkData → ℕ → Type 0} {columns : List ChunkData → WriteError → Type 0} {first now faults : ℕ} {later : List ChunkData} {old new : Option (List (List ℕ))}
    → (h : ColumnsHalted s w t m passes columns first now 0 faults (FailsReading j) (FailsReading j) (Some j.batches) (Some later) old new e) → is_memory e ≡ false
    → (e ≡ errors.SinkFault → (k : ℕ) × IsTrue (fails_at j.options.faults.sink k)) → (e ≡ errors.CompressFault → (k : ℕ) × IsTrue (fails_at j.options.faults.compress k)) → IsLetBeside j (length h.taken) e
faults_let j e {later = later} h memory of_sink of_press =
    is_let e j (length h.taken) memory
    (λ fault. (fails_behind h.taken h.heard e (FailsReading j) h.reads h.told.asked.allowed fault, taken_within h.taken later j.batches (Some j.batches) (Some later) h.told.came refl refl)) of_sink of_press

-- What a refused write of a job is known by.
pub record RefusedWrite {C : Type 0} (j : JobData) (e : WriteError) (s : Setting) (t : Ty) (m : Bool) (first now : ℕ) (a c : Option (List ChunkData)) (old new : Option (List (List ℕ)))
    (may_source must_source may_sink : ℕ → Type 0) (source_before source_now sink_before sink_now : ℕ) (faults : C → ℕ) (may : C → ℕ → Type 0) (compressors back : List C) : Type 0 where
  pub start : Start j s t m first a old
  pub failing : Failing j may_source must_source may_sink source_before sink_before faults may compressors
  pub halted : ColumnsHalted s j.strategy t m (PassesBeside s j.strategy t m) (IsFirstRefusal s j.strategy t m first (EndsTell sink_before sink_now may_sink faults may compressors back)) first now source_before source_now may_source must_source a c old new e
  pub sink : e ≡ errors.SinkFault → SinkFailed sink_before sink_now may_sink
  pub sink_told : KeptOrFailed sink_before sink_now may_sink
  pub compressor : e ≡ errors.CompressFault → CompressorFailed faults may compressors back
  pub compressors_told : AllKeptOrFailed faults may compressors back
  pub complete : (xs : List ChunkData) → a ≡ Some xs → Valid s j.strategy t m first 0 xs → IsCalm source_before source_now → IsCalm sink_before sink_now → AllCalm faults compressors back → e ≡ errors.OutOfMemory

module _ {C : Type 0} (j : JobData) (e : WriteError) {s : Setting} {t : Ty} {m : Bool} {first now : ℕ} {a c : Option (List ChunkData)} {old new : Option (List (List ℕ))}
    {may_source must_source may_sink : ℕ → Type 0} {source_before source_now sink_before sink_now : ℕ} {faults : C → ℕ} {may : C → ℕ → Type 0} {compressors back : List C}
    (w : RefusedWrite j e s t m first now a c old new may_source must_source may_sink source_before source_now sink_before sink_now faults may compressors back) where
  -- where the job lets no call fail, it isn't valid
  no_faults_calm : is_memory e ≡ false → j.options.faults.source ≡ [] → j.options.faults.sink ≡ [] → j.options.faults.compress ≡ [] → ¬ (Valid s j.strategy t m first 0 j.batches)
  no_faults_calm memory source sink press valid =
      let out = w.complete j.batches w.start.batches valid
      (is_calm (is_source_fault e) w.failing.source_none (λ h. never_listed j.options.faults.source _ source (w.failing.may_of_source _ h)) w.halted.told.asked)
      (calm_kept w.failing.sink_none (never_by j.options.faults.sink w.failing.may_of_sink sink) w.sink_told)
      (all_calm faults may j.options.faults.compress compressors back press w.failing.compressors_by w.compressors_told) in
      let f : true ≡ false = ap is_memory (sym out) ∙ memory in
      cc

  reached : {stand : List (List ℕ)} → new ≡ Some stand → now ≡ j.options.next + length stand
  reached {stand} told =
      let stood : stand ≡ w.halted.stood = told_all w.start.none told w.halted.stands in
      w.halted.numbers ∙ (ap (λ n. n + length w.halted.stood) w.start.numbers ∙ ap (λ (bs : List (List ℕ)). j.options.next + length bs) (sym stood))

  pub job_refused : {stand : List (List ℕ)} → new ≡ Some stand → HaltsBeside j e stand
  job_refused {stand} told memory =
      let start = w.start in
      let rest = told_rest w.halted.taken a c j.batches w.halted.told.came start.batches in
      let told_here = rw (start.setting, start.schema, start.marked, start.numbers, reached told, w.failing.source_none, start.batches, rest.1, start.none, told) at w.halted in
      let halted = halted_by {columns_then = IsFirstBeside j} told_here w.failing.may_of_source w.failing.must_of_source
      (λ taken first. ended_let j faults may compressors back w.failing.may_of_sink w.failing.compressors_by taken e first) in
      record {
        later = rest.0;
        faults = source_now;
        halted = halted;
        let_fail = faults_let j e halted memory (λ fault. some_listed j.options.faults.sink w.failing.may_of_sink (w.sink fault).1)
            (λ fault. failed_listed faults may j.options.faults.compress compressors back w.failing.compressors_by (w.compressor fault));
        not_valid = λ no_faults valid.
            no_faults_calm memory (ap (λ (f : FailingCalls). f.source) no_faults) (ap (λ (f : FailingCalls). f.sink) no_faults) (ap (λ (f : FailingCalls). f.compress) no_faults)
            (rw (start.setting, start.schema, start.marked, start.numbers) valid);
      }

  -- the numbers of the segments that stand fit
  pub refused_fits : {stand : List (List ℕ)} → new ≡ Some stand → j.options.next + length stand ≤ max j.options.next (2 ^ 32)
  refused_fits {stand} told = fitting j.options.next now stand (reached told) (rw w.start.numbers at w.halted.last)

-- the refused report is the job's answer
pub refusal_answers : (j : JobData) (e : WriteError) {stand : List (List ℕ)} {status : Status} {text : List ℕ} → HasColumns j → HaltsBeside j e stand
    → (is_memory e ≡ false) × IsText Refused (refused_columns (refusal_name e) j.options.next stand) status text → JobAnswerBeside j status text
refusal_answers j e {stand} {status} {text} columns halts h =
    subst (λ (st : Status). JobAnswerBeside j st text) (sym h.1.0) (columns, record { error = e; stand = stand; refused = halts h.0; shown = h.1.1 })
