-- What is shown of a job that was written, and of one that was refused.
use Rattle.std.proofs.Common.{◌≡◌, ℕ, ◌+◌, ◌-◌, ◌≤◌, ◌^◌, max, Bool, true, false, List, [], ◌∷◌, ◌++◌, length, Option, Some, None, refl, sym, ap, subst, inl, inr, ◌∙◌, length-append, arith}
use Rattle.std.specs.Prelude.{map, option_map, IsTrue}
use Rattle.vx_chunk.specs.ChunkView.{piece}
use Rattle.vx_model.specs.Ty.{Ty}
use Rattle.vx_model.specs.ChunkData.{ChunkData}
use Rattle.vx_model.specs.ValueData.{ValueData}
use Rattle.vx_layout_spec.specs.LayoutTree.{LayoutData}
use Rattle.vx_layout_spec.specs.Rows.{rows, all_there}
use Rattle.vx_segment_reader.specs.Codec.{segment_codec}
use Rattle.vx_strategy_spec.specs.StrategyData.{StrategyData}
use Rattle.vx_plan.specs.PlanData.{Setting}
use Rattle.vx_plan.specs.SourcePlan.{of_schema, source_values}
use Rattle.vx_plan.specs.Number.{segments, segment_at}
use Rattle.vx_plan.specs.Valid.{Valid}
use Rattle.vx_fault.specs.Counts.{IsCalm}
use Rattle.vx_fault.specs.Fails.{fails_at}
use Rattle.vx_fault.specs.Faults.{FaultsTold}
use Rattle.vx_fault.specs.Told.{before_told}
use Rattle.vx_write.specs.Calls.{reads_in, appends_in, calls_in, misfits}
use Rattle.vx_write.specs.Readable.{IsReadable}
use Rattle.vx_write.specs.Traced.{Traced}
use Rattle.vx_write.specs.RefusedAct.{RefusedThere}
use Rattle.vx_write.specs.Written.{Planned, Wrote, AskedInSteps, Halted}
use Rattle.vx_run.proofs.MemoryWrites.{told_all, is_calm, never_listed}
use Rattle.vx_write_answer.specs.Causes.{is_source_fault, is_sink_fault, is_compress_fault}
use Rattle.vx_write_answer.specs.declared.step.Step.{Step}
use Rattle.vx_write_answer.specs.declared.error.WriteError.{WriteError}
use Rattle.vx_write_answer.specs.declared.error.WriteError.TheVariants as errors
use Rattle.vx_job.specs.JobParts.{FailingCalls}
use Rattle.vx_job.specs.JobText.{JobData}
use Rattle.vx_report.specs.Report.{report, refused_report}
use Rattle.vx_report.specs.ZoneText.{zone_tables}
use Rattle.vx_run.specs.declared.status.Status.{Status}
use Rattle.vx_run.specs.declared.status.Status.TheVariants.{Done, Refused}
use Rattle.vx_run.specs.RefusalNames.{refusal_name, is_memory}
use Rattle.vx_run.specs.Answers.{job_setting, job_plan, NoneFails, IsWritten, IsLet, Halts, JobAnswer, IsText}
use Rattle.vx_run.specs.Tables.{TablesThere, table_rows}
use Rattle.vx_run.proofs.ShapeSteps.{Shaped, written_shaped}
use Rattle.vx_run.proofs.TableSteps.{tables_there}

-- ---- what a write of a job starts from

pub record Start (j : JobData) (s : Setting) (t : Ty) (m : Bool) (first tracker : ℕ) (came : Option (List ChunkData)) (old : Option (List (List ℕ))) (schedule : List ℕ) : Type 0 where
  pub setting : s ≡ job_setting j
  pub schema : t ≡ j.schema
  pub marked : m ≡ j.options.marked
  pub numbers : first ≡ j.options.next
  pub counted : tracker ≡ 0
  pub batches : came ≡ Some j.batches
  pub none : old ≡ Some []
  pub picks : schedule ≡ j.options.schedule

-- which calls of the source, the sink and the compressor may fail, which must, and that none did before
pub record Failing (j : JobData) (may_source must_source may_sink must_sink may_press must_press : ℕ → Type 0) (source_before sink_before press_before : ℕ) : Type 0 where
  pub may_of_source : (k : ℕ) → may_source k → IsTrue (fails_at j.options.faults.source k)
  pub must_of_source : (k : ℕ) → IsTrue (fails_at j.options.faults.source k) → must_source k
  pub may_of_sink : (k : ℕ) → may_sink k → IsTrue (fails_at j.options.faults.sink k)
  pub must_of_sink : (k : ℕ) → IsTrue (fails_at j.options.faults.sink k) → must_sink k
  pub may_of_compressor : (k : ℕ) → may_press k → IsTrue (fails_at j.options.faults.compress k)
  pub must_of_compressor : (k : ℕ) → IsTrue (fails_at j.options.faults.compress k) → must_press k
  pub source_none : source_before ≡ 0
  pub sink_none : sink_before ≡ 0
  pub compressor_none : press_before ≡ 0

-- a chunk is seen as its piece
pub same_pieces : (xs : List ChunkData) → map piece xs ≡ xs
same_pieces [] = refl
same_pieces (x ∷ xs) = ap (λ (ys : List ChunkData). x ∷ ys) (same_pieces xs)

-- what it tells now is the rest
pub told_rest : (taken : List ChunkData) (a c : Option (List ChunkData)) (xs : List ChunkData) → a ≡ before_told taken c → a ≡ Some xs → (later : List ChunkData) × (c ≡ Some later)
told_rest taken a None xs e f = absurd (let g : None ≡ Some xs = sym e ∙ f in cc)
told_rest taken a (Some later) xs e f = (later, refl)

-- no call that passed is one that the job lets fail
none_fails : (j : JobData) {may_source must_source may_sink must_sink may_press must_press : ℕ → Type 0} {source_before source_now sink_before sink_now press_before press_now : ℕ} (asked appended called : ℕ) (of_source of_sink of_press : Bool)
    → Failing j may_source must_source may_sink must_sink may_press must_press source_before sink_before press_before
    → FaultsTold source_before source_now may_source must_source asked of_source → FaultsTold sink_before sink_now may_sink must_sink appended of_sink
    → FaultsTold press_before press_now may_press must_press called of_press → NoneFails j asked appended called
none_fails j asked appended called of_source of_sink of_press failing source sink press = record {
  source = λ k less listed. source.passed k less (failing.must_of_source k listed);
  sink = λ k less listed. sink.passed k less (failing.must_of_sink k listed);
  compressor = λ k less listed. press.passed k less (failing.must_of_compressor k listed);
}

-- ---- a job that was written

pub job_written : (j : JobData) (s : Setting) (t : Ty) (m : Bool) {first now tracker : ℕ} {came : Option (List ChunkData)} {old new : Option (List (List ℕ))} {l : LayoutData ℕ} {stored : List (List ℕ)} {schedule : List ℕ} {steps : List Step}
    {may_source must_source may_sink must_sink may_press must_press : ℕ → Type 0} {source_before source_now sink_before sink_now press_before press_now : ℕ} (of_source of_sink of_press : Bool)
    → Start j s t m first tracker came old schedule → Failing j may_source must_source may_sink must_sink may_press must_press source_before sink_before press_before → new ≡ Some stored
    → Planned s j.strategy t m came (Wrote t first now old new l) → Planned s j.strategy t m came (λ xs p. IsReadable s t first (segments p) l) → Traced s j.strategy t m came schedule steps → now ≡ first + appends_in steps
    → FaultsTold source_before source_now may_source must_source (reads_in steps) of_source → FaultsTold sink_before sink_now may_sink must_sink (now - first) of_sink
    → FaultsTold press_before press_now may_press must_press (calls_in steps) of_press
    → IsWritten j l stored steps
job_written j s t m {first} {now} {tracker} {came} {old} {new} {l} {stored} {schedule} {steps} {may_source} {must_source} {may_sink} {must_sink} {may_press} {must_press} {source_before} {source_now} {sink_before} {sink_now} of_source of_sink of_press start failing told wrote readable traced appended source sink press =
    let so = rw (start.setting, start.schema, start.marked, start.numbers) at (wrote j.batches start.batches) in
    let read = rw (start.setting, start.schema, start.marked, start.numbers) at (readable j.batches start.batches) in
    let by = rw (start.setting, start.schema, start.marked, start.picks) at (traced j.batches start.batches) in
    let all : stored ≡ segments (job_plan j) = told_all start.none told so.appended in
    let reached : now ≡ j.options.next + length stored = so.counted ∙ ap (λ (bs : List (List ℕ)). j.options.next + length bs) (sym all) in
    let count : now - first ≡ length stored = omega (arith, reached, start.numbers) in
    record {
      wrote = rw (reached, start.none, told) at so;
      readable = subst (λ (bs : List (List ℕ)). IsReadable (job_setting j) j.schema j.options.next bs l) (sym all) read;
      traced = by;
      appended = omega (arith, reached, start.numbers, appended);
      calls = none_fails j (length j.batches + 1) (length stored) (calls_in steps) of_source of_sink of_press failing
          (subst (λ n. FaultsTold source_before source_now may_source must_source n of_source) by.asked source) (subst (λ n. FaultsTold sink_before sink_now may_sink must_sink n of_sink) count sink) press;
    }

-- its zone tables are there
pub written_tables : (j : JobData) {l : LayoutData ℕ} {stored : List (List ℕ)} {steps : List Step} → IsWritten j l stored steps → TablesThere (segment_at j.options.next stored) l
written_tables j {l} {stored} w =
    tables_there (job_setting j) (segment_at j.options.next stored) refl l
    (subst Shaped (sym w.wrote.laid) (written_shaped (job_setting j) j.strategy j.schema j.options.marked j.batches true j.options.next)) w.readable.zones

-- the segments are those of the plan
stored_is : (j : JobData) {l : LayoutData ℕ} {stored : List (List ℕ)} {steps : List Step} → IsWritten j l stored steps → stored ≡ segments (job_plan j)
stored_is j w = told_all refl refl w.wrote.appended

pub written_rows : (j : JobData) {l : LayoutData ℕ} {stored : List (List ℕ)} {steps : List Step} → IsWritten j l stored steps
    → rows segment_codec (segment_at j.options.next stored) l ≡ Some (source_values j.batches)
written_rows j {l} w = ap (λ (bs : List (List ℕ)). rows segment_codec (segment_at j.options.next bs) l) (stored_is j w) ∙ w.wrote.read_back

-- its numbers fit
pub fitting : (first now : ℕ) (shown : List (List ℕ)) → now ≡ first + length shown → now ≤ max first (2 ^ 32) → first + length shown ≤ max first (2 ^ 32)
fitting first now shown count last = rw (← count) last

-- the report of what was written is the job's answer
pub report_answers : (j : JobData) {l : LayoutData ℕ} {stored : List (List ℕ)} {steps shown : List Step} {status : Status} {text : List ℕ} → shown ≡ steps → IsWritten j l stored steps
    → (status ≡ Done) × (Some (Some text) ≡ option_map (λ tables. option_map (report j.options.next l stored tables shown) (rows segment_codec (segment_at j.options.next stored) l)) (all_there (table_rows (segment_at j.options.next stored) (zone_tables l))))
    → JobAnswer j status text
report_answers j {l} {stored} {steps} {shown} {status} {text} same w h = by_tables (all_there (table_rows (segment_at j.options.next stored) (zone_tables l))) refl h.1
  where
    by_tables : (read : Option (List (List ValueData))) → all_there (table_rows (segment_at j.options.next stored) (zone_tables l)) ≡ read
        → Some (Some text) ≡ option_map (λ tables. option_map (report j.options.next l stored tables shown) (rows segment_codec (segment_at j.options.next stored) l)) read → JobAnswer j status text
    by_tables None is printed = absurd (let f : Some (Some text) ≡ None = printed in cc)
    by_tables (Some tables) is printed =
        let whole : Some text ≡ Some (report j.options.next l stored tables steps (source_values j.batches)) = (let e : Some (Some text) ≡ Some (Some (report j.options.next l stored tables steps (source_values j.batches))) = rw (same, written_rows j w) at printed in cc) in
        let text_is : text ≡ report j.options.next l stored tables steps (source_values j.batches) = cc in
        subst (λ (st : Status). JobAnswer j st text) (sym h.0) (record { layout = l; stored = stored; steps = steps; written = w; tables = tables; tables_read = is; shown = text_is })

-- ---- a job that was refused

-- the source failed before its end was told
unheard : (s : Setting) (w : StrategyData) (t : Ty) (m : Bool) (tracker : ℕ) (batches : List ChunkData) (heard : Bool) (next : ℕ) (schedule : List ℕ) (steps : List Step) (e : WriteError)
    → RefusedThere s w t m tracker batches heard next schedule steps e → IsTrue (is_source_fault e) → heard ≡ false
unheard s w t m tracker batches heard next schedule steps errors.SourceFault (inl h) is = absurd h.0
unheard s w t m tracker batches heard next schedule steps errors.SourceFault (inr (a, h)) is = h.2
unheard s w t m tracker batches heard next schedule steps e h is = absurd (let f : false ≡ true = is in cc)

-- and behind as many answers as batches were taken
answers_before : (taken : List ChunkData) (heard : Bool) (steps : List Step) (e : WriteError) → AskedInSteps taken heard steps e → heard ≡ false → IsTrue (is_source_fault e) → reads_in steps + misfits e ≡ length taken
answers_before taken true steps errors.SourceFault (inl h) still is = absurd (let f : true ≡ false = still in cc)
answers_before taken false steps errors.SourceFault (inl h) still is = omega (arith, h)
answers_before taken heard steps errors.SourceFault (inr h) still is = absurd h.0
answers_before taken heard steps e h still is = absurd (let f : false ≡ true = is in cc)

-- which are some of the job's
pub taken_within : (taken later xs : List ChunkData) (a c : Option (List ChunkData)) → a ≡ before_told taken c → a ≡ Some xs → c ≡ Some later → length taken ≤ length xs
taken_within taken later xs a c came is rest =
    let e : Some xs ≡ Some (taken ++ later) = sym is ∙ (came ∙ ap (before_told taken) rest) in
    let same : xs ≡ taken ++ later = cc in
    omega (arith, ap (λ (ys : List ChunkData). length ys) same, length-append taken later)

is_let : (e : WriteError) (j : JobData) (asked appended called : ℕ) → is_memory e ≡ false → (IsTrue (is_source_fault e) → IsTrue (fails_at j.options.faults.source asked) × (asked ≤ length j.batches))
    → (IsTrue (is_sink_fault e) → IsTrue (fails_at j.options.faults.sink appended)) → (IsTrue (is_compress_fault e) → IsTrue (fails_at j.options.faults.compress called)) → IsLet j asked appended called e
is_let errors.SourceFault j asked appended called memory of_source of_sink of_press = of_source refl
is_let errors.SinkFault j asked appended called memory of_source of_sink of_press = of_sink refl
is_let errors.CompressFault j asked appended called memory of_source of_sink of_press = of_press refl
is_let errors.OutOfMemory j asked appended called memory of_source of_sink of_press = absurd (let f : true ≡ false = memory in cc)
is_let e j asked appended called memory of_source of_sink of_press = tt

-- What a refused write of a job is known by.
pub record RefusedWrite (j : JobData) (e : WriteError) (s : Setting) (t : Ty) (m : Bool) (first now tracker : ℕ) (a c : Option (List ChunkData)) (old new : Option (List (List ℕ))) (schedule : List ℕ) (steps : List Step)
    (may_source must_source may_sink must_sink may_press must_press : ℕ → Type 0) (source_before source_now sink_before sink_now press_before press_now : ℕ) : Type 0 where
  pub start : Start j s t m first tracker a old schedule
  pub failing : Failing j may_source must_source may_sink must_sink may_press must_press source_before sink_before press_before
  pub halted : Halted s j.strategy t m tracker first now a c old new schedule steps e
  pub source : FaultsTold source_before source_now may_source must_source (reads_in steps + misfits e) (is_source_fault e)
  pub sink : FaultsTold sink_before sink_now may_sink must_sink (now - first) (is_sink_fault e)
  pub compressor : FaultsTold press_before press_now may_press must_press (calls_in steps) (is_compress_fault e)
  pub appended : now ≡ first + appends_in steps
  pub complete : (xs : List ChunkData) → a ≡ Some xs → Valid s j.strategy t m first tracker xs → IsCalm source_before source_now → IsCalm sink_before sink_now → IsCalm press_before press_now → e ≡ errors.OutOfMemory

pub job_refused : (j : JobData) (e : WriteError) {s : Setting} {t : Ty} {m : Bool} {first now tracker : ℕ} {a c : Option (List ChunkData)} {old new : Option (List (List ℕ))} {stand : List (List ℕ)} {schedule : List ℕ} {steps : List Step}
    {may_source must_source may_sink must_sink may_press must_press : ℕ → Type 0} {source_before source_now sink_before sink_now press_before press_now : ℕ} → new ≡ Some stand
    → RefusedWrite j e s t m first now tracker a c old new schedule steps may_source must_source may_sink must_sink may_press must_press source_before source_now sink_before sink_now press_before press_now → Halts j e stand steps
job_refused j e {s} {t} {m} {first} {now} {tracker} {a} {c} {old} {new} {stand} {schedule} {steps} {may_source} {must_source} {may_sink} {must_sink} {may_press} {must_press} {source_before} {source_now} {sink_before} {sink_now} {press_before} {press_now} told w memory =
    let start = w.start in
    let rest = told_rest w.halted.stand.taken a c j.batches w.halted.stand.came start.batches in
    let stood : stand ≡ w.halted.stand.appended = told_all start.none told w.halted.stand.stands in
    let reached : now ≡ j.options.next + length stand =
    w.halted.stand.numbers ∙ (ap (λ n. n + length w.halted.stand.appended) start.numbers ∙ ap (λ (bs : List (List ℕ)). j.options.next + length bs) (sym stood)) in
    let count : now - first ≡ length stand = omega (arith, reached, start.numbers) in
    let sink = subst (λ n. FaultsTold sink_before sink_now may_sink must_sink n (is_sink_fault e)) count w.sink in
    let of_source : IsTrue (is_source_fault e) → IsTrue (fails_at j.options.faults.source (reads_in steps + misfits e)) = λ is. w.failing.may_of_source (reads_in steps + misfits e) (w.source.allowed is) in
    let within : IsTrue (is_source_fault e) → reads_in steps + misfits e ≤ length j.batches = λ is.
    (let still : w.halted.heard ≡ false = unheard s j.strategy t m tracker (of_schema t w.halted.stand.taken) w.halted.heard now schedule steps e w.halted.refused is in
    omega (arith, answers_before w.halted.stand.taken w.halted.heard steps e w.halted.asked still is, taken_within w.halted.stand.taken rest.0 j.batches a c w.halted.stand.came start.batches rest.1)) in
    let of_sink : IsTrue (is_sink_fault e) → IsTrue (fails_at j.options.faults.sink (length stand)) = λ is. w.failing.may_of_sink (length stand) (sink.allowed is) in
    let of_press : IsTrue (is_compress_fault e) → IsTrue (fails_at j.options.faults.compress (calls_in steps)) = λ is. w.failing.may_of_compressor (calls_in steps) (w.compressor.allowed is) in
    record {
      later = rest.0;
      halted = rw (start.setting, start.schema, start.marked, start.counted, start.numbers, reached, start.batches, rest.1, start.none, told, start.picks) at w.halted;
      calls = none_fails j (reads_in steps + misfits e) (length stand) (calls_in steps) (is_source_fault e) (is_sink_fault e) (is_compress_fault e) w.failing w.source sink w.compressor;
      appended = omega (arith, reached, start.numbers, w.appended);
      let_fail = is_let e j (reads_in steps + misfits e) (length stand) (calls_in steps) memory (λ is. (of_source is, within is)) of_sink of_press;
      not_valid = λ no_faults valid.
          (let out = w.complete j.batches start.batches (rw (start.setting, start.schema, start.marked, start.numbers, start.counted) valid)
          (is_calm (is_source_fault e) w.failing.source_none (λ h. never_listed j.options.faults.source (reads_in steps + misfits e) (ap (λ (f : FailingCalls). f.source) no_faults) (w.failing.may_of_source (reads_in steps + misfits e) h)) w.source)
          (is_calm (is_sink_fault e) w.failing.sink_none (λ h. never_listed j.options.faults.sink (length stand) (ap (λ (f : FailingCalls). f.sink) no_faults) (w.failing.may_of_sink (length stand) h)) sink)
          (is_calm (is_compress_fault e) w.failing.compressor_none (λ h. never_listed j.options.faults.compress (calls_in steps) (ap (λ (f : FailingCalls). f.compress) no_faults) (w.failing.may_of_compressor (calls_in steps) h)) w.compressor) in
          let f : true ≡ false = ap is_memory (sym out) ∙ memory in cc);
    }

pub refused_fits : (j : JobData) {e : WriteError} {s : Setting} {t : Ty} {m : Bool} {tracker first now : ℕ} {a c : Option (List ChunkData)} {old new : Option (List (List ℕ))} {stand : List (List ℕ)} {schedule : List ℕ} {steps : List Step}
    → first ≡ j.options.next → old ≡ Some [] → new ≡ Some stand → Halted s j.strategy t m tracker first now a c old new schedule steps e → now ≤ max first (2 ^ 32)
    → j.options.next + length stand ≤ max j.options.next (2 ^ 32)
refused_fits j {first = first} {now = now} {stand = stand} numbers none told halted last =
    let stood : stand ≡ halted.stand.appended = told_all none told halted.stand.stands in
    fitting j.options.next now stand
    (halted.stand.numbers ∙ (ap (λ n. n + length halted.stand.appended) numbers ∙ ap (λ (bs : List (List ℕ)). j.options.next + length bs) (sym stood))) (rw numbers at last)

pub written_fits : (j : JobData) {l : LayoutData ℕ} {stored : List (List ℕ)} {steps : List Step} {first now : ℕ} → first ≡ j.options.next → IsWritten j l stored steps → now ≡ first + appends_in steps → now ≤ max first (2 ^ 32)
    → j.options.next + length stored ≤ max j.options.next (2 ^ 32)
written_fits j {stored = stored} {first = first} {now = now} numbers w appended last =
    fitting j.options.next now stored (omega (arith, numbers, w.appended, appended)) (rw numbers at last)

-- the refused report is the job's answer
pub refusal_answers : (j : JobData) (e : WriteError) {stand : List (List ℕ)} {steps shown : List Step} {status : Status} {text : List ℕ} → shown ≡ steps → Halts j e stand steps
    → (is_memory e ≡ false) × IsText Refused (refused_report (refusal_name e) j.options.next stand shown) status text → JobAnswer j status text
refusal_answers j e {stand} {steps} {shown} {status} {text} same halts h =
    subst (λ (st : Status). JobAnswer j st text) (sym h.1.0) (record { error = e; stand = stand; steps = steps; refused = halts h.0; shown = h.1.1 ∙ ap (refused_report (refusal_name e) j.options.next stand) same })
