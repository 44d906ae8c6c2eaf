-- What a write by the machine answers, against the plan.
use Rattle.std.specs.Prelude.{◌≡◌, ℕ, ◌+◌, ◌^◌, ◌<◌, ◌≤◌, ◌⊎◌, max, Bool, true, false, List, [], ◌++◌, length, Option, Some}
use Rattle.vx_model.specs.Ty.{Ty}
use Rattle.vx_model.specs.ChunkData.{ChunkData, piece_type}
use Rattle.vx_fault.specs.Told.{before_told, then_told, NoneTold, answers_in, TookLast}
use Rattle.vx_layout_spec.specs.LayoutTree.{LayoutData}
use Rattle.vx_layout_spec.specs.Rows.{rows}
use Rattle.vx_segment_reader.specs.Codec.{segment_codec}
use Rattle.vx_strategy_spec.specs.StrategyData.{StrategyData}
use Rattle.vx_plan.specs.PlanData.{Setting, Plan, not_struct, duplicate_field, many_chunks, empty_list, zone_cut, forbidden_aggregate, forbidden_encoding}
use Rattle.vx_plan.specs.Number.{segments, numbered, segment_at}
use Rattle.vx_plan.specs.SourcePlan.{of_schema, source_plan, taken_plan, source_values}
use Rattle.vx_plan.specs.Valid.{Fit, IsPast, OfSchema, AllOf, Has}
use Rattle.vx_write_answer.specs.declared.step.Step.{Step}
use Rattle.vx_write_answer.specs.declared.error.WriteError.{WriteError}
use Rattle.vx_write_answer.specs.declared.error.WriteError.TheVariants.{SourceFault, SinkFault, CompressFault, BatchType, NotStruct, DuplicateField, ManyChunks, EmptyList, ZoneCut, ForbiddenAggregate, ForbiddenEncoding, TooLarge, OutOfMemory, Stopped}
use Rattle.vx_machine.specs.Calls.{reads_in, misfits}
use Rattle.vx_machine_promises.specs.Write.{Write}
use Rattle.vx_write.specs.Traced.{tasks_of, StepsBeginAll, StepsAreFirst, IsLate}
use Rattle.vx_write.specs.Tracking.{PassesAt}
use Rattle.vx_write.specs.RefusedAct.{RefusedThere}

-- ---- a write that came to its end

-- Where the source tells its batches: this holds of them and of the plan of them all.
abbrev pub Planned : Setting → StrategyData → Ty → Bool → Option (List ChunkData) → (List ChunkData → Plan → Type 0) → Type 0
Planned s w t m told P = (xs : List ChunkData) → told ≡ Some xs → P xs (source_plan s w t m xs true)

-- The input was valid: the plan p of all batches has no fault, every batch is a whole chunk of the type, and
-- all numbers fit. The next number itself may pass 32 bits where no segment needs it.
pub record WasValid (t : Ty) (first : ℕ) (batches : List ChunkData) (p : Plan) : Type 0 where
  pub faultless : p.faults ≡ []
  pub whole : AllOf t batches
  pub numbered : first + length p.pairs ≤ max first (2 ^ 32)
  pub fit : Fit p.numbers

-- All was written by the plan p of all batches.
pub record Wrote (t : Ty) (first next : ℕ) (before now : Option (List (List ℕ))) (l : LayoutData ℕ) (xs : List ChunkData) (p : Plan) : Type 0 where
  pub laid : l ≡ numbered p first
  pub appended : now ≡ then_told before (segments p)
  pub counted : next ≡ first + length (segments p)
  pub read_back : rows segment_codec (segment_at first (segments p)) l ≡ Some (source_values xs)
  pub valid : WasValid t first xs p

-- ---- a write that was refused

-- The segments appended are the first of those of the plan of the batches taken.
pub record Stands (plan_of : List ChunkData → Plan) (first next : ℕ) (to_come_before to_come_now : Option (List ChunkData)) (before now : Option (List (List ℕ))) : Type 0 where
  pub taken : List ChunkData
  pub came : to_come_before ≡ before_told taken to_come_now
  pub appended : List (List ℕ)
  pub more : List (List ℕ)
  pub prefix : segments (plan_of taken) ≡ appended ++ more
  pub stands : now ≡ then_told before appended
  pub numbers : next ≡ first + length appended

-- these are the first segments of a plan
abbrev pub AreFirst : List (List ℕ) → Plan → Type 0
AreFirst stood p = (more : List (List ℕ)) × (segments p ≡ stood ++ more)

-- Where the source told its batches: of the plan of them all, or where one is of another type, of those before the first such.
abbrev pub AreFirstOfAll : Setting → StrategyData → Ty → Bool → Option (List ChunkData) → List (List ℕ) → Type 0
AreFirstOfAll s w t m told stood =
    Planned s w t m told (λ xs p. (OfSchema t xs → AreFirst stood p) × (¬ OfSchema t xs → AreFirst stood (taken_plan s w t m xs false)))

-- the number doesn't fit 32 bits, and is the next segment's, which the plan has: so many of its segments stand
abbrev pub NeedsNumber : Plan → ℕ → ℕ → ℕ → Type 0
NeedsNumber p next stand n = (n ≡ next) × (2 ^ 32 ≤ n) × (stand < length p.pairs)

-- The cause of an error, by the plan of the batches taken: a table, one line an error. Faults are told by counts, and memory may run
-- out; `passes` says what the tracker would count behind the steps, past 64 bits.
abbrev pub HasCause : Ty → (ℕ → Type 0) → Plan → List ChunkData → ℕ → ℕ → WriteError → Type 0
HasCause t passes p taken next stand (BatchType c) = (¬ (piece_type c ≡ t)) × TookLast taken c
HasCause t passes p taken next stand NotStruct = Has not_struct p.faults
HasCause t passes p taken next stand (DuplicateField name) = Has (duplicate_field name) p.faults
HasCause t passes p taken next stand ManyChunks = Has many_chunks p.faults
HasCause t passes p taken next stand EmptyList = Has empty_list p.faults
HasCause t passes p taken next stand (ForbiddenEncoding id) = Has (forbidden_encoding id) p.faults
HasCause t passes p taken next stand (TooLarge n) = NeedsNumber p next stand n ⊎ IsPast n p.numbers ⊎ passes n
HasCause t passes p taken next stand SourceFault = Unit {0}
HasCause t passes p taken next stand SinkFault = Unit {0}
HasCause t passes p taken next stand OutOfMemory = Unit {0}
HasCause t passes p taken next stand CompressFault = Unit {0}
HasCause t passes p taken next stand (ZoneCut n) = Has (zone_cut n) p.faults
HasCause t passes p taken next stand (ForbiddenAggregate id) = Has (forbidden_aggregate id) p.faults
HasCause t passes p taken next stand (Stopped by name) = ⊥

-- the source's answers were asked in steps; a batch of another type in none, nor one behind which the act was refused
abbrev pub AskedInSteps : List ChunkData → Bool → List Step → WriteError → Type 0
AskedInSteps taken heard steps e = (answers_in taken heard ≡ reads_in steps + misfits e) ⊎ (IsLate e × (answers_in taken heard ≡ reads_in steps + 1))

-- the write by itself: its schedule isn't asked
abbrev pub write_of : Setting → StrategyData → Ty → Bool → ℕ → Write
write_of s w t m tracker = record { setting = s; way = w; type = t; mark = m; tracker = tracker; schedule = [] }

-- What stands, and why no more was written, and at which act. Plan and tasks are those of the batches taken without one of another type;
-- they have the ends of all streams where the source's end was told.
pub record Halted (s : Setting) (w : StrategyData) (t : Ty) (m : Bool) (tracker first next : ℕ) (to_come_before to_come_now : Option (List ChunkData)) (before now : Option (List (List ℕ))) (schedule : List ℕ) (steps : List Step) (e : WriteError) : Type 0 where
  pub heard : Bool
  pub stand : Stands (λ taken. taken_plan s w t m taken heard) first next to_come_before to_come_now before now
  pub front : AreFirstOfAll s w t m to_come_before stand.appended
  pub ended : heard ≡ true → NoneTold to_come_now
  pub cause : HasCause t (PassesAt (write_of s w t m tracker) (of_schema t stand.taken) heard steps) (taken_plan s w t m stand.taken heard) stand.taken next (length stand.appended) e
  pub traced : StepsAreFirst (tasks_of s w t m (of_schema t stand.taken) heard) schedule steps e
  pub traced_all : StepsBeginAll s w t m to_come_before schedule steps
  pub asked : AskedInSteps stand.taken heard steps e
  pub refused : RefusedThere s w t m tracker (of_schema t stand.taken) heard next schedule steps e
