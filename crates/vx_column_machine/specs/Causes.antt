-- How a column's own write ends, and why it is refused.
use Rattle.std.specs.Prelude.{◌≡◌, ◌⊎◌, ◌^◌, ◌<◌, ◌≤◌, ℕ, true, List, [], map, length, Result, Ok, Err}
use Rattle.vx_layout_spec.specs.LayoutTree.{LayoutData}
use Rattle.vx_layout_segments.specs.Segments.{segments_in}
use Rattle.vx_layout_segment_laws.specs.Named.{SegmentsArePairs}
use Rattle.vx_tasks.specs.Run.{Note}
use Rattle.vx_plan.specs.PlanData.{Plan, not_struct, duplicate_field, many_chunks, empty_list, zone_cut, forbidden_aggregate, forbidden_encoding}
use Rattle.vx_plan.specs.Number.{numbered}
use Rattle.vx_plan.specs.Valid.{Fit, IsPast, Has}
use Rattle.vx_fault.specs.Counts.{Rose}
use Rattle.vx_seats.specs.Turns.{NeverFails}
use Rattle.vx_machine_promises.specs.Write.{begin_at}
use Rattle.vx_machine_runs.specs.Tracked.{Comes}
use Rattle.vx_write_answer.specs.declared.error.WriteError.{WriteError}
use Rattle.vx_write_answer.specs.declared.error.WriteError.TheVariants.{SourceFault, SinkFault, CompressFault, BatchType, NotStruct, DuplicateField, ManyChunks, EmptyList, ZoneCut, ForbiddenAggregate, ForbiddenEncoding, TooLarge, OutOfMemory, Stopped}
use Rattle.vx_column_machine.specs.Course.{Course, write_of, outset_of, plan_of}

-- ---- the end

-- All of the column was written by this plan. The layout's segments have their numbers in order of path, from 0, and these are their
-- paths, in the order of the layout.
pub record IsDone (p : Plan) (l : LayoutData ℕ) (paths : List (List ℕ)) : Type 0 where
  pub faultless : p.faults ≡ []
  pub fit : Fit p.numbers
  pub laid : l ≡ numbered p 0
  pub paths_are : paths ≡ segments_in p.layout
  -- they are those of all that is written
  pub named : SegmentsArePairs p

-- ---- refusals

-- behind some steps the column's own tracker would count n, past 64 bits
pub record Passes (x : Course) (n : ℕ) : Type 0 where
  pub notes : List Note
  pub place : ℕ
  pub comes : Comes (write_of x) (begin_at (write_of x) (outset_of x) x.chunks (record { later = []; fits = true })) notes place n
  pub past : 2 ^ 64 ≤ n

-- some segment of the plan would have this number, past 32 bits
abbrev pub IsNumberPast : Plan → ℕ → Type 0
IsNumberPast p n = (2 ^ 32 ≤ n) × (n < length p.pairs)

-- The cause of an error: a table, one line an error. Of its source and of a sink there is none.
abbrev pub HasCause : Course → WriteError → Type 0
HasCause x SourceFault = ⊥
HasCause x SinkFault = ⊥
HasCause x CompressFault = Unit {0}
HasCause x (BatchType b) = ⊥
HasCause x NotStruct = Has not_struct (plan_of x).faults
HasCause x (DuplicateField name) = Has (duplicate_field name) (plan_of x).faults
HasCause x ManyChunks = Has many_chunks (plan_of x).faults
HasCause x EmptyList = Has empty_list (plan_of x).faults
HasCause x (ZoneCut n) = Has (zone_cut n) (plan_of x).faults
HasCause x (ForbiddenAggregate id) = Has (forbidden_aggregate id) (plan_of x).faults
HasCause x (ForbiddenEncoding id) = Has (forbidden_encoding id) (plan_of x).faults
HasCause x (TooLarge n) = IsNumberPast (plan_of x) n ⊎ IsPast n (plan_of x).numbers ⊎ Passes x n
HasCause x OutOfMemory = Unit {0}
HasCause x (Stopped by name) = ⊥

-- ---- the compressor

-- It failed where the outcome says so, and only there. Where it never fails it never will.
abbrev pub StepPressed : {A : Type 0} → ℕ → ℕ → (ℕ → Type 0) → (ℕ → Type 0) → Result A WriteError → Type 0
StepPressed before now may may_then (Ok x) = (now ≡ before) × (NeverFails may → NeverFails may_then)
StepPressed before now may may_then (Err CompressFault) = Rose before now × ¬ (NeverFails may)
StepPressed before now may may_then (Err e) = now ≡ before
