-- What workers are given and give back, in lists of one a column.
use Rattle.std.specs.Prelude.{◌≡◌, ◌≤◌, ◌+◌, ℕ, suc, List, [], ◌∷◌, Option, None, Some, IfSome, IfOk, IfErr, OnOk, IsTrue, length, map, vec_len}
use Rattle.std.specs.Global.{Vec}
use Rattle.std.specs.Vec.{vec_capacity}
use Rattle.std.specs.Vec.Iter.{into_iter_items}
use Rattle.vx_model.specs.Ty.{Ty}
use Rattle.vx_model.specs.TyView.{ty}
use Rattle.vx_model.specs.ChunkData.{ChunkData}
use Rattle.vx_chunk.specs.ChunkView.{piece}
use Rattle.vx_fault.specs.Fails.{fails_at}
use Rattle.vx_layout_tree.specs.LayoutView.{layout_data}
use Rattle.vx_sink.specs.declared.list_source.ListSource.{ListSource}
use Rattle.vx_seats.specs.History.{Pair}
use Rattle.vx_write_answer.specs.Causes.{is_sink_fault}
use Rattle.vx_column_machine.specs.Course.{Course, plan_of}
use Rattle.vx_column_machine.specs.Causes.{IsDone}
use Rattle.vx_column_ids.specs.Outsets.{outset_of}
use Rattle.vx_column_ids.specs.declared.part.ColumnPart.{ColumnPart}
use Rattle.vx_column_inputs.specs.declared.inputs.Input.{Input}
use Rattle.vx_column_worker.specs.declared.worker.Job.{Job}
use Rattle.vx_column_worker.specs.declared.worker.Done.{Done}
use Rattle.vx_column_worker.specs.Jobs.{course_of, JobFits}
use Rattle.vx_column_worker.specs.Worked.{WorkerCause, SharedPast, SeatStopped, PressedOnly}

-- there are so many seats and compressors
abbrev pub IsStaffed : {S B C : Type 0} → ℕ → Vec S → Vec B → Vec C → Type 0
IsStaffed n seats bytes compressors = (vec_len seats ≡ n) × (vec_len bytes ≡ n) × (vec_len compressors ≡ n)

-- so many have room in each list
abbrev pub HasRoom : {S B C : Type 0} → ℕ → Vec S → Vec B → Vec C → Type 0
HasRoom n seats bytes compressors = (n ≤ vec_capacity seats) × (n ≤ vec_capacity bytes) × (n ≤ vec_capacity compressors)

-- the jobs of columns from this one on, each with a part and a compressor
abbrev pub jobs_from : {C : Type 0} → ℕ → List Input → List ColumnPart → List C → List (Job C)
jobs_from k [] ps cs = []
jobs_from k (i ∷ is) [] cs = []
jobs_from k (i ∷ is) (p ∷ ps) [] = []
jobs_from k (i ∷ is) (p ∷ ps) (c ∷ cs) = record { column = k; input = i; part = p; compressor = c } ∷ jobs_from (suc k) is ps cs

-- ---- what may be done

-- what a source of a list tells: the type, which call may fail, what is still to come, and how many batches that is

abbrev pub list_kind : ListSource → Ty
list_kind s = ty s.dtype

abbrev pub list_may_fail : ListSource → ℕ → Type 0
list_may_fail s k = IsTrue (fails_at s.fails.list.items (s.fails.calls + k))

abbrev pub list_to_come : ListSource → Option (List ChunkData)
list_to_come s = Some (map piece (into_iter_items s.batches))

abbrev pub list_left : ListSource → ℕ
list_left s = length (into_iter_items s.batches)

-- It is free, and its job fits.
pub record MayRun {C : Type 0} (allowed : List Pair) (image : ℕ → ℕ → ChunkData → ChunkData) (kind : C → ℕ) (job : Option (Job C)) (done : Option (Done C)) : Type 0 where
  pub free : done ≡ None
  pub fits : IfSome job (λ j. JobFits allowed (image (kind j.compressor)) j.column j.input (outset_of j.part) (list_kind j.input.source) (list_may_fail j.input.source) (list_to_come j.input.source) (list_left j.input.source))

-- ---- what came of a job

-- what a seat counts
pub record Counts : Type 0 where
  pub writes : ℕ
  pub faults : ℕ
  pub made : ℕ
  pub seen : ℕ

-- By this worker the column of the course was written or refused; what its seat counted before and after, and the compressor that it was
-- lent.
pub record HasWorked {C : Type 0} (kind faults : C → ℕ) (may_fail : C → ℕ → Type 0) (first pairs : ℕ) (x : Course) (lent : C) (before after : Counts) (d : Done C) : Type 0 where
  pub done : IfOk d.outcome (λ r. IsDone (plan_of x) (layout_data r.0) r.1.items × (after.writes ≡ before.writes + length (plan_of x).pairs))
  pub refused : IfErr d.outcome (WorkerCause (SharedPast first pairs) x)
  pub stopped : IfErr d.outcome (λ e. SeatStopped e (is_sink_fault e) before.faults after.faults before.made after.made before.seen after.seen)
  pub unstopped : OnOk d.outcome ((after.faults ≡ before.faults) × (after.made ≡ before.made) × (after.seen ≡ before.seen))
  pub kind_is : kind d.compressor ≡ kind lent
  pub pressed : PressedOnly (faults lent) (faults d.compressor) (may_fail lent) d.outcome

-- it had a job, which is done
abbrev pub HasRun : {C : Type 0} → (ℕ → ℕ → ChunkData → ChunkData) → (C → ℕ) → (C → ℕ) → (C → ℕ → Type 0) → ℕ → ℕ → Option (Job C) → Option (Job C) → Counts → Counts → Option (Done C) → Type 0
HasRun image kind faults may_fail first pairs None now before after d = Unit {0}
HasRun image kind faults may_fail first pairs (Some j) (Some k) before after d = ⊥
HasRun image kind faults may_fail first pairs (Some j) None before after None = ⊥
HasRun image kind faults may_fail first pairs (Some j) None before after (Some d) =
    (chunks : List ChunkData) → list_to_come j.input.source ≡ Some chunks
    → HasWorked kind faults may_fail first pairs (course_of (image (kind j.compressor)) j.column j.input chunks) j.compressor before after d
