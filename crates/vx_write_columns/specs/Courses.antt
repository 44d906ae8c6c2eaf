-- The columns of a struct, each as a write of its own.
use Rattle.std.specs.Prelude.{◌≡◌, ℕ, suc, Bool, List, [], ◌∷◌, map, length, Option, unwrap_or}
use Rattle.vx_model.specs.Ty.{Tys}
use Rattle.vx_model.specs.ChunkData.{ChunkData}
use Rattle.vx_plan.specs.PlanData.{Setting, Pair}
use Rattle.vx_plan.specs.ChunkedNode.{all_pairs}
use Rattle.vx_sink.specs.declared.list_source.ListSource.{ListSource}
use Rattle.vx_seats.specs.History as seats
use Rattle.vx_column_plan.specs.Columns.{Column}
use Rattle.vx_column_ids.specs.Outsets.{outset_of, column_outsets}
use Rattle.vx_column_ids.specs.declared.part.ColumnPart.{ColumnPart}
use Rattle.vx_own_plans.specs.OwnPlans.{column_chunks}
use Rattle.vx_column_worker.specs.Course.{Course, plan_of}
use Rattle.vx_column_inputs.specs.declared.inputs.Input.{Input}
use Rattle.vx_column_worker.specs.Jobs.{course_of, JobsFit}
use Rattle.vx_column_worker.specs.Staffed.{list_kind, list_may_fail, list_to_come, list_left}

-- these columns, from number k on, of these batches
abbrev pub column_courses : Setting → Tys → Bool → List ChunkData → ℕ → List Column → List Course
column_courses s fs n bs k [] = []
column_courses s fs n bs k (c ∷ cs) =
    record { setting = s; column = c; number = k; chunks = column_chunks k fs n bs } ∷ column_courses s fs n bs (suc k) cs

-- all that they write
abbrev pub pairs_beside : List Course → List Pair
pairs_beside xs = all_pairs (map plan_of xs)

-- what workers write that are given these, from number k on, each with its compressor
abbrev pub courses_of : {C : Type 0} → (ℕ → ℕ → ChunkData → ChunkData) → (C → ℕ) → (ListSource → Option (List ChunkData)) → ℕ → List Input → List C → List Course
courses_of image kind to_come k [] cs = []
courses_of image kind to_come k (i ∷ is) [] = []
courses_of image kind to_come k (i ∷ is) (c ∷ cs) =
    course_of (image (kind c)) k i (unwrap_or (to_come i.source) []) ∷ courses_of image kind to_come (suc k) is cs

-- Each worker may write what it writes, whatever parts they are given that begin where the struct's node would begin its columns.
abbrev pub FitWithParts : {C : Type 0} → List seats.Pair → (ℕ → ℕ → ChunkData → ChunkData) → (C → ℕ) → ℕ → List Input → List C → Type 0
FitWithParts allowed image kind batches is cs =
    (ps : List ColumnPart) → map outset_of ps ≡ column_outsets (length cs) batches → JobsFit allowed image kind list_kind list_may_fail list_to_come list_left 0 is ps cs
