-- What a column's worker is given, and which write it is.
use Rattle.std.specs.Prelude.{◌≡◌, ℕ, suc, List, [], ◌∷◌, length, Option, Some}
use Rattle.vx_model.specs.Ty.{Ty}
use Rattle.vx_model.specs.TyView.{ty}
use Rattle.vx_model.specs.ChunkData.{ChunkData}
use Rattle.vx_path.specs.Lists.{In}
use Rattle.vx_named_tasks.specs.Names.{Outset, column_outset}
use Rattle.vx_plan.specs.PlanData.{Pair}
use Rattle.vx_plan.specs.Valid.{OfSchema}
use Rattle.vx_sink.specs.ContextView.{is_marked, counted}
use Rattle.vx_seats.specs.History as seats
use Rattle.vx_seats.specs.Turns.{NeverFails}
use Rattle.vx_column_ways.specs.Ways.{column_of}
use Rattle.vx_column_ids.specs.Outsets.{outset_of}
use Rattle.vx_column_ids.specs.declared.part.ColumnPart.{ColumnPart}
use Rattle.vx_machine_node.specs.Context.{setting_of}
use Rattle.vx_column_machine.specs.declared.column.ColumnMachine.{ColumnMachine}
use Rattle.vx_column_machine.specs.Course.{Course, plan_of}
use Rattle.vx_column_machine.specs.Underway.{Underway, IsSet}
use Rattle.vx_column_inputs.specs.declared.inputs.Input.{Input}
use Rattle.vx_sink.specs.declared.list_source.ListSource.{ListSource}

-- the write of these chunks by what the worker is given
abbrev pub course_of : (ℕ → ChunkData → ChunkData) → ℕ → Input → List ChunkData → Course
course_of image column i chunks = record { setting = setting_of i.ctx image; column = column_of i.way; number = column; chunks = chunks }

-- each pair may be written, with its bytes
abbrev pub AllAllowed : List seats.Pair → List Pair → Type 0
AllAllowed allowed ps = (x : Pair) → In x ps → seats.bytes_for allowed x.0 ≡ Some x.1

-- the machine writes this column, each of whose pairs may be written, with these images
pub record AtWork {B : Type 0} (to_come : B → Option (List ChunkData)) (kind : B → Ty) (left : B → ℕ) (allowed : List seats.Pair) (image : ℕ → ChunkData → ChunkData) (x : Course) (c : ColumnMachine B) : Type 0 where
  pub set : IsSet image x c
  pub underway : Underway to_come kind left x c
  pub all : AllAllowed allowed (plan_of x).pairs

-- Its source, of which the last four tell, never fails and gives chunks of the column's type, of whose plan each pair is allowed; its
-- context counts nothing yet, and is marked as the column is. The ids of its part are the column's, one for each chunk.
pub record JobFits (allowed : List seats.Pair) (image : ℕ → ChunkData → ChunkData) (column : ℕ) (i : Input) (part : Outset) (kind : Ty) (may_fail : ℕ → Type 0) (to_come : Option (List ChunkData)) (left : ℕ) : Type 0 where
  pub none : counted i.ctx ≡ 0
  pub marked : is_marked i.ctx ≡ i.way.marked
  pub kind_is : kind ≡ ty i.way.dtype
  pub steady : NeverFails may_fail
  pub chunks : List ChunkData
  pub told : to_come ≡ Some chunks
  pub left_is : left ≡ length chunks
  pub typed : OfSchema (ty i.way.dtype) chunks
  pub part_is : part ≡ column_outset column (length chunks)
  pub all : AllAllowed allowed (plan_of (course_of image column i chunks)).pairs

-- so do all, from column k on, each with its part and its compressor
abbrev pub JobsFit : {C : Type 0} → List seats.Pair → (ℕ → ℕ → ChunkData → ChunkData) → (C → ℕ) → (ListSource → Ty) → (ListSource → ℕ → Type 0) → (ListSource → Option (List ChunkData)) → (ListSource → ℕ)
    → ℕ → List Input → List ColumnPart → List C → Type 0
JobsFit allowed image kind type may_fail to_come left k [] ps cs = Unit {0}
JobsFit allowed image kind type may_fail to_come left k (i ∷ is) [] cs = ⊥
JobsFit allowed image kind type may_fail to_come left k (i ∷ is) (p ∷ ps) [] = ⊥
JobsFit allowed image kind type may_fail to_come left k (i ∷ is) (p ∷ ps) (c ∷ cs) =
    JobFits allowed (image (kind c)) k i (outset_of p) (type i.source) (may_fail i.source) (to_come i.source) (left i.source)
    × JobsFit allowed image kind type may_fail to_come left (suc k) is ps cs
