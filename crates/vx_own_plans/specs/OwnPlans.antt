-- What each column of a struct writes, at the ids that the struct's node makes for it.
use Rattle.std.specs.Prelude.{◌≡◌, ℕ, Bool, List, length, slice_get, Some}
use Rattle.vx_model.specs.Ty.{Tys}
use Rattle.vx_model.specs.ChunkData.{ChunkData}
use Rattle.vx_rules.specs.Flushes.{chunk_pieces}
use Rattle.vx_rules.specs.Columns.{struct_splits}
use Rattle.vx_react.specs.Statements.{column_at}
use Rattle.vx_named_tasks.specs.Names.{column_outset}
use Rattle.vx_plan.specs.PlanData.{Setting, Plan}
use Rattle.vx_plan.specs.SourcePlan.{batch_items}
use Rattle.vx_machine_turns.specs.Source.{stream_plan}
use Rattle.vx_column_plan.specs.Columns.{Column, batch_plans}

-- the chunks of column k of these batches
abbrev pub column_chunks : ℕ → Tys → Bool → List ChunkData → List ChunkData
column_chunks k fs n bs = chunk_pieces (column_at k (struct_splits fs n (batch_items 0 bs)))

-- what these chunks are written as, at the ids of column k
abbrev pub own_plan : Setting → Column → ℕ → List ChunkData → Bool → Plan
own_plan s c k cs ended = stream_plan s c.way c.type c.mark (column_outset k (length cs)) cs ended

-- The plan of column k of a struct is that of its chunks, at the ids of the column; there are as many as there are batches.
pub record WritesItsOwn (s : Setting) (ks : List Column) (k : ℕ) (c : Column) (fs : Tys) (n : Bool) (bs : List ChunkData) (ended : Bool) : Type 0 where
  pub at : slice_get (batch_plans s ks fs n bs ended) k ≡ Some (own_plan s c k (column_chunks k fs n bs) ended)
  pub as_many : length (column_chunks k fs n bs) ≡ length bs

-- so it is for each column, whatever the columns are
abbrev pub ColumnsWriteTheirOwn : Type 0
ColumnsWriteTheirOwn = (s : Setting) (ks : List Column) (k : ℕ) (c : Column) (fs : Tys) (n : Bool) (bs : List ChunkData) (ended : Bool) → slice_get ks k ≡ Some c → WritesItsOwn s ks k c fs n bs ended
