-- The columns of a write, each written by itself.
use Rattle.std.specs.Prelude.{◌≡◌, ℕ, Bool, List, [], ◌∷◌, slice_get, Some}
use Rattle.vx_model.specs.Ty.{Ty, struct, nullable}
use Rattle.vx_model.specs.ChunkData.{ChunkData}
use Rattle.vx_chunk_cells.specs.Parts.{struct_fields}
use Rattle.vx_strategy_spec.specs.StrategyData.{StrategyData}
use Rattle.vx_strategy_spec.specs.Dispatch.{dispatch}
use Rattle.vx_plan.specs.PlanData.{Setting}
use Rattle.vx_column_plan.specs.Columns.{Column}
use Rattle.vx_column_ways.specs.Ways.{columns_in}
use Rattle.vx_own_plans.specs.OwnPlans.{column_chunks}
use Rattle.vx_column_worker.specs.Course.{Course}
use Rattle.vx_column_worker.specs.Causes.{Passes}
use Rattle.vx_write_columns.specs.Courses.{column_courses}

-- the kind of compressors that have one
abbrev pub kind_of : List ℕ → ℕ
kind_of [] = 0
kind_of (k ∷ ks) = k

-- the columns that a strategy writes side by side at a type, none where it doesn't
abbrev pub columns_at : StrategyData → Ty → Bool → List Column
columns_at w t m = columns_in (dispatch w t) t m

-- the chunks of column k of these batches
abbrev pub chunks_of : ℕ → Ty → List ChunkData → List ChunkData
chunks_of k (struct fs n) bs = column_chunks k fs n bs
chunks_of k t bs = []

-- the columns that it writes of these batches, each as a write of its own
abbrev pub courses_at : Setting → StrategyData → Ty → Bool → List ChunkData → List Course
courses_at s w t m bs = column_courses s (struct_fields t) (nullable t) bs 0 (columns_at w t m)

-- A column's own tracker, which began at nothing, would count n behind some steps of its worker, past 64 bits.
pub record PassesBeside (s : Setting) (w : StrategyData) (t : Ty) (m : Bool) (batches : List ChunkData) (n : ℕ) : Type 0 where
  pub place : ℕ
  pub column : Column
  pub at : slice_get (columns_at w t m) place ≡ Some column
  pub passes : Passes (record { setting = s; column = column; number = place; chunks = chunks_of place t batches }) n
