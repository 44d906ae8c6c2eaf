-- The generated table is written, unless memory runs out.
use Rattle.std.proofs.Common.{◌≡◌, ℕ, ◌≤◌, Bool, false, List, [], Option, Some}
use Rattle.vx_model.specs.Ty.{Ty}
use Rattle.vx_model.specs.ChunkData.{ChunkData}
use Rattle.vx_layout_spec.specs.LayoutTree.{LayoutData}
use Rattle.vx_strategy_spec.specs.StrategyData.{StrategyData}
use Rattle.vx_plan.specs.PlanData.{Setting}
use Rattle.vx_plan.specs.Valid.{Valid}
use Rattle.vx_generator.specs.Generated.{table_type, table_batches}
use Rattle.vx_generator.specs.TableStrategy.{table_strategy}
use Rattle.vx_generator_laws.specs.TableWrite.{table_setting, most_rows, TableIsValid}
use Rattle.vx_write.specs.Written.{Planned, Wrote}
use Rattle.vx_run.specs.Summary.{table_segments, IsWritten}
use Rattle.vx_run.proofs.MemoryWrites.{told_all}

-- what the write starts from
pub record Start (n : ℕ) (s : Setting) (w : StrategyData) (t : Ty) (m : Bool) (first tracker : ℕ) (came : Option (List ChunkData)) (old : Option (List (List ℕ))) : Type 0 where
  pub setting : s ≡ table_setting
  pub way : w ≡ table_strategy
  pub schema : t ≡ table_type
  pub marked : m ≡ false
  pub numbers : first ≡ 0
  pub counted : tracker ≡ 0
  pub batches : came ≡ Some (table_batches n)
  pub none : old ≡ Some []

pub table_written : (n : ℕ) (s : Setting) (m : Bool) {w : StrategyData} {t : Ty} {first tracker now : ℕ} {came : Option (List ChunkData)} {old new : Option (List (List ℕ))} {l : LayoutData ℕ} {stored : List (List ℕ)}
    → Start n s w t m first tracker came old → new ≡ Some stored → Planned s w t m came (Wrote t first now old new l) → IsWritten n l stored
table_written n s m {stored = stored} start told wrote =
    let so = rw (start.setting, start.way, start.schema, start.marked, start.numbers) at (wrote (table_batches n) start.batches) in
    let all : stored ≡ table_segments n = told_all {bs = table_segments n} start.none told so.appended in
    record { layout = so.laid; segments = all; read = rw all so.read_back }

pub valid_start : (n : ℕ) (s : Setting) (m : Bool) {w : StrategyData} {t : Ty} {first tracker : ℕ} {came : Option (List ChunkData)} {old : Option (List (List ℕ))}
    → Start n s w t m first tracker came old → n ≤ most_rows → TableIsValid → Valid s w t m first tracker (table_batches n)
valid_start n s m start few law = rw (start.setting, start.way, start.schema, start.marked, start.numbers, start.counted) (law n few)
