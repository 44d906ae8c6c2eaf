-- A write by columns of valid input, where nothing fails, is refused for want of memory alone.
use Rattle.std.proofs.Common.{◌≡◌, ℕ, Bool, List, Option, Some, None, Result, Ok, Err, IfErr}
use Rattle.vx_model.specs.Ty.{Ty, nullable}
use Rattle.vx_model.specs.ChunkData.{ChunkData}
use Rattle.vx_chunk_cells.specs.Parts.{struct_fields}
use Rattle.vx_fault.specs.Counts.{IsCalm}
use Rattle.vx_named_tasks.specs.Names.{Outset}
use Rattle.vx_strategy_spec.specs.StrategyData.{StrategyData, StrategyList, flat, chunked, grouped, compressed, coded, zoned, structured, listed, tabled}
use Rattle.vx_strategy_spec.specs.Dispatch.{dispatch}
use Rattle.vx_plan.specs.PlanData.{Setting}
use Rattle.vx_plan.specs.Valid.{Valid}
use Rattle.vx_machine_promises.specs.Promises.{MovesAreCountedAt}
use Rattle.vx_write_answer.specs.declared.error.WriteError.{WriteError}
use Rattle.vx_write_answer.specs.declared.error.WriteError.TheVariants.{OutOfMemory}
use Rattle.vx_write.specs.ColumnCount.{columns_of, column_count}
use Rattle.vx_write_columns.specs.Beside.{PassesBeside}
use Rattle.vx_write_columns.specs.Stopped.{ColumnsHalted, Failed, AllCalm}
use Rattle.vx_write_columns.proofs.Calm.{only_memory}
use Rattle.vx_write_columns.proofs.Completing.{halted_outside}
use Rattle.vx_write_columns.proofs.Prepared.{struct_is}

-- ---- of any result

-- what follows of two facts about its error
pub err_both : {T E : Type 0} (r : Result T E) (P Q R : E → Type 0) → ((e : E) → P e → Q e → R e) → IfErr r P → IfErr r Q → IfErr r R
err_both (Ok x) P Q R f p q = tt
err_both (Err e) P Q R f p q = f e p q

none_some : (k : ℕ) → None ≡ Some k → ⊥
none_some k e = cc

-- the columns that a strategy is counted to have are those of the type
pub columns_there : (w : StrategyData) (t : Ty) (k : ℕ) → column_count w t ≡ Some k → columns_of t ≡ Some k
columns_there (structured v d ws) t k h = h
columns_there (tabled v l ws lists wraps) t k h = h
columns_there (flat o) t k h = absurd (none_some k h)
columns_there (chunked w) t k h = absurd (none_some k h)
columns_there (grouped g w) t k h = absurd (none_some k h)
columns_there (compressed which room w) t k h = absurd (none_some k h)
columns_there (coded o c v f) t k h = absurd (none_some k h)
columns_there (zoned o w stats) t k h = absurd (none_some k h)
columns_there (listed e o v f) t k h = absurd (none_some k h)

-- ---- valid input

module _ {C : Type 0} (counted : (o : Outset) → MovesAreCountedAt o) (s : Setting) (w : StrategyData) (t : Ty) (m : Bool) (columns : List ChunkData → WriteError → Type 0) (first next : ℕ) (faults faults_now : ℕ)
    (may must : ℕ → Type 0) (to_come to_come_now : Option (List ChunkData)) (before now : Option (List (List ℕ))) (e : WriteError)
    (h : ColumnsHalted s w t m (PassesBeside s w t m) columns first next faults faults_now may must to_come to_come_now before now e)
    (stood stands : ℕ) (may_fail : ℕ → Type 0) (pressed : C → ℕ) (may_press : C → ℕ → Type 0) (lent back : List C) (f : Failed stood stands may_fail pressed may_press lent back e) where
  pub complete_halted : (v d : StrategyData) (ws : StrategyList) (count : ℕ) → columns_of t ≡ Some count → dispatch w t ≡ structured v d ws → (xs : List ChunkData) → to_come ≡ Some xs → Valid s w t m first 0 xs
      → IsCalm faults faults_now → IsCalm stood stands → AllCalm pressed lent back → e ≡ OutOfMemory
  complete_halted v d ws count is at_type xs told valid calm still quiet =
      only_memory pressed may_press lent back e faults faults_now stood stands may_fail
      (halted_outside counted s w t m columns first next faults faults_now may must to_come to_come_now before now e xs v d ws (struct_fields t) (nullable t) (struct_is t count is) at_type h told valid)
      h.told.asked.counted f calm still quiet
