-- What a write into a shared sink leaves, whatever its columns are.
use Rattle.std.specs.Prelude.{◌≡◌, ◌⊎◌, ℕ, ◌+◌, ◌^◌, ◌≤◌, max, true, List, [], ◌∷◌, map, length, Option}
use Rattle.vx_model.specs.Ty.{Ty}
use Rattle.vx_path.specs.Sort.{sort}
use Rattle.vx_fault.specs.Told.{then_told}
use Rattle.vx_layout_spec.specs.LayoutTree.{LayoutData, struct_layout}
use Rattle.vx_plan.specs.Valid.{Fit}
use Rattle.vx_order_answer.specs.declared.receipt.Receipt.{Receipt}
use Rattle.vx_seats.specs.History.{Pair, all_listed, ascends, paths, numbered, stored}
use Rattle.vx_column_plan.specs.Shared.{number_by}
use Rattle.vx_column_worker.specs.Course.{Course, plan_of}
use Rattle.vx_column_worker.specs.Worked.{SharedPast}
use Rattle.vx_write_answer.specs.declared.error.WriteError.{WriteError}
use Rattle.vx_write_answer.specs.declared.error.WriteError.TheVariants.{OutOfMemory}
use Rattle.vx_write_columns.specs.Ends.{End, IsFirstOf}
use Rattle.vx_write_columns.specs.Numbers.{AllStandIn, layouts_by}

-- A history of some of the pairs, in ascending order: the sink's next number and its segments, where it tells them.
pub record StandsBy (pairs : List Pair) (first next : ℕ) (before now : Option (List (List ℕ))) (history : List Receipt) : Type 0 where
  pub ascend : ascends (paths history) ≡ true
  pub listed : all_listed pairs (paths history) ≡ true
  pub numbers : numbered first history ≡ true
  pub next_is : next ≡ first + length history
  pub stands : now ≡ then_told before (stored pairs history)
  pub last : next ≤ max first (2 ^ 32)

-- these plans have no fault, and all that they count fits
abbrev pub AllClean : List Course → Type 0
AllClean [] = Unit {0}
AllClean (x ∷ xs) = ((plan_of x).faults ≡ []) × Fit (plan_of x).numbers × AllClean xs

-- All pairs were written, and the layout is that of all columns, numbered by the history.
pub record SharedDone (pairs : List Pair) (first next : ℕ) (before now : Option (List (List ℕ))) (xs : List Course) (t : Ty) (rows : ℕ) (l : LayoutData ℕ) : Type 0 where
  pub history : List Receipt
  pub stands : StandsBy pairs first next before now history
  pub all : paths history ≡ sort (map (λ c. c.path) pairs)
  pub laid : AllStandIn history (map plan_of xs) → l ≡ struct_layout t rows (layouts_by (number_by first history) (map plan_of xs))
  pub clean : AllClean xs

-- What stands of a refused write, and why it was refused: memory was wanting, or it is the columns' first refusal.
pub record SharedStopped (pairs : List Pair) (first next : ℕ) (before now : Option (List (List ℕ))) (tells : List End → Type 0) (xs : List Course) (e : WriteError) : Type 0 where
  pub history : List Receipt
  pub stands : StandsBy pairs first next before now history
  pub whose : (e ≡ OutOfMemory) ⊎ IsFirstOf (SharedPast first (length pairs)) tells xs e
