-- The columns' layouts under the numbers that a shared sink gave, and which refusal is told.
use Rattle.std.specs.Prelude.{◌≡◌, ◌<◌, ℕ, Bool, true, false, List, [], ◌∷◌, map, Result, Ok, Err, Option, Some, None, slice_get}
use Rattle.std.specs.Global.{Vec}
use Rattle.vx_path.specs.Lists.{In}
use Rattle.vx_path.specs.Path.{Scattered}
use Rattle.vx_path.specs.declared.owned.Path.{Path}
use Rattle.vx_layout_spec.specs.LayoutTree.{LayoutData, renamed}
use Rattle.vx_layout_tree.specs.LayoutView.{layout_data}
use Rattle.vx_layout_tree.specs.declared.layout.Layout.{Layout}
use Rattle.vx_plan.specs.PlanData.{Plan, paths}
use Rattle.vx_order_answer.specs.declared.receipt.Receipt.{Receipt}
use Rattle.vx_seats.specs.History.{paths as written_paths}
use Rattle.vx_column_plan.specs.Shared.{number_by}
use Rattle.vx_column_machine.specs.Causes.{IsDone}
use Rattle.vx_write_answer.specs.declared.error.WriteError.{WriteError}
use Rattle.vx_write_answer.specs.declared.error.WriteError.TheVariants.{Stopped}

-- ---- layouts

-- what came of a column
abbrev pub ColumnOutcome : Type 0
ColumnOutcome = Result (Layout × Vec Path) WriteError

-- each column was written, by these plans
abbrev pub AllDone : List Plan → List ColumnOutcome → Type 0
AllDone [] [] = Unit {0}
AllDone (p ∷ ps) (Ok r ∷ os) = IsDone p (layout_data r.0) r.1.items × AllDone ps os
AllDone ps os = ⊥

-- each path is one of the others
abbrev pub AllIn : List (List ℕ) → List (List ℕ) → Type 0
AllIn ps qs = (path : List ℕ) → In path ps → In path qs

-- What a column wrote stands in the history, each segment at a path of its own.
pub record StandsIn (rs : List Receipt) (p : Plan) : Type 0 where
  pub apart : Scattered (paths p.pairs)
  pub stand : AllIn (paths p.pairs) (written_paths rs)

-- so does what all columns wrote
abbrev pub AllStandIn : List Receipt → List Plan → Type 0
AllStandIn rs [] = Unit {0}
AllStandIn rs (p ∷ ps) = StandsIn rs p × AllStandIn rs ps

-- the columns' layouts, with these numbers of their paths
abbrev pub layouts_by : (List ℕ → ℕ) → List Plan → List (LayoutData ℕ)
layouts_by number ps = map (λ (p : Plan). renamed number p.layout) ps

-- ---- refusals

-- the stop of another column
abbrev pub is_stop : WriteError → Bool
is_stop (Stopped by name) = true
is_stop e = false

-- it isn't
abbrev pub IsOwn : WriteError → Type 0
IsOwn (Stopped by name) = ⊥
IsOwn e = Unit {0}

abbrev pub AllOk : List ColumnOutcome → Type 0
AllOk [] = Unit {0}
AllOk (Ok r ∷ os) = AllOk os
AllOk (Err e ∷ os) = ⊥

-- some column was refused, and not stopped by another
abbrev pub HasOwn : List ColumnOutcome → Type 0
HasOwn os = (k : ℕ) × (e : WriteError) × (slice_get os k ≡ Some (Err e)) × IsOwn e

-- the refusal of the first such column
pub record IsFirstOwn (os : List ColumnOutcome) (e : WriteError) : Type 0 where
  pub place : ℕ
  pub at : slice_get os place ≡ Some (Err e)
  pub own : IsOwn e
  pub first : (k : ℕ) (other : WriteError) → k < place → slice_get os k ≡ Some (Err other) → ¬ (IsOwn other)

-- ---- one column

-- where it was written its layout has the numbers of its paths; where it was stopped there is none
abbrev pub IsLaid : List Receipt → ColumnOutcome → Option Layout → Type 0
IsLaid rs (Ok r) (Some l) = (first : ℕ) (p : Plan) → IsDone p (layout_data r.0) r.1.items → StandsIn rs p → layout_data l ≡ renamed (number_by first rs) p.layout
IsLaid rs (Err e) None = is_stop e ≡ true
IsLaid rs o l = ⊥
