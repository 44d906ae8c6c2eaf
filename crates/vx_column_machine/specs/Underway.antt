-- What a column's machine holds, and where it stands.
use Rattle.std.specs.Prelude.{◌≡◌, ◌≤◌, ℕ, Bool, ◌++◌, ◌∷◌, List, [], Option, Some, None, vec_len}
use Rattle.std.specs.Global.{Vec}
use Rattle.std.specs.Vec.{vec_capacity}
use Rattle.std.specs.FinMap as map
use Rattle.vx_model.specs.Ty.{Ty}
use Rattle.vx_model.specs.ChunkData.{ChunkData}
use Rattle.vx_path.specs.Lists.{In}
use Rattle.vx_named_tasks.specs.Names.{Outset}
use Rattle.vx_sequence.specs.Universe.{Active, IsActive, IsLeast}
use Rattle.vx_strategy_spec.specs.StrategyData.{StrategyData}
use Rattle.vx_plan.specs.PlanData.{Pair}
use Rattle.vx_plan.specs.Valid.{OfSchema}
use Rattle.vx_seats.specs.Turns.{NeverFails}
use Rattle.vx_sink.specs.ContextView.{counted}
use Rattle.vx_desk.specs.DeskView.{universe_of, written_of, kept_of}
use Rattle.vx_machine_ids.specs.Balance.{Owned, Exact}
use Rattle.vx_machine_state.specs.Images.{Careful}
use Rattle.vx_machine_node.specs.Context.{Allowed, setting_of}
use Rattle.vx_machine.specs.Names.{HasNames}
use Rattle.vx_machine.specs.View.{phase_of, machine_of}
use Rattle.vx_machine.specs.Whole.{machine_stock, machine_reserved}
use Rattle.vx_column_machine.specs.declared.column.ColumnMachine.{ColumnMachine}
use Rattle.vx_column_machine.specs.Course.{Course, outset_of, plan_of, StandsAt}

-- The machine holds all that is active, its tracker counts what it has reserved, no segment waits, the source never fails, and there is
-- room for the paths in another order.
pub record InBalance {B : Type 0} (may_fail : B → ℕ → Type 0) (c : ColumnMachine B) : Type 0 where
  pub owned : Owned (universe_of c.desk) (machine_stock c.machine)
  pub exact : Exact (universe_of c.desk) (machine_stock c.machine)
  pub counts : counted c.ctx ≡ machine_reserved c.machine
  pub kept : kept_of c.desk ≡ []
  pub steady : NeverFails (may_fail c.source)
  pub unordered : vec_len c.ordered ≡ 0
  pub room : vec_len c.paths ≤ vec_capacity c.ordered

-- It has come so far with this column, and holds an id for each chunk that its source has left.
pub record Underway {B : Type 0} (to_come : B → Option (List ChunkData)) (kind : B → Ty) (left : B → ℕ) (x : Course) (c : ColumnMachine B) : Type 0 where
  pub stands : StandsAt x (machine_of c.machine) (to_come c.source) (written_of c.desk) c.paths.items
  pub type_is : kind c.source ≡ x.column.type
  pub number_is : c.column ≡ x.number
  pub enough : HasNames (phase_of c.machine.phase) (left c.source)

-- what is begun with these is this column's write
pub record IsGiven (allowed : Allowed) (way : StrategyData) (t : Ty) (mark : Bool) (number : ℕ) (part : Outset) (to_come : Option (List ChunkData)) (x : Course) : Type 0 where
  pub careful : Careful x.setting
  pub allowed_is : x.setting.allowed ≡ allowed
  pub way_is : x.column.way ≡ way
  pub type_is : x.column.type ≡ t
  pub mark_is : x.column.mark ≡ mark
  pub number_is : x.number ≡ number
  pub part_is : part ≡ outset_of x
  pub told : to_come ≡ Some x.chunks
  pub typed : OfSchema x.column.type x.chunks

-- the least path that is active; nothing where none is
abbrev pub IsFront : Active → Option (List ℕ) → Type 0
IsFront u None = u ≡ map.empty
IsFront u (Some p) = IsActive u p × IsLeast u p

-- and compresses so
abbrev pub IsSet : {B : Type 0} → (ℕ → ChunkData → ChunkData) → Course → ColumnMachine B → Type 0
IsSet image x c = setting_of c.ctx image ≡ x.setting

-- nothing was written; or one segment, a pair of the plan, at its path
abbrev pub Wrote : Course → List (List ℕ) → List (List ℕ) → Option (Vec ℕ) → Type 0
Wrote x before after None = after ≡ before
Wrote x before after (Some bytes) = (p : Pair) × In p (plan_of x).pairs × (after ≡ before ++ (p.0 ∷ [])) × (bytes.items ≡ p.1)
