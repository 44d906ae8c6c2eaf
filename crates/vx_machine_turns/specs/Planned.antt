-- What is read off a form's task and all below it, against the plan.
use Rattle.std.specs.Prelude.{◌≡◌, ℕ, ◌+◌, ◌≤◌, Bool, true, List, [], ◌∷◌, ◌++◌, Some, None}
use Rattle.vx_model.specs.Ty.{Ty}
use Rattle.vx_path.specs.Lists.{In}
use Rattle.vx_path.specs.Path.{Eof}
use Rattle.vx_strategy_spec.specs.StrategyData.{StrategyData}
use Rattle.vx_strategy_spec.specs.Walk.{walk}
use Rattle.vx_plan.specs.PlanData.{Setting, Item, Plan, Node, What}
use Rattle.vx_plan.specs.SourcePlan.{plan}
use Rattle.vx_plan.specs.SourcePlan as plans
use Rattle.vx_plan.specs.Valid.{Has}
use Rattle.vx_machine_turns.specs.Forms.{Form, form_nodes, form_type}
use Rattle.vx_machine_turns.specs.Acts.{wrote, first_refusal, shape_in, numbers_in, indices_in, raised_in, lowered_in}
use Rattle.vx_machine_turns.specs.Starts.{start_fault}
use Rattle.vx_machine_turns.specs.Turns.{start_indices}
use Rattle.vx_machine_turns.specs.Fuels.{Fuel, fuel_of, Enough}
use Rattle.vx_machine_turns.specs.Readings.{pair_reading, fault_reading, layout_reading, number_reading, index_reading, start_reading, raise_reading, lower_reading, shaped}
use Rattle.vx_machine_turns.specs.Duties.{Duty, duty_of, duty_script, below}

-- one of the numbers is at least n
abbrev pub AtMost : ℕ → List ℕ → Type 0
AtMost n ms = (m : ℕ) × In m ms × (n ≤ m)

-- the task of a duty and all below it, against a plan
pub record Meets (s : Setting) (d : Fuel) (c : Duty) (p : Plan) : Type 0 where
  -- what they append
  pub pairs : wrote (duty_script s c) ++ below s pair_reading d c ≡ p.pairs
  -- what one of them refuses is a fault, and if none refuses, there is none
  pub cause : (w : What) → In w (first_refusal (duty_script s c) ++ below s fault_reading d c) → Has w p.faults
  pub clean : first_refusal (duty_script s c) ++ below s fault_reading d c ≡ [] → c.start ≡ None → p.faults ≡ []
  pub begins : (w : What) → c.start ≡ Some w → Has w p.faults
  pub layout : c.ended ≡ true → p.faults ≡ [] → shaped (shape_in (duty_script s c)) (below s layout_reading d c) ≡ p.layout ∷ []
  -- what they count is among the plan's numbers
  pub numbers : (n : ℕ) → In n (numbers_in (duty_script s c) ++ below s number_reading d c) → In n p.numbers
  -- and how far their pointers come, in actions and at starts, is at most one of these
  pub indices : (n : ℕ) → In n (indices_in (duty_script s c) ++ below s index_reading d c) → AtMost n p.numbers
  pub starts : (n : ℕ) → In n (start_indices c.seed.local ++ below s start_reading d c) → AtMost n p.numbers
  -- what they add to the tracker; once all have ended, all of it is taken from it again
  pub raises : raised_in (duty_script s c) + below s raise_reading d c ≡ p.reserved
  pub lowers : c.ended ≡ true → lowered_in (duty_script s c) + below s lower_reading d c ≡ p.reserved

-- A form's tasks are a node's plan: at any mark, name, stream and eof path.
pub record Fair (s : Setting) (k : Node) (f : Form) : Type 0 where
  pub fair : (m : Bool) (name : List ℕ) (items : List Item) (ended : Bool) (e : Eof) (d : Fuel) → Enough d f
      → Meets s d (duty_of s f m name items ended e) (k m items ended e)

-- The tasks of a strategy at a type are its plan there.
abbrev pub TasksArePlanned : Type 0
TasksArePlanned = (s : Setting) (w : StrategyData) (t : Ty) → Fair s (plan s w t) (walk form_nodes w t)

-- A form has the type that the strategy is walked at, and its own fuel is enough.
abbrev pub FuelIsEnough : Type 0
FuelIsEnough = (w : StrategyData) (t : Ty) → (form_type (walk form_nodes w t) ≡ t) × Enough (fuel_of (walk form_nodes w t)) (walk form_nodes w t)

-- What a form's start refuses is what the plan refuses at the start.
abbrev pub StartFaultsAgree : Type 0
StartFaultsAgree = (s : Setting) (w : StrategyData) (t : Ty) (m : Bool) → start_fault s (walk form_nodes w t) m ≡ plans.start_fault s w t m
