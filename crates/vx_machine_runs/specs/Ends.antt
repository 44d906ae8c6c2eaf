-- What stands where a run ends, or a step of it is refused.
use Rattle.std.specs.Prelude.{◌≡◌, ◌<◌, ◌⊎◌, ℕ, Bool, true, List, [], ◌∷◌, length, Some, None, IsTrue, IsFalse}
use Rattle.vx_model.specs.ChunkData.{ChunkData}
use Rattle.vx_path.specs.Lists.{In}
use Rattle.vx_machine_state.specs.Images.{Careful}
use Rattle.vx_tasks.specs.Run.{Note}
use Rattle.vx_plan.specs.PlanData.{Plan, What}
use Rattle.vx_plan.specs.Number.{sorted, numbered}
use Rattle.vx_plan.specs.SourcePlan.{start_fault, source_plan}
use Rattle.vx_plan.specs.Valid.{Has}
use Rattle.vx_machine_turns.specs.Planned.{AtMost}
use Rattle.vx_machine_promises.specs.Write.{Write, Future, Open, Answer, planned, taken_by, heard_by}
use Rattle.vx_machine_state.specs.Acts.{layouts_in}
use Rattle.vx_machine_view.specs.Machine.{WholeStep, is_finished}
use Rattle.vx_machine_state.specs.Reserved.{reserved_by}
use Rattle.vx_machine_view.specs.Underway.{ready_steps}
use Rattle.vx_machine_runs.specs.Runs.{Stand, Chosen, UnderwayAt}

-- the plan of these batches
abbrev pub plan_of : Write → List ChunkData → Bool → Plan
plan_of g taken heard = source_plan g.setting g.way g.type g.mark taken heard

-- something is ready until the machine has finished
abbrev pub StaysReady : Type 0
StaysReady = (g : Write) (first : ℕ) (seen : List Note) (x : Stand) (a : Answer) → Careful g.setting → UnderwayAt g first seen x
    → IsFalse (is_finished x.machine) → 0 < length (ready_steps g first x.history a x.machine)

-- All is done, by the plan of the batches that were taken.
pub record Whole (g : Write) (first : ℕ) (x : Stand) : Type 0 where
  pub heard : x.heard ≡ true
  pub faultless : (plan_of g x.taken true).faults ≡ []
  pub appended : x.history ≡ sorted (plan_of g x.taken true).pairs
  pub layout : layouts_in x.machine.root ≡ numbered (plan_of g x.taken true) first ∷ []
  -- in the tracker
  pub released : reserved_by x.machine.root ≡ 0

abbrev pub EndsWhole : Type 0
EndsWhole = (g : Write) (first : ℕ) (seen : List Note) (x : Stand) → UnderwayAt g first seen x → start_fault g.setting g.way g.type g.mark ≡ None → IsTrue (is_finished x.machine)
    → Whole g first x

-- Why a step may be refused: by a fault of the plan, and by what this counts.
pub record Caused (p : Plan) (w : WholeStep) : Type 0 where
  pub refusal : (x : What) → w.refusal ≡ Some x → Has x p.faults
  pub numbers : (n : ℕ) → In n w.numbers → In n p.numbers
  pub indices : (n : ℕ) → In n w.indices → AtMost n p.numbers
  pub joined : (n : ℕ) → In n w.joined → (n ≡ 0) ⊎ In n p.numbers

-- of the plan of the batches taken by then, and of those that may still come
abbrev pub StepsHaveCause : Type 0
StepsHaveCause = (g : Write) (first : ℕ) (seen : List Note) (x : Stand) (told : Answer) (f : Future) (k : ℕ) (w : WholeStep) → Careful g.setting
    → UnderwayAt g first seen x → Open (heard_by x.heard told) f → Chosen g first x told k w → Caused (planned g (taken_by x.taken told) f) w
