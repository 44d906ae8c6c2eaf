-- Where the steps of the source and of the root stand among all.
use Rattle.std.specs.Prelude.{◌≡◌, ◌+◌, ℕ, List, length, Some, option_map, IsTrue}
use Rattle.vx_tasks.specs.Run.{nth}
use Rattle.vx_plan.specs.PlanData.{Setting}
use Rattle.vx_machine_promises.specs.Write.{Answer}
use Rattle.vx_machine_state.specs.Moves.{steps}
use Rattle.vx_machine_view.specs.Machine.{Machine, may_source, source_step, in_root, whole_steps}
use Rattle.vx_machine_state.specs.Places.{one_if, ready_in}

abbrev pub whole_ready : List (List ℕ) → Machine → ℕ
whole_ready all m = one_if (may_source m.phase m.root) + ready_in all m.root

-- The source comes first, then the root.

abbrev pub WholeIsReady : Type 0
WholeIsReady = (s : Setting) (all : List (List ℕ)) (number : ℕ) (a : Answer) (m : Machine) → length (whole_steps s all number a m) ≡ whole_ready all m

abbrev pub SourcePlace : Type 0
SourcePlace = (s : Setting) (all : List (List ℕ)) (number : ℕ) (a : Answer) (m : Machine) → IsTrue (may_source m.phase m.root)
    → nth (whole_steps s all number a m) 0 ≡ Some (source_step a m.phase m.root)

abbrev pub RootPlace : Type 0
RootPlace = (s : Setting) (all : List (List ℕ)) (number : ℕ) (a : Answer) (m : Machine) (k : ℕ)
    → nth (whole_steps s all number a m) (one_if (may_source m.phase m.root) + k) ≡ option_map (in_root m.phase) (nth (steps s all number m.root) k)
