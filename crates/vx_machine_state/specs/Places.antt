-- Where a task's steps stand among all.
use Rattle.std.specs.Prelude.{◌≡◌, ◌+◌, ◌<◌, ℕ, Bool, true, false, List, length, Some, option_map, IsTrue}
use Rattle.vx_tasks.specs.Run.{nth}
use Rattle.vx_plan.specs.PlanData.{Setting}
use Rattle.vx_machine_state.specs.State.{Desk, Tasks, no_tasks, task_then}
use Rattle.vx_machine_state.specs.Acts.{do_act}
use Rattle.vx_machine_state.specs.Moves.{may_act, own_step, in_kids, in_rest, steps}

abbrev pub one_if : Bool → ℕ
one_if true = 1
one_if false = 0

-- how many are ready, of these tasks and all below them, where these paths are held in all
abbrev pub ready_in : List (List ℕ) → Tasks → ℕ
ready_in all no_tasks = 0
ready_in all (task_then c ks r) = (one_if (may_act all c ks c.todo) + ready_in all ks) + ready_in all r

abbrev pub StepsAreReady : Type 0
StepsAreReady = (s : Setting) (all : List (List ℕ)) (number : ℕ) (cs : Tasks) → length (steps s all number cs) ≡ ready_in all cs

-- A ready task comes first, then its children, then its later siblings.

abbrev pub OwnPlace : Type 0
OwnPlace = (s : Setting) (all : List (List ℕ)) (number : ℕ) (c : Desk) (ks r : Tasks) → IsTrue (may_act all c ks c.todo)
    → nth (steps s all number (task_then c ks r)) 0 ≡ Some (own_step c r (do_act s number c ks c.todo))

abbrev pub KidPlace : Type 0
KidPlace = (s : Setting) (all : List (List ℕ)) (number : ℕ) (c : Desk) (ks r : Tasks) (k : ℕ) → k < ready_in all ks
    → nth (steps s all number (task_then c ks r)) (one_if (may_act all c ks c.todo) + k) ≡ option_map (in_kids c r) (nth (steps s all number ks) k)

abbrev pub RestPlace : Type 0
RestPlace = (s : Setting) (all : List (List ℕ)) (number : ℕ) (c : Desk) (ks r : Tasks) (k : ℕ)
    → nth (steps s all number (task_then c ks r)) ((one_if (may_act all c ks c.todo) + ready_in all ks) + k) ≡ option_map (in_rest c ks) (nth (steps s all number r) k)
