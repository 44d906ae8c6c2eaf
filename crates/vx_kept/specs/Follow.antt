-- What an act may change of the counts of its task's children.
use Rattle.std.specs.Prelude.{◌≡◌, ℕ, zero, suc, Bool, true, false, List, [], ◌∷◌}
use Rattle.vx_plan.specs.PlanData.{Item}
use Rattle.vx_machine_state.specs.State.{Next, put, hand_on, press, probe, open_run, end_run, append, shut_kids, join_kids, start_table, leave_kid, Desk, Tasks, no_tasks, task_then}
use Rattle.vx_machine_state.specs.Acts.{give, add, end_at}
use Rattle.vx_kept.specs.declared.counts.Touched.{Touched}
use Rattle.vx_kept.specs.declared.counts.Touched.TheVariants.{Child, Both, All, Nothing}

-- the next act of a task that has this left to do
abbrev pub touched_by : List Next → Touched
touched_by [] = Nothing
touched_by (put j i ∷ todo) = Child j
touched_by (hand_on n i ∷ todo) = Child 0
touched_by (press which i ∷ todo) = Nothing
touched_by (probe n e i ∷ todo) = Nothing
touched_by (open_run n j e i ∷ todo) = Nothing
touched_by (end_run j i ∷ todo) = Both j
touched_by (append x ∷ todo) = Nothing
touched_by (shut_kids ∷ todo) = All
touched_by (join_kids f ∷ todo) = All
touched_by (start_table f e p ∷ todo) = Nothing
touched_by (leave_kid e ∷ todo) = Nothing

-- so the children become
abbrev pub Follows : Touched → Tasks → Tasks → Type 0
Follows (Child j) ks js = (i : Item) × (js ≡ give j i ks)
Follows (Both j) ks js = (i : Item) × (js ≡ end_at j i ks)
Follows All ks js = Unit {0}
Follows Nothing ks js = (new : Tasks) × (js ≡ add ks new)

-- child j is another
abbrev pub swap : ℕ → Desk → Tasks → Tasks → Tasks
swap j d js no_tasks = no_tasks
swap zero d js (task_then c ks r) = task_then d js r
swap (suc j) d js (task_then c ks r) = task_then c ks (swap j d js r)

-- child j is this one
abbrev pub KidIs : ℕ → Tasks → Desk → Tasks → Type 0
KidIs j no_tasks d js = ⊥
KidIs zero (task_then c ks r) d js = (d ≡ c) × (js ≡ ks)
KidIs (suc j) (task_then c ks r) d js = KidIs j r d js

-- what is next is an append
abbrev pub waits : List Next → Bool
waits [] = false
waits (put j i ∷ todo) = false
waits (hand_on n i ∷ todo) = false
waits (press which i ∷ todo) = false
waits (probe n e i ∷ todo) = false
waits (open_run n j e i ∷ todo) = false
waits (end_run j i ∷ todo) = false
waits (append x ∷ todo) = true
waits (shut_kids ∷ todo) = false
waits (join_kids f ∷ todo) = false
waits (start_table f e p ∷ todo) = false
waits (leave_kid e ∷ todo) = false
