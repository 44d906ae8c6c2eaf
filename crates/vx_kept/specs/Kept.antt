-- What is kept of a task's children: how many were ready of each and below it, as was counted last, and which are to be counted anew.
use Rattle.std.specs.Prelude.{◌≡◌, ℕ, suc, ◌+◌, ◌-◌, ◌^◌, min, List, [], ◌∷◌}
use Rattle.vx_path.specs.Lists.{In}
use Rattle.vx_machine_state.specs.State.{Desk, Tasks, no_tasks, task_then}
use Rattle.vx_machine_state.specs.Moves.{may_act}
use Rattle.vx_machine_state.specs.Places.{one_if, ready_in}
use Rattle.vx_kept.specs.declared.counts.Counts.{Counts, out-Counts}

-- as far as 64 bits tell
abbrev pub counted : ℕ → ℕ
counted n = min n (2 ^ 64 - 1)

-- how many are ready of a task and all below it, where these paths are held in all
abbrev pub ready_at : List (List ℕ) → Desk → Tasks → ℕ
ready_at all c ks = counted (one_if (may_act all c ks c.todo) + ready_in all ks)

-- of each of these
abbrev pub ready_each : List (List ℕ) → Tasks → List ℕ
ready_each all no_tasks = []
ready_each all (task_then c ks r) = ready_at all c ks ∷ ready_each all r

abbrev pub ready_of : Counts → List ℕ
ready_of x = (out-Counts x).ready

abbrev pub asked_of : Counts → List ℕ
asked_of x = (out-Counts x).asked.items

abbrev pub kids_of : Counts → List Counts
kids_of x = (out-Counts x).kids.items

-- Of the children from number i on: each count is right, where these paths are held in all; and whatever paths are held, where the
-- child isn't to be counted anew.
abbrev pub FreshFrom : List (List ℕ) → List ℕ → ℕ → List ℕ → List Counts → Tasks → Type 0
FreshFrom all asked i [] [] no_tasks = Unit {0}
FreshFrom all asked i (n ∷ ns) xs no_tasks = ⊥
FreshFrom all asked i [] (x ∷ xs) no_tasks = ⊥
FreshFrom all asked i [] xs (task_then c ks r) = ⊥
FreshFrom all asked i (n ∷ ns) [] (task_then c ks r) = ⊥
FreshFrom all asked i (n ∷ ns) (x ∷ xs) (task_then c ks r) =
    ((n ≡ ready_at all c ks) × FreshFrom all (asked_of x) 0 (ready_of x) (kids_of x) ks)
    × (¬ In i asked → (every : List (List ℕ)) → (n ≡ ready_at every c ks) × FreshFrom every (asked_of x) 0 (ready_of x) (kids_of x) ks)
    × FreshFrom all asked (suc i) ns xs r

abbrev pub Fresh : List (List ℕ) → Counts → Tasks → Type 0
Fresh all x ks = FreshFrom all (asked_of x) 0 (ready_of x) (kids_of x) ks

-- a child's count is right, and those below it, whatever paths are held
abbrev pub Steady : ℕ → Counts → Desk → Tasks → Type 0
Steady n x c ks = (every : List (List ℕ)) → (n ≡ ready_at every c ks) × Fresh every x ks

-- Of the children from number i on: each count is steady, but where the child is to be counted anew; the last may not be counted yet.
abbrev pub KnowsFrom : List ℕ → ℕ → List ℕ → List Counts → Tasks → Type 0
KnowsFrom asked i [] [] ks = Unit {0}
KnowsFrom asked i (n ∷ ns) [] ks = ⊥
KnowsFrom asked i [] (x ∷ xs) ks = ⊥
KnowsFrom asked i (n ∷ ns) (x ∷ xs) no_tasks = ⊥
KnowsFrom asked i (n ∷ ns) (x ∷ xs) (task_then c ks r) =
    (¬ In i asked → Steady n x c ks) × KnowsFrom (asked_of x) 0 (ready_of x) (kids_of x) ks × KnowsFrom asked (suc i) ns xs r

abbrev pub Knows : Counts → Tasks → Type 0
Knows x ks = KnowsFrom (asked_of x) 0 (ready_of x) (kids_of x) ks

-- While they are counted anew: some are still to be asked, and of those that were some will be asked again.
abbrev pub GoingFrom : List (List ℕ) → List ℕ → List ℕ → ℕ → List ℕ → List Counts → Tasks → Type 0
GoingFrom all asked later i [] [] no_tasks = Unit {0}
GoingFrom all asked later i (n ∷ ns) xs no_tasks = ⊥
GoingFrom all asked later i [] (x ∷ xs) no_tasks = ⊥
GoingFrom all asked later i [] xs (task_then c ks r) = ⊥
GoingFrom all asked later i (n ∷ ns) [] (task_then c ks r) = ⊥
GoingFrom all asked later i (n ∷ ns) (x ∷ xs) (task_then c ks r) =
    (¬ In i asked → ((n ≡ ready_at all c ks) × Fresh all x ks) × (¬ In i later → Steady n x c ks)) × Knows x ks × GoingFrom all asked later (suc i) ns xs r
