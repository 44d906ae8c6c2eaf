-- Runs of the machine, and what they did.
use Rattle.std.specs.Prelude.{◌≡◌, ◌+◌, ◌%◌, ◌∷◌, ℕ, zero, suc, List, map, length, Some, IsFalse, []}
use Rattle.vx_path.specs.Lists.{In}
use Rattle.vx_tasks.specs.Run.{first_pick, later_picks, nth, Note}
use Rattle.vx_tasks.specs.Runs.{noted}
use Rattle.vx_plan.specs.PlanData.{Setting, Pair}
use Rattle.vx_machine_turns.specs.Acts.{Act, refuses, wrote}
use Rattle.vx_machine_turns.specs.Fuels.{Fuel}
use Rattle.vx_machine_steps.specs.Moves.{TreeMove, machine_moves}
use Rattle.vx_machine_steps.specs.Tree.{Tree, Leaf, Work}

-- the moves lead from one state to another: each can be done where it stands, and doesn't refuse
abbrev pub Runs : Setting → Fuel → Tree → List TreeMove → Tree → Type 0
Runs s d t [] e = t ≡ e
Runs s d t (m ∷ ms) e = In m (machine_moves s d t) × IsFalse (refuses m.act) × Runs s d m.after ms e

-- the place of the next pick
abbrev pub pick_of : Setting → Fuel → Tree → List ℕ → ℕ
pick_of s d t picks = first_pick picks % length (machine_moves s d t)

-- the same under a schedule: each is the one that is picked
abbrev pub RunsBy : Setting → Fuel → Tree → List ℕ → List TreeMove → Tree → Type 0
RunsBy s d t picks [] e = t ≡ e
RunsBy s d t picks (m ∷ ms) e =
    (nth (machine_moves s d t) (pick_of s d t picks) ≡ Some m) × IsFalse (refuses m.act) × RunsBy s d m.after (later_picks picks) ms e

-- what is noted of them
abbrev pub notes : Setting → Fuel → Tree → List ℕ → List TreeMove → List Note
notes s d t picks [] = []
notes s d t picks (m ∷ ms) = noted (length (machine_moves s d t)) (pick_of s d t picks) m.name m.act.kind ∷ notes s d m.after (later_picks picks) ms

-- the picks left after so many
abbrev pub picks_after : ℕ → List ℕ → List ℕ
picks_after zero picks = picks
picks_after (suc n) picks = picks_after n (later_picks picks)

abbrev pub acts_of : List TreeMove → List Act
acts_of ms = map (λ m. m.act) ms

-- the pairs that they append, in order
abbrev pub appended : List TreeMove → List Pair
appended ms = wrote (acts_of ms)

-- what a function gives for all that the tasks have done, summed
abbrev pub done : (List Act → ℕ) → Tree → ℕ
done f Leaf = 0
done f (Work h ks r) = f h.past + (done f ks + done f r)
