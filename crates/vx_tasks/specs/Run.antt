-- What can be done in a state, and runs under a schedule.
use Rattle.std.specs.Prelude.{◌≡◌, ℕ, ◌%◌, Bool, true, false, cond, not, nat_eq, ◌||◌, zero, suc, List, [], ◌∷◌, ◌++◌, map, length, IsFalse, Option, Some, None}
use Rattle.vx_path.specs.Lists.{In}
use Rattle.vx_path.specs.Path.{is_least}
use Rattle.vx_tasks.specs.Task.{Task, Action, Kind, Forest, Prompt, next, started, closed, appends_of}
use Rattle.vx_tasks.specs.Task.Forest.{Bare, Node}
use Rattle.vx_tasks.specs.Task.Kind.{Free, Take, TakeEnd, Put, Append, Join}
use Rattle.vx_tasks.specs.State.{Counts, top, below, beside, left_started, queue, full, held, left}
use Rattle.vx_tasks.specs.State.Counts.{Zeros, Count}

-- there is something in the list
abbrev pub any_there : List (List ℕ) → Bool
any_there [] = false
any_there (x ∷ xs) = true

-- Whether an action of a task t may be done: all are the paths held anywhere, q is what stands in t's
-- queue, shut tells whether it is closed, and t has done m actions, its children are kids in state s.
abbrev pub can : List (List ℕ) → List (List ℕ) → Bool → Task → ℕ → Forest → Counts → Kind → Bool
can all q shut t m kids s (Free w) = true
can all q shut t m kids s Take = any_there q || shut
can all q shut t m kids s TakeEnd = any_there q || shut
can all q shut t m kids s (Put c) = not (full t m 0 kids s c)
can all q shut t m kids s (Append x) = is_least x all
can all q shut t m kids s Join = nat_eq (left_started t m 0 kids s) 0

-- A thing that can be done: the task's name, its action, and the state after it.
pub record Move : Type 0 where
  pub name : List ℕ
  pub action : Action
  pub after : Counts

-- what the first task of a forest in state s can do, where todo is what it has still to do
abbrev pub own_move : List (List ℕ) → List (List ℕ) → Bool → Task → Forest → Counts → List Action → List Move
own_move all q shut t kids s [] = []
own_move all q shut t kids s (a ∷ todo) =
    cond (can all q shut t (top s) kids (below s) a.kind)
    (record { name = t.name; action = a; after = Count (suc (top s)) (below s) (beside s) } ∷ []) []

abbrev pub move_below : Counts → Move → Move
move_below s m = record { name = m.name; action = m.action; after = Count (top s) m.after (beside s) }

abbrev pub move_beside : Counts → Move → Move
move_beside s m = record { name = m.name; action = m.action; after = Count (top s) (below s) m.after }

-- what can be done by p's children from number j on and by all below them, a task before its children and
-- these before its siblings. Only a started task can do anything
abbrev pub moves : List (List ℕ) → Task → ℕ → ℕ → Forest → Counts → List Move
moves all p n j Bare s = []
moves all p n j (Node t kids rest) s =
    cond (started p j n)
    (own_move all (queue p n j t (top s)) (closed p j n) t kids s (next t (top s))
    ++ map (move_below s) (moves all t (top s) 0 kids (below s))) []
    ++ map (move_beside s) (moves all p n (suc j) rest (beside s))

-- What stands above the whole: it has started its child 0, has given it nothing, and has closed its queue.
abbrev pub outside : Task
outside = record {
  name = [];
  first = 0 ∷ [];
  held = [];
  spare = [];
  eof = [];
  script = record { kind = Free Prompt.Close; starts = []; gives = []; shuts = 0 ∷ []; holds = []; refuses = false } ∷ [];
}

-- all paths that are held
abbrev pub all_held : Forest → Counts → List (List ℕ)
all_held f s = held outside 1 0 f s

-- all that can be done
abbrev pub all_moves : Forest → Counts → List Move
all_moves f s = moves (all_held f s) outside 1 0 f s

-- how many tasks are ready
abbrev pub ready : Forest → Counts → ℕ
ready f s = length (all_moves f s)

-- the number of actions of all tasks
abbrev pub work : Forest → ℕ
work f = left f Zeros

-- The moves lead from state s to state e: each can be done where it stands, and doesn't refuse.
abbrev pub Leads : Forest → Counts → List Move → Counts → Type 0
Leads f s [] e = s ≡ e
Leads f s (m ∷ ms) e = In m (all_moves f s) × IsFalse m.action.refuses × Leads f m.after ms e

-- what the moves append, in order
abbrev pub written : List Move → List (List ℕ)
written [] = []
written (m ∷ ms) = appends_of m.action.kind ++ written ms

-- Runs under a schedule, a list of picks. Of the tasks that are ready, in order of names, the one at the
-- pick modulo their number is taken, and past the list's end the first.

abbrev pub first_pick : List ℕ → ℕ
first_pick [] = 0
first_pick (p ∷ ps) = p

abbrev pub later_picks : List ℕ → List ℕ
later_picks [] = []
later_picks (p ∷ ps) = ps

-- A step: how many tasks were ready, the place of the one picked, and what it did.
pub record Step : Type 0 where
  pub ready : ℕ
  pub picked : ℕ
  pub move : Move

abbrev pub nth : {A : Type 0} → List A → ℕ → Option A
nth [] k = None
nth (x ∷ xs) zero = Some x
nth (x ∷ xs) (suc k) = nth xs k

-- the step of the move at place k of so many, and those after it. There is none where nothing is there
-- or the action refuses
abbrev pub step_at : ℕ → ℕ → Option Move → (Move → List Step) → List Step
step_at size k None go = []
step_at size k (Some m) go =
    elim m.action.refuses [ true ↦ [] | false ↦ record { ready = size; picked = k; move = m } ∷ go m ]

abbrev pub step_of : List Move → ℕ → (Move → List Step) → List Step
step_of ms pick go = let k = pick % length ms in step_at (length ms) k (nth ms k) go

-- the first steps from state s, at most so many
abbrev pub run : Forest → Counts → List ℕ → ℕ → List Step
run f s picks zero = []
run f s picks (suc n) = step_of (all_moves f s) (first_pick picks) (λ m. run f m.after (later_picks picks) n)

-- the state after the steps
abbrev pub end_of : Counts → List Step → Counts
end_of s [] = s
end_of s (x ∷ xs) = end_of x.move.after xs

abbrev pub moves_of : List Step → List Move
moves_of xs = map (λ x. x.move) xs

-- what is noted of a step
pub record Note : Type 0 where
  pub ready : ℕ
  pub picked : ℕ
  pub name : List ℕ
  pub kind : Kind

abbrev pub note : Step → Note
note x = record { ready = x.ready; picked = x.picked; name = x.move.name; kind = x.move.action.kind }

-- the trace of the whole run under a schedule
abbrev pub trace : Forest → List ℕ → List Note
trace f picks = map note (run f Zeros picks (work f))

-- how many were ready at each step
abbrev pub ready_counts : Forest → List ℕ → List ℕ
ready_counts f picks = map (λ x. x.ready) (run f Zeros picks (work f))
