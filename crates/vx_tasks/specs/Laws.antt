-- The laws, for every tree f, and every list of moves ms that leads from its start to a state e.
use Rattle.std.specs.Prelude.{◌≡◌, ℕ, suc, ◌+◌, ◌<◌, ◌⊎◌, List, ◌++◌, length, map, IsTrue}
use Rattle.vx_path.specs.Lists.{In}
use Rattle.vx_path.specs.Path.{path_le}
use Rattle.vx_path.specs.Sort.{sort, Ascends}
use Rattle.vx_tasks.specs.Task.{Forest}
use Rattle.vx_tasks.specs.State.{Counts, left, pending}
use Rattle.vx_tasks.specs.State.Counts.{Zeros}
use Rattle.vx_tasks.specs.Run.{Move, all_held, all_moves, ready, work, Leads, written, run, end_of, moves_of, outside}
use Rattle.vx_tasks.specs.Queues.{AllQueued}
use Rattle.vx_tasks.specs.Rules.{KeepsRules, KeepsOrder, AtLeast, appends, Rises, names, NoneRefuses, AllEnd}

-- each move lowers the work left by one
abbrev pub MoveLowers : Type 0
MoveLowers = (f : Forest) (s : Counts) (m : Move) → In m (all_moves f s) → suc (left f m.after) ≡ left f s

-- so the work left and the moves made are the work at the start
abbrev pub WorkIsShared : Type 0
WorkIsShared = (f : Forest) (e : Counts) (ms : List Move) → Leads f Zeros ms e → left f e + length ms ≡ work f

-- where work is left, a task is ready
abbrev pub SomeReady : Type 0
SomeReady = (f : Forest) (e : Counts) (ms : List Move) → KeepsRules f → Leads f Zeros ms e → 0 < left f e → 0 < ready f e

-- and only there
abbrev pub NoneReady : Type 0
NoneReady = (f : Forest) (s : Counts) → left f s ≡ 0 → ready f s ≡ 0

-- a path still to be appended is at least one that is held
abbrev pub PendingCovered : Type 0
PendingCovered = (f : Forest) (s : Counts) → KeepsRules f → KeepsOrder f → (x : List ℕ) → In x (pending f s) → AtLeast (all_held f s) x

-- what was appended ascends
abbrev pub WrittenAscends : Type 0
WrittenAscends = (f : Forest) (e : Counts) (ms : List Move) → KeepsRules f → KeepsOrder f → Leads f Zeros ms e → Ascends (λ p. p) (written ms)

-- what was appended is at most all that is still to be appended
abbrev pub WrittenBelow : Type 0
WrittenBelow = (f : Forest) (e : Counts) (ms : List Move) → KeepsRules f → KeepsOrder f → Leads f Zeros ms e
    → (x y : List ℕ) → In x (written ms) → In y (pending f e) → IsTrue (path_le x y)

-- what was appended are the first of all appends, sorted by path
abbrev pub WrittenFirst : Type 0
WrittenFirst = (f : Forest) (e : Counts) (ms : List Move) → KeepsRules f → KeepsOrder f → Leads f Zeros ms e
    → sort (appends f) ≡ written ms ++ sort (pending f e)

-- where no work is left, no task refuses, and every stream has ended
abbrev pub EndIsWhole : Type 0
EndIsWhole = (f : Forest) (e : Counts) (ms : List Move) → KeepsRules f → Leads f Zeros ms e → left f e ≡ 0 → NoneRefuses f × AllEnd outside 0 f

-- a run under a schedule is such a list of moves
abbrev pub RunLeads : Type 0
RunLeads = (f : Forest) (picks : List ℕ) (n : ℕ) → let steps = run f Zeros picks n in Leads f Zeros (moves_of steps) (end_of Zeros steps)

-- it stops before so many steps only where no work is left or some action that can be done refuses
abbrev pub RunStops : Type 0
RunStops = (f : Forest) (picks : List ℕ) (n : ℕ) → KeepsRules f → let steps = run f Zeros picks n in length steps < n
    → (left f (end_of Zeros steps) ≡ 0) ⊎ ((m : Move) × In m (all_moves f (end_of Zeros steps)) × IsTrue m.action.refuses)

-- where no task refuses, it takes exactly the steps of the work
abbrev pub RunIsWhole : Type 0
RunIsWhole = (f : Forest) (picks : List ℕ) → KeepsRules f → NoneRefuses f → length (run f Zeros picks (work f)) ≡ work f

-- where a move is still there, as one that refuses, fewer than those were made
abbrev pub RefusedEarly : Type 0
RefusedEarly = (f : Forest) (e : Counts) (ms : List Move) (m : Move) → Leads f Zeros ms e → In m (all_moves f e) → length ms < work f

-- where the names ascend in the walk of the tree, a task before its children and these before its
-- siblings, the tasks that are ready are found in order of their names
abbrev pub NamesAscend : Type 0
NamesAscend = (f : Forest) (s : Counts) → Rises (names f) → Rises (map (λ m. m.name) (all_moves f s))

-- how the queues stand in each state that a run reaches
abbrev pub QueuesStand : Type 0
QueuesStand = (f : Forest) (e : Counts) (ms : List Move) → KeepsRules f → Leads f Zeros ms e → AllQueued outside 1 0 f e
