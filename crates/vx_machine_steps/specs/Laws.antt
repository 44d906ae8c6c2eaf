-- The laws of the machine's states.
use Rattle.std.specs.Prelude.{◌≡◌, ◌+◌, ◌≤◌, ◌<◌, ◌⊎◌, ◌∷◌, ◌++◌, ◌↔◌, ℕ, suc, Bool, List, map, length, Some, IsTrue, IsFalse, []}
use Rattle.vx_path.specs.Lists.{In}
use Rattle.vx_path.specs.Sort.{sort_by}
use Rattle.vx_path.specs.Path.{Scattered}
use Rattle.vx_tasks.specs.Task.{Join}
use Rattle.vx_tasks.specs.State.{Zeros, left}
use Rattle.vx_tasks.specs.Rules.{AtLeast, KeepsRules, KeepsOrder, NoneRefuses}
use Rattle.vx_tasks.specs.Run.{all_held, all_moves, work, Leads, nth, run, note, trace}
use Rattle.vx_tasks.specs.Runs.{noted}
use Rattle.vx_named_tasks.specs.Names.{Outset}
use Rattle.vx_plan.specs.PlanData.{Setting, Pair, What, paths}
use Rattle.vx_model.specs.ChunkData.{ChunkData}
use Rattle.vx_machine_turns.specs.Acts.{Seed, Act, refuses}
use Rattle.vx_machine_turns.specs.Forms.{Form}
use Rattle.vx_machine_turns.specs.Fuels.{Fuel, less}
use Rattle.vx_machine_turns.specs.Turns.{firsts}
use Rattle.vx_machine_turns.specs.Readings.{Reading, unread, pair_reading, fault_reading, start_reading}
use Rattle.vx_machine_turns.specs.Plain.{task_of}
use Rattle.vx_machine_turns.specs.Source.{named_acts, seed_at}
use Rattle.vx_machine_turns.specs.Tidy.{Tidy}
use Rattle.vx_machine_steps.specs.Moves.{Due, due, all_paths, all_over, TreeMove, machine_moves, view}
use Rattle.vx_machine_steps.specs.Runs.{Runs, pick_of, RunsBy, notes, picks_after, acts_of, appended, done}
use Rattle.vx_machine_steps.specs.Stands.{Neat, AllNeat, Stands}
use Rattle.vx_machine_steps.specs.Start.{root_at, start_at}
use Rattle.vx_machine_steps.specs.Tree.{Tree, Leaf, Work, read, forest, counts, opened}

-- The machine and the theory.

-- what can be done is what the theory says
abbrev pub MovesAgree : Type 0
MovesAgree = (s : Setting) (d : Fuel) (t : Tree) → Stands s d t → all_moves (forest s d t) (counts t) ≡ map view (machine_moves s d t)

-- what is held is what the theory says
abbrev pub HeldAgrees : Type 0
HeldAgrees = (s : Setting) (d : Fuel) (t : Tree) → Stands s d t → all_held (forest s d t) (counts t) ≡ all_paths t

-- a move that doesn't refuse leaves the tree of scripts the same, and the state stands
abbrev pub MoveKeeps : Type 0
MoveKeeps = (s : Setting) (d : Fuel) (t : Tree) (m : TreeMove) → Stands s d t → In m (machine_moves s d t) → IsFalse (refuses m.act)
    → (forest s d m.after ≡ forest s d t) × Stands s d m.after

-- so runs of the machine are runs of the theory
abbrev pub RunsLead : Type 0
RunsLead = (s : Setting) (d : Fuel) (t e : Tree) (ms : List TreeMove) → Stands s d t → Runs s d t ms e
    → Leads (forest s d t) (counts t) (map view ms) (counts e) × (forest s d e ≡ forest s d t) × Stands s d e

-- what is read off a state is the same after a run
abbrev pub ReadingStays : {F : Type 0} → Reading F → Type 0
ReadingStays v = (s : Setting) (d : Fuel) (t e : Tree) (ms : List TreeMove) → Stands s d t → Runs s d t ms e → read s v d 0 [] e ≡ read s v d 0 [] t

-- Appends.

-- pairs of one path are one pair
abbrev pub OneEach : List Pair → Type 0
OneEach ps = (x y : Pair) → In x ps → In y ps → x.0 ≡ y.0 → x ≡ y

abbrev pub ScatteredIsOne : Type 0
ScatteredIsOne = (ps : List Pair) → Scattered (paths ps) → OneEach ps

-- what was appended are the first of all pairs, sorted by path; the paths of the others are at least some held one
abbrev pub AppendedFirst : Type 0
AppendedFirst = (s : Setting) (d : Fuel) (t e : Tree) (ms : List TreeMove) → Stands s d t → KeepsOrder (forest s d t) → counts t ≡ Zeros → Runs s d t ms e
    → OneEach (read s pair_reading d 0 [] t)
    → (more : List Pair) × (sort_by (λ x. x.0) (read s pair_reading d 0 [] t) ≡ appended ms ++ more) × ((x : Pair) → In x more → AtLeast (all_paths e) x.0)

-- where nothing is left, all pairs were appended
abbrev pub AllSorted : Type 0
AllSorted = (s : Setting) (d : Fuel) (t e : Tree) (ms : List TreeMove) → Stands s d t → KeepsOrder (forest s d t) → counts t ≡ Zeros → Runs s d t ms e
    → left (forest s d t) (counts e) ≡ 0 → OneEach (read s pair_reading d 0 [] t) → appended ms ≡ sort_by (λ x. x.0) (read s pair_reading d 0 [] t)

-- Joins and the end.

-- below a join that may be done nothing is held
abbrev pub JoinsFree : Setting → Tree → Type 0
JoinsFree s Leaf = Unit {0}
JoinsFree s (Work h ks r) =
    ((g : Due) → due s h ≡ Some g → g.act.kind ≡ Join → IsTrue (all_over ks) → all_paths ks ≡ []) × JoinsFree s ks × JoinsFree s r

abbrev pub JoinsAreFree : Type 0
JoinsAreFree = (s : Setting) (d : Fuel) (t : Tree) → Stands s d t → JoinsFree s t

-- where all is done, nothing is held
abbrev pub EndIsFree : Type 0
EndIsFree = (s : Setting) (d : Fuel) (t : Tree) → Stands s d t → IsTrue (all_over t) → all_paths t ≡ []

-- all is done exactly where the theory has no work left
abbrev pub OverIsDone : Type 0
OverIsDone = (s : Setting) (d : Fuel) (t : Tree) → Stands s d t → IsTrue (all_over t) ↔ (left (forest s d t) (counts t) ≡ 0)

-- Progress: of runs from a start, in which nothing is done.

-- where not all is done, something can be done
abbrev pub SomeMove : Type 0
SomeMove = (s : Setting) (d : Fuel) (t e : Tree) (ms : List TreeMove) → Stands s d t → counts t ≡ Zeros → Runs s d t ms e → IsFalse (all_over e)
    → 0 < length (machine_moves s d e)

-- each move lowers the work left by one
abbrev pub MovesLower : Type 0
MovesLower = (s : Setting) (d : Fuel) (t : Tree) (m : TreeMove) → Stands s d t → In m (machine_moves s d t)
    → suc (left (forest s d t) (counts m.after)) ≡ left (forest s d t) (counts t)

-- so the work left and the moves made are the work at the start
abbrev pub RunsCount : Type 0
RunsCount = (s : Setting) (d : Fuel) (t e : Tree) (ms : List TreeMove) → Stands s d t → counts t ≡ Zeros → Runs s d t ms e
    → left (forest s d t) (counts e) + length ms ≡ work (forest s d t)

-- Notes.

-- a run under a schedule is a run, and what is noted of it is what the theory notes of its first steps
abbrev pub NotesAgree : Type 0
NotesAgree = (s : Setting) (d : Fuel) (t e : Tree) (picks : List ℕ) (ms : List TreeMove) → Stands s d t → RunsBy s d t picks ms e
    → Runs s d t ms e × (notes s d t picks ms ≡ map note (run (forest s d t) (counts t) picks (length ms)))

-- one step more
abbrev pub NotesGrow : Type 0
NotesGrow = (s : Setting) (d : Fuel) (t e : Tree) (picks : List ℕ) (ms : List TreeMove) (m : TreeMove) → RunsBy s d t picks ms e
    → nth (machine_moves s d e) (pick_of s d e (picks_after (length ms) picks)) ≡ Some m → IsFalse (refuses m.act)
    → RunsBy s d t picks (ms ++ (m ∷ [])) m.after
    × (notes s d t picks (ms ++ (m ∷ [])) ≡ notes s d t picks ms
    ++ (noted (length (machine_moves s d e)) (pick_of s d e (picks_after (length ms) picks)) m.name m.act.kind ∷ []))

-- where nothing is left, or what is picked next refuses, the notes are the whole trace
abbrev pub NotesEnd : Type 0
NotesEnd = (s : Setting) (d : Fuel) (t e : Tree) (picks : List ℕ) (ms : List TreeMove) → Stands s d t → counts t ≡ Zeros → RunsBy s d t picks ms e
    → (left (forest s d t) (counts e) ≡ 0)
    ⊎ ((m : TreeMove) × (nth (machine_moves s d e) (pick_of s d e (picks_after (length ms) picks)) ≡ Some m) × IsTrue (refuses m.act))
    → notes s d t picks ms ≡ trace (forest s d t) picks

-- What moves count.

-- Of a number that acts sum to, and the reading that sums it over all tasks.
pub record Sums (f : List Act → ℕ) (v : Reading ℕ) : Type 0 where
  -- a run adds what its moves sum to
  pub grows : (s : Setting) (d : Fuel) (t e : Tree) (ms : List TreeMove) → Runs s d t ms e → done f e ≡ done f t + f (acts_of ms)
  -- what is done is part of all
  pub within : (s : Setting) (d : Fuel) (t : Tree) → done f t ≤ read s v d 0 [] t
  -- where nothing is left, it is all
  pub ends : (s : Setting) (d : Fuel) (t : Tree) → left (forest s d t) (counts t) ≡ 0 → done f t ≡ read s v d 0 [] t

-- what a move lists is among what is read off the state
abbrev pub Lists : {A : Type 0} → (Act → List A) → Reading (List A) → Type 0
Lists {A} f v = (s : Setting) (d : Fuel) (t : Tree) (m : TreeMove) → Stands s d t → In m (machine_moves s d t) → (x : A) → In x (f m.act) → In x (read s v d 0 [] t)

-- how far a move's births bring their pointers, is among what is read off the state
abbrev pub BirthsWithin : Type 0
BirthsWithin = (s : Setting) (d : Fuel) (t : Tree) (m : TreeMove) → Stands s d t → In m (machine_moves s d t) → (x : ℕ) → In x (opened m.room m.act.starts)
    → In x (read s start_reading d 0 [] t)

-- what a move refuses is the first refusal of its task
abbrev pub RefusalsWithin : Type 0
RefusalsWithin = (s : Setting) (d : Fuel) (t : Tree) (m : TreeMove) (w : What) → Stands s d t → In m (machine_moves s d t) → m.act.refusal ≡ Some w
    → In w (read s fault_reading d 0 [] t)

-- where no script refuses, there is none
abbrev pub NoneRefused : Type 0
NoneRefused = (s : Setting) (d : Fuel) (t : Tree) → NoneRefuses (forest s d t) → read s fault_reading d 0 [] t ≡ []

-- The start.

-- what is read off it: the source's acts, and the root on their batches
abbrev pub StartReads : {F : Type 0} → Reading F → Type 0
StartReads v = (s : Setting) (d : Fuel) (f : Form) (m : Bool) (o : Outset) (bs : List ChunkData) (fits : Bool) → read s v d 0 [] (start_at d f m o bs fits)
    ≡ v.make (seed_at f m o) (named_acts o.names bs fits) (unread s v (less d (seed_at f m o).type) 0 (root_at f m o ∷ []) (named_acts o.names bs fits)) v.none

-- how far the root brings its pointer, and all that is started with it
abbrev pub StartOpens : Type 0
StartOpens = (s : Setting) (d : Fuel) (f : Form) (m : Bool) (o : Outset) (bs : List ChunkData) (fits : Bool) (x : ℕ) → In x (opened (less d (seed_at f m o).type) (root_at f m o ∷ []))
    → In x (read s start_reading d 0 [] (start_at d f m o bs fits))

-- A task whose script is tidy, behind the children that are started with it, is neat.
abbrev pub TidyIsNeat : Type 0
TidyIsNeat = (q : Seed) (acts : List Act) → Tidy (length (firsts q)) acts → Neat (task_of q acts)

-- each task's script is neat
abbrev pub StartIsNeat : Type 0
StartIsNeat = (s : Setting) (d : Fuel) (f : Form) (m : Bool) (o : Outset) (bs : List ChunkData) (fits : Bool) → AllNeat (forest s d (start_at d f m o bs fits))

-- where its tree of scripts keeps the rules, it stands, and nothing is done
abbrev pub StartStands : Type 0
StartStands = (s : Setting) (d : Fuel) (f : Form) (m : Bool) (o : Outset) (bs : List ChunkData) (fits : Bool) → KeepsRules (forest s d (start_at d f m o bs fits))
    → Stands s d (start_at d f m o bs fits) × (counts (start_at d f m o bs fits) ≡ Zeros)
