-- Runs of the machine wherever it begins and over whatever sink: one of its own, or one that others use too.
use Rattle.std.specs.Prelude.{◌≡◌, ◌+◌, ◌%◌, ◌^◌, ◌<◌, ◌≤◌, ℕ, zero, suc, Bool, true, false, List, [], ◌∷◌, ◌++◌, map, length, Some, None, IsFalse}
use Rattle.vx_model.specs.ChunkData.{ChunkData}
use Rattle.vx_path.specs.Lists.{In}
use Rattle.vx_path.specs.Path.{Eof}
use Rattle.vx_machine_state.specs.Images.{Careful}
use Rattle.vx_tasks.specs.State.{left}
use Rattle.vx_tasks.specs.Rules.{AtLeast}
use Rattle.vx_tasks.specs.Run.{Note, nth, first_pick}
use Rattle.vx_tasks.specs.Runs.{noted}
use Rattle.vx_cut_laws.specs.Cut.{cut}
use Rattle.vx_named_tasks.specs.Names.{Names, onward, handed, later_names, Outset, CanBegin}
use Rattle.vx_layout_spec.specs.LayoutTree.{renamed}
use Rattle.vx_plan.specs.PlanData.{Pair, Plan}
use Rattle.vx_plan.specs.Number.{sorted}
use Rattle.vx_plan.specs.SourcePlan.{start_fault}
use Rattle.vx_plan.specs.Valid.{Fit, IsPast}
use Rattle.vx_machine_turns.specs.Source.{stream_plan}
use Rattle.vx_machine_steps.specs.Tree.{counts}
use Rattle.vx_machine_steps.specs.Runs.{picks_after}
use Rattle.vx_machine_promises.specs.Write.{Write, Future, Open, Answer, unasked, begin_at, scripts_at, planned_at, taken_by, heard_by, before}
use Rattle.vx_machine_promises.specs.Reached.{ReachedAt}
use Rattle.vx_machine_state.specs.Acts.{layouts_in}
use Rattle.vx_machine_state.specs.Reserved.{reserved_by}
use Rattle.vx_machine_state.specs.Start.{first_indices}
use Rattle.vx_machine_view.specs.Machine.{Phase, reading, giving, closing, finished, Machine, start_from, WholeStep, whole_steps, is_finished, machine_ids}
use Rattle.vx_machine_view.specs.Places.{whole_ready}
use Rattle.vx_machine_view.specs.Whole.{form_of, outset_from, ShowsMachineAt}
use Rattle.vx_machine_runs.specs.Ends.{Caused}
use Rattle.vx_machine_runs.specs.Numbers.{AllBelow}
use Rattle.vx_machine_runs.specs.Tracked.{Comes}
use Rattle.vx_machine_runs.specs.Runs.{Asking, TypedAnswer, BeforeEnd, PickedBy}

-- where a run stands: the machine, the batches that were taken, whether the end is told, what was appended, and the numbers that the
-- sink gave
pub record Point : Type 0 where
  pub machine : Machine
  pub taken : List ChunkData
  pub heard : Bool
  pub history : List Pair
  pub numbers : List ℕ

-- at the start: the batches get these paths, and behind them all stands the eof pointer
abbrev pub start_point : Write → Names → Eof → Point
start_point g names eof = record { machine = start_from names eof (form_of g) g.mark; taken = []; heard = false; history = []; numbers = [] }

-- behind a step, in which the source told this, and the sink gave this number to what was appended
abbrev pub point_after : Point → Answer → ℕ → WholeStep → Point
point_after x told number w =
    record { machine = w.after; taken = taken_by x.taken told; heard = heard_by x.heard told; history = x.history ++ w.wrote; numbers = x.numbers ++ map (λ p. number) w.wrote }

-- a ready step leads from one point to the next, with this note
pub record Goes (g : Write) (x y : Point) (n : Note) : Type 0 where
  pub told : Answer
  pub number : ℕ
  pub step : WholeStep
  pub place : nth (whole_steps g.setting (machine_ids x.machine) number told x.machine) n.picked ≡ Some step
  pub asks : Asking x.machine.phase n.picked told
  pub typed : TypedAnswer g.type told
  pub once : BeforeEnd x.heard told
  pub fits : IsFalse step.misfit
  pub unrefused : step.refusal ≡ None
  pub note : n ≡ noted (whole_ready (machine_ids x.machine) x.machine) n.picked step.name step.kind
  pub left : y ≡ point_after x told number step

-- such steps lead from one point to another
abbrev pub GoesBy : Write → Point → List Note → Point → Type 0
GoesBy g x [] y = x ≡ y
GoesBy g x (n ∷ ns) y = (z : Point) × Goes g x z n × GoesBy g z ns y

-- The write has come here from these paths and this pointer: its start refuses nothing, and the steps of these notes, as its schedule picks them, have led
-- to where it stands.
pub record HasComeTo (g : Write) (names : Names) (eof : Eof) (notes : List Note) (x : Point) : Type 0 where
  pub careful : Careful g.setting
  pub starts : start_fault g.setting g.way g.type g.mark ≡ None
  pub picked : PickedBy g.schedule notes
  pub comes : GoesBy g (start_point g names eof) notes x

-- ---- the state that the machine shows

-- what the tracker counts there: what it counted at the start, and what the machine's tasks have reserved
abbrev pub tracked_at : Write → Point → ℕ
tracked_at g x = g.tracker + reserved_by x.machine.root

-- each path that was appended has its number
abbrev pub Numbered : (List ℕ → ℕ) → Point → Type 0
Numbered number x = map (λ p. number p.0) x.history ≡ x.numbers

-- The state to which these notes lead, where this comes of the source. The machine shows it, whatever numbers the sink will give.
pub record StandsIn (g : Write) (o : Outset) (notes : List Note) (x : Point) (f : Future) : Type 0 where
  pub reached : ReachedAt g o x.taken f notes x.history (tracked_at g x)
  pub shows : (number : List ℕ → ℕ) → Numbered number x → ShowsMachineAt g o number x.machine f reached.tree

-- of each future that is still open, with whose batches the machine can begin there
abbrev pub ForFutures : Outset → Point → (Future → Type 0) → Type 0
ForFutures o x P = (f : Future) → Open x.heard f → CanBegin o (length (x.taken ++ f.later)) → P f

-- In that state so many acts are left of the tasks of the batches taken and of those that may come. A refusal ends its task.
pub record LeavesIn (g : Write) (o : Outset) (notes : List Note) (x : Point) (f : Future) (n : ℕ) : Type 0 where
  pub state : StandsIn g o notes x f
  pub left_is : left (cut (scripts_at g o x.taken f)) (counts state.reached.tree) ≡ n

-- ---- laws

-- it is under way wherever it has come
abbrev pub CourseIsUnderway : Type 0
CourseIsUnderway = (g : Write) (names : Names) (eof : Eof) (notes : List Note) (x : Point) → HasComeTo g names eof notes x
    → ForFutures (outset_from names eof) x (λ f. StandsIn g (outset_from names eof) notes x f)

-- something is ready until the machine has finished
abbrev pub CourseIsReady : Type 0
CourseIsReady = (g : Write) (names : Names) (eof : Eof) (notes : List Note) (x : Point) → HasComeTo g names eof notes x → CanBegin (outset_from names eof) (length x.taken)
    → IsFalse (is_finished x.machine) → 0 < whole_ready (machine_ids x.machine) x.machine

-- what it has appended are the first pairs of the plan, in order of path; each of the others has a path that is at least one of those held
abbrev pub CourseIsFront : Type 0
CourseIsFront = (g : Write) (names : Names) (eof : Eof) (notes : List Note) (x : Point) → HasComeTo g names eof notes x
    → ForFutures (outset_from names eof) x (λ f. (more : List Pair) × (sorted (planned_at g (outset_from names eof) x.taken f).pairs ≡ x.history ++ more)
    × ((p : Pair) → In p more → AtLeast (machine_ids x.machine) p.0))

-- a step by the schedule's pick leads it on, and leaves one act less of all that may then still come
abbrev pub CourseGoesOn : Type 0
CourseGoesOn = (g : Write) (names : Names) (eof : Eof) (notes : List Note) (x y : Point) (n : Note) → HasComeTo g names eof notes x → (d : Goes g x y n)
    → n.picked ≡ first_pick (picks_after (length notes) g.schedule) % n.ready
    → HasComeTo g names eof (notes ++ (n ∷ [])) y
    × ForFutures (outset_from names eof) y (λ f. (k : ℕ) × LeavesIn g (outset_from names eof) notes x (before d.told f) (suc k) × LeavesIn g (outset_from names eof) (notes ++ (n ∷ [])) y f k)

-- ---- the paths that are left

-- those behind so many
abbrev pub names_after : Names → ℕ → Names
names_after ns zero = ns
names_after ns (suc k) = names_after (later_names ns) k

-- the batches that the source still reads get these
abbrev pub NamesLeft : Names → Phase → Type 0
NamesLeft ns (reading left) = left ≡ ns
NamesLeft ns (giving left i) = left ≡ ns
NamesLeft ns closing = Unit {0}
NamesLeft ns finished = Unit {0}

-- each batch takes one
abbrev pub CourseHasNames : Type 0
CourseHasNames = (g : Write) (names : Names) (eof : Eof) (notes : List Note) (x : Point) → HasComeTo g names eof notes x → NamesLeft (names_after names (length x.taken)) x.machine.phase

-- ---- where it has finished

-- All is done, by this plan. The layout's segments have the numbers that their paths were given.
pub record FinishedBy (p : Plan) (x : Point) : Type 0 where
  pub heard : x.heard ≡ true
  pub faultless : p.faults ≡ []
  pub appended : x.history ≡ sorted p.pairs
  pub layout : (number : List ℕ → ℕ) → Numbered number x → layouts_in x.machine.root ≡ renamed number p.layout ∷ []
  pub released : reserved_by x.machine.root ≡ 0

-- that of the batches that were taken, where the machine can begin there with them
abbrev pub CourseEnds : Type 0
CourseEnds = (g : Write) (names : Names) (eof : Eof) (notes : List Note) (x : Point) → HasComeTo g names eof notes x → CanBegin (outset_from names eof) (length x.taken)
    → is_finished x.machine ≡ true → FinishedBy (stream_plan g.setting g.way g.type g.mark (outset_from names eof) x.taken true) x

-- ---- causes

-- a ready step there, refused or not, with what the source tells in it
pub record ChosenAt (g : Write) (x : Point) (told : Answer) (number k : ℕ) (w : WholeStep) : Type 0 where
  pub place : nth (whole_steps g.setting (machine_ids x.machine) number told x.machine) k ≡ Some w
  pub asks : Asking x.machine.phase k told
  pub typed : TypedAnswer g.type told
  pub once : BeforeEnd x.heard told
  pub fits : IsFalse w.misfit

-- What it refuses and counts has its cause in the plan of these batches and of those that may still come.
pub record CausedThere (g : Write) (o : Outset) (notes : List Note) (x : Point) (taken : List ChunkData) (f : Future) (k : ℕ) (w : WholeStep) : Type 0 where
  pub caused : Caused (planned_at g o taken f) w
  -- what the tracker would count with it: to that the tasks alone come, and it is at most what the plan reserves
  pub comes : Comes g (begin_at g o taken f) notes k (tracked_at g x + w.raises)
  pub within : tracked_at g x + w.raises ≤ g.tracker + (planned_at g o taken f).reserved

-- A step that is refused, or counts past a number, has its cause in the plan of the batches taken by then and of whatever follows.
abbrev pub CourseHasCause : Type 0
CourseHasCause = (g : Write) (names : Names) (eof : Eof) (notes : List Note) (x : Point) (told : Answer) (number k : ℕ) (w : WholeStep) (f : Future) → HasComeTo g names eof notes x → ChosenAt g x told number k w
    → Open (heard_by x.heard told) f → CanBegin (outset_from names eof) (length (taken_by x.taken told ++ f.later))
    → CausedThere g (outset_from names eof) notes x (taken_by x.taken told) f k w

-- a step that finds a chunk of another type is the one in which the source reads, and is told nothing
abbrev pub CourseMisfitIsRead : Type 0
CourseMisfitIsRead = (g : Write) (names : Names) (eof : Eof) (notes : List Note) (x : Point) (told : Answer) (number k : ℕ) (w : WholeStep) → HasComeTo g names eof notes x → CanBegin (outset_from names eof) (length x.taken)
    → nth (whole_steps g.setting (machine_ids x.machine) number told x.machine) k ≡ Some w → w.misfit ≡ true → (ns : Names) × (x.machine.phase ≡ reading ns) × (k ≡ 0) × (told ≡ unasked)

-- how far pointers come at the start: what doesn't fit 64 bits is on its way to one of the plan's numbers
abbrev pub CourseStartHasCause : Type 0
CourseStartHasCause = (g : Write) (names : Names) (eof : Eof) (f : Future) (n : ℕ) → CanBegin (outset_from names eof) (length f.later) → In n (first_indices (form_of g) g.mark eof) → 2 ^ 64 ≤ n
    → IsPast (2 ^ 64) (planned_at g (outset_from names eof) [] f).numbers

-- ---- what is counted

-- how far the pointer has come that the paths are taken from
abbrev pub names_last : Names → ℕ
names_last (onward e) = e.last
names_last (handed ps) = 0

-- what each step counts: rows and lengths, and how far pointers come
abbrev pub CountedBelow : ℕ → (g : Write) (x : Point) (ns : List Note) (y : Point) → GoesBy g x ns y → Type 0
CountedBelow most g x [] y c = Unit {0}
CountedBelow most g x (n ∷ ns) y c = AllBelow most (c.1.step.numbers ++ c.1.step.indices) × CountedBelow most g c.0 ns y c.2

-- Where it has finished, and all is below a number that its pointers have at the start and that was counted from there on, so is each
-- number of the plan of the batches that were taken.
abbrev pub CourseIsCounted : Type 0
CourseIsCounted = (most : ℕ) (g : Write) (names : Names) (eof : Eof) (notes : List Note) (x : Point) (h : HasComeTo g names eof notes x) → CanBegin (outset_from names eof) (length x.taken)
    → is_finished x.machine ≡ true → names_last names < most → eof.last < most → AllBelow most (first_indices (form_of g) g.mark eof)
    → CountedBelow most g (start_point g names eof) notes x h.comes → AllBelow most (stream_plan g.setting g.way g.type g.mark (outset_from names eof) x.taken true).numbers

-- so they fit 64 bits, where all that was counted does
abbrev pub CourseFits : Type 0
CourseFits = (g : Write) (names : Names) (eof : Eof) (notes : List Note) (x : Point) (h : HasComeTo g names eof notes x) → CanBegin (outset_from names eof) (length x.taken)
    → is_finished x.machine ≡ true → names_last names < 2 ^ 64 → eof.last < 2 ^ 64 → AllBelow (2 ^ 64) (first_indices (form_of g) g.mark eof)
    → CountedBelow (2 ^ 64) g (start_point g names eof) notes x h.comes → Fit (stream_plan g.setting g.way g.type g.mark (outset_from names eof) x.taken true).numbers
