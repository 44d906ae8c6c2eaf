-- What a write's machine promises, wherever it has come.
use Rattle.std.specs.Prelude.{◌≡◌, ℕ, suc, ◌+◌, ◌^◌, ◌<◌, ◌≤◌, ◌⊎◌, Bool, true, List, [], ◌∷◌, ◌++◌, map, length, Some, None, IsTrue, IsFalse}
use Rattle.vx_model.specs.ChunkData.{ChunkData}
use Rattle.vx_path.specs.Lists.{In}
use Rattle.vx_path.specs.Path.{Scattered}
use Rattle.vx_tasks.specs.State.{left}
use Rattle.vx_tasks.specs.State.Counts.{Zeros}
use Rattle.vx_tasks.specs.Rules.{AtLeast}
use Rattle.vx_tasks.specs.Run.{Note, nth, note, run, trace, work}
use Rattle.vx_named_tasks.specs.Names.{Outset, root_outset, CanBegin}
use Rattle.vx_cut_laws.specs.Cut.{cut}
use Rattle.vx_plan.specs.PlanData.{Pair, Plan, What, paths}
use Rattle.vx_plan.specs.SourcePlan.{start_fault, taken_plan}
use Rattle.vx_plan.specs.Number.{sorted}
use Rattle.vx_plan.specs.Valid.{Has, Fit, OfSchema}
use Rattle.vx_machine_turns.specs.Acts.{refuses, written_by}
use Rattle.vx_machine_turns.specs.Fuels.{less}
use Rattle.vx_machine_turns.specs.Forms.{form_nodes, form_type}
use Rattle.vx_machine_turns.specs.Readings.{layout_reading}
use Rattle.vx_machine_turns.specs.Planned.{AtMost}
use Rattle.vx_strategy_spec.specs.Walk.{walk}
use Rattle.vx_machine_steps.specs.Tree.{Tree, read, counts, opened}
use Rattle.vx_machine_steps.specs.Moves.{TreeMove, all_paths, all_over}
use Rattle.vx_machine_steps.specs.Start.{root_at, root_seed}
use Rattle.vx_machine_steps.specs.Stands.{Stands}
use Rattle.vx_machine_promises.specs.Write.{Write, Future, Answer, depth, begin_at, scripts_at, planned_at, scripts, planned, taken_by, before}
use Rattle.vx_machine_promises.specs.Reached.{ReachedAt, Reached, moves_at, pick_at, Stepped}

-- what holds wherever a write has come, of the state there
abbrev pub Promise : ((g : Write) → List ChunkData → Future → List Note → List Pair → ℕ → Tree → Type 0) → Type 0
Promise P = (g : Write) (taken : List ChunkData) (f : Future) (seen : List Note) (history : List Pair) (tracker : ℕ) (r : Reached g taken f seen history tracker)
    → P g taken f seen history tracker r.tree

-- and wherever it begins, where it can with the batches taken and those that come
abbrev pub PromiseAt : Outset → ((g : Write) → List ChunkData → Future → List Note → List Pair → ℕ → Tree → Type 0) → Type 0
PromiseAt o P = (g : Write) (taken : List ChunkData) (f : Future) (seen : List Note) (history : List Pair) (tracker : ℕ) (r : ReachedAt g o taken f seen history tracker)
    → CanBegin o (length (taken ++ f.later)) → P g taken f seen history tracker r.tree

-- ---- steps, wherever it begins

-- the start
abbrev pub StartIsReachedAt : Outset → Type 0
StartIsReachedAt o = (g : Write) (f : Future) → (r : ReachedAt g o [] f [] [] g.tracker) × (r.tree ≡ begin_at g o [] f)

-- one step more: with the batch that it takes, the future is without it
abbrev pub StepIsReachedAt : Outset → Type 0
StepIsReachedAt o = (g : Write) (taken : List ChunkData) (a : Answer) (f : Future) (seen : List Note) (history history_then : List Pair) (tracker tracker_then : ℕ) (n : Note)
    (r : ReachedAt g o taken (before a f) seen history tracker) (st : Stepped g r.tree seen n history history_then tracker tracker_then)
    → (q : ReachedAt g o (taken_by taken a) f (seen ++ (n ∷ [])) history_then tracker_then) × (q.tree ≡ st.move.after)

-- the state stands
abbrev pub StateStandsAt : Outset → Type 0
StateStandsAt o = PromiseAt o (λ g taken f seen history tracker t. Stands g.setting (depth g) t)

-- where not all is done, something can be done
abbrev pub SomethingIsReadyAt : Outset → Type 0
SomethingIsReadyAt o = PromiseAt o (λ g taken f seen history tracker t. IsFalse (all_over t) → 0 < length (moves_at g t))

-- each move lowers the work left by one, in the tree of scripts in which a refusal ends its task
abbrev pub WorkFallsAt : Outset → Type 0
WorkFallsAt o = PromiseAt o (λ g taken f seen history tracker t. (m : TreeMove) → In m (moves_at g t)
    → suc (left (cut (scripts_at g o taken f)) (counts m.after)) ≡ left (cut (scripts_at g o taken f)) (counts t))

-- what was appended are the first of all pairs in order of path; the paths of the others are at least some held one
abbrev pub HistoryIsFirstAt : Outset → Type 0
HistoryIsFirstAt o = PromiseAt o (λ g taken f seen history tracker t. (more : List Pair) × (sorted (planned_at g o taken f).pairs ≡ history ++ more)
    × ((x : Pair) → In x more → AtLeast (all_paths t) x.0))

-- no path of the plan is a prefix of another's
abbrev pub PathsAreApartAt : Outset → Type 0
PathsAreApartAt o = (g : Write) (taken : List ChunkData) (f : Future) → CanBegin o (length (taken ++ f.later)) → Scattered (paths (planned_at g o taken f).pairs)

-- those of a whole write

abbrev pub StartIsReached : Type 0
StartIsReached = StartIsReachedAt root_outset

abbrev pub StepIsReached : Type 0
StepIsReached = StepIsReachedAt root_outset

-- ---- nothing gets stuck, and the work left falls

-- where not all is done, something can be done
abbrev pub SomethingIsReady : Type 0
SomethingIsReady = Promise (λ g taken f seen history tracker t. IsFalse (all_over t) → 0 < length (moves_at g t))

-- each move lowers the work left by one
abbrev pub WorkFalls : Type 0
WorkFalls = Promise (λ g taken f seen history tracker t. (m : TreeMove) → In m (moves_at g t) → suc (left (scripts g taken f) (counts m.after)) ≡ left (scripts g taken f) (counts t))

-- the work left and the steps made are the work of all
abbrev pub WorkIsShared : Type 0
WorkIsShared = Promise (λ g taken f seen history tracker t. left (scripts g taken f) (counts t) + length seen ≡ work (scripts g taken f))

-- ---- the trace

-- what was seen are the first notes of the trace
abbrev pub SeenIsFirst : Type 0
SeenIsFirst = Promise (λ g taken f seen history tracker t. seen ≡ map note (run (scripts g taken f) Zeros g.schedule (length seen)))

-- where all is done, or what is picked next refuses, they are the whole trace; of the tree too in which a refusal ends its task
abbrev pub SeenIsWhole : Type 0
SeenIsWhole = Promise (λ g taken f seen history tracker t. IsTrue (all_over t) ⊎ ((m : TreeMove) × (nth (moves_at g t) (pick_at g t seen) ≡ Some m) × IsTrue (refuses m.act))
    → (seen ≡ trace (scripts g taken f) g.schedule) × (seen ≡ trace (cut (scripts g taken f)) g.schedule))

-- of that tree, the steps are all of its work where all is done
abbrev pub AllSteps : Type 0
AllSteps = Promise (λ g taken f seen history tracker t. IsTrue (all_over t) → length seen ≡ work (cut (scripts g taken f)))

-- and fewer where something can still be done, as what refuses
abbrev pub FewerSteps : Type 0
FewerSteps = Promise (λ g taken f seen history tracker t. (m : TreeMove) → In m (moves_at g t) → length seen < work (cut (scripts g taken f)))

-- ---- what was appended

-- the first of all pairs in order of path; the paths of the others are at least some held one
abbrev pub HistoryIsFirst : Type 0
HistoryIsFirst = Promise (λ g taken f seen history tracker t. (more : List Pair) × (sorted (planned g taken f).pairs ≡ history ++ more) × ((x : Pair) → In x more → AtLeast (all_paths t) x.0))

-- ---- the end

-- all is done by this plan
pub record EndedBy (g : Write) (p : Plan) (f : Future) (history : List Pair) (tracker : ℕ) (t : Tree) : Type 0 where
  pub fits : f.fits ≡ true
  pub faultless : p.faults ≡ []
  pub whole : history ≡ sorted p.pairs
  pub layout : read g.setting layout_reading (depth g) 0 [] t ≡ p.layout ∷ []
  pub tracked : tracker ≡ g.tracker
  pub free : all_paths t ≡ []

-- wherever it begins, where all is done and the start refused nothing
abbrev pub EndIsPlannedAt : Outset → Type 0
EndIsPlannedAt o = PromiseAt o (λ g taken f seen history tracker t. IsTrue (all_over t) → start_fault g.setting g.way g.type g.mark ≡ None
    → EndedBy g (planned_at g o taken f) f history tracker t)

-- of a whole write

abbrev pub Ended : Write → List ChunkData → Future → List Pair → ℕ → Tree → Type 0
Ended g taken f history tracker t = EndedBy g (planned g taken f) f history tracker t

abbrev pub EndIsPlanned : Type 0
EndIsPlanned = Promise (λ g taken f seen history tracker t. IsTrue (all_over t) → start_fault g.setting g.way g.type g.mark ≡ None → Ended g taken f history tracker t)

-- ---- causes: of a move that can be done, whether it is done or not

-- what it refuses is a fault of the plan

abbrev pub RefusesBy : Write → Plan → Tree → Type 0
RefusesBy g p t = (m : TreeMove) (w : What) → In m (moves_at g t) → m.act.refusal ≡ Some w → Has w p.faults

abbrev pub RefusalsHaveCauseAt : Outset → Type 0
RefusalsHaveCauseAt o = PromiseAt o (λ g taken f seen history tracker t. RefusesBy g (planned_at g o taken f) t)

abbrev pub RefusalsHaveCause : Type 0
RefusalsHaveCause = Promise (λ g taken f seen history tracker t. RefusesBy g (planned g taken f) t)

-- What it counts, against the plan's numbers.
pub record CountedBy (g : Write) (p : Plan) (tracker : ℕ) (m : TreeMove) : Type 0 where
  pub numbers : (n : ℕ) → In n m.act.numbers → In n p.numbers
  -- how far pointers come, its own and those of what it starts
  pub indices : (n : ℕ) → In n m.act.indices → AtMost n p.numbers
  pub births : (n : ℕ) → In n (opened m.room m.act.starts) → AtMost n p.numbers
  pub tracked : tracker + m.act.raises ≤ g.tracker + p.reserved

abbrev pub MovesAreCountedAt : Outset → Type 0
MovesAreCountedAt o = PromiseAt o (λ g taken f seen history tracker t. (m : TreeMove) → In m (moves_at g t) → CountedBy g (planned_at g o taken f) tracker m)

abbrev pub Counted : Write → List ChunkData → Future → ℕ → TreeMove → Type 0
Counted g taken f tracker m = CountedBy g (planned g taken f) tracker m

abbrev pub MovesAreCounted : Type 0
MovesAreCounted = Promise (λ g taken f seen history tracker t. (m : TreeMove) → In m (moves_at g t) → Counted g taken f tracker m)

-- Where the input is valid: nothing is refused, and each count fits.
pub record Sound (g : Write) (tracker : ℕ) (m : TreeMove) : Type 0 where
  pub unrefused : m.act.refusal ≡ None
  pub numbers : (n : ℕ) → In n m.act.numbers → n < 2 ^ 64
  pub indices : (n : ℕ) → In n m.act.indices → n < 2 ^ 64
  pub births : (n : ℕ) → In n (opened m.room m.act.starts) → n < 2 ^ 64
  pub tracked : tracker + m.act.raises < 2 ^ 64

-- of a plan without a fault, whose numbers fit, as what it reserves does in the tracker

abbrev pub SoundBy : Write → Plan → ℕ → Tree → Type 0
SoundBy g p tracker t = p.faults ≡ [] → Fit p.numbers → g.tracker + p.reserved < 2 ^ 64 → (m : TreeMove) → In m (moves_at g t) → Sound g tracker m

abbrev pub ValidIsSoundAt : Outset → Type 0
ValidIsSoundAt o = PromiseAt o (λ g taken f seen history tracker t. SoundBy g (planned_at g o taken f) tracker t)

abbrev pub ValidIsSound : Type 0
ValidIsSound = Promise (λ g taken f seen history tracker t. SoundBy g (planned g taken f) tracker t)

-- what an append writes is one more of the plan's pairs
abbrev pub AppendsFit : Type 0
AppendsFit = Promise (λ g taken f seen history tracker t. (m : TreeMove) (x : Pair) → In m (moves_at g t) → IsFalse (refuses m.act) → written_by m.act.kind m.act.bytes ≡ x ∷ []
    → length history < length (planned g taken f).pairs)

-- the plan of the batches taken, all of the type, is that of the future in which no more comes, ended where the end is told
abbrev pub TakenIsPlanned : Type 0
TakenIsPlanned = (g : Write) (taken : List ChunkData) (heard : Bool) → OfSchema g.type taken
    → planned g taken (record { later = []; fits = heard }) ≡ taken_plan g.setting g.way g.type g.mark taken heard

-- and of the start: of the root and all that is started with it

abbrev pub StartIsCountedAt : Outset → Type 0
StartIsCountedAt o = (g : Write) (f : Future) (n : ℕ) → CanBegin o (length f.later)
    → In n (opened (less (depth g) (form_type (walk form_nodes g.way g.type))) (root_at (walk form_nodes g.way g.type) g.mark o ∷ [])) → AtMost n (planned_at g o [] f).numbers

abbrev pub StartIsCounted : Type 0
StartIsCounted = (g : Write) (f : Future) (n : ℕ) → In n (opened (less (depth g) (form_type (walk form_nodes g.way g.type))) (root_seed (walk form_nodes g.way g.type) g.mark ∷ []))
    → AtMost n (planned g [] f).numbers
