-- The whole machine against the abstract one, for each future of its source.
use Rattle.std.specs.Prelude.{◌≡◌, ℕ, zero, suc, Bool, true, false, List, [], ◌∷◌, ◌++◌, map, length, Some, None, IsTrue, IsFalse}
use Rattle.vx_model.specs.ChunkData.{ChunkData, piece_type, is_sound}
use Rattle.vx_model.specs.Ty.{Ty}
use Rattle.vx_path.specs.Lists.{In}
use Rattle.vx_path.specs.Path.{Eof}
use Rattle.vx_layout_spec.specs.LayoutTree.{renamed}
use Rattle.vx_machine_state.specs.Images.{Careful}
use Rattle.vx_tasks.specs.Task.{Append}
use Rattle.vx_tasks.specs.Run.{nth}
use Rattle.vx_named_tasks.specs.Names.{Names, held_names, Outset, root_outset}
use Rattle.vx_strategy_spec.specs.Walk.{walk}
use Rattle.vx_plan.specs.PlanData.{Setting}
use Rattle.vx_plan.specs.SourcePlan.{start_fault}
use Rattle.vx_machine_turns.specs.Forms.{Form, form_nodes, form_type}
use Rattle.vx_machine_turns.specs.Locals.{source_local}
use Rattle.vx_machine_turns.specs.Acts.{Act, put_item, close_queues, passes, shape_in, refuses, written_by}
use Rattle.vx_machine_turns.specs.Readings.{layout_reading}
use Rattle.vx_machine_turns.specs.Source.{named_acts, seed_at}
use Rattle.vx_machine_turns.specs.Fuels.{Fuel, less}
use Rattle.vx_machine_steps.specs.Tree.{Head, Tree, Leaf, Work, read, opened}
use Rattle.vx_machine_steps.specs.Moves.{holding, all_paths, all_over, TreeMove, tree_moves}
use Rattle.vx_machine_steps.specs.Stands.{Stands}
use Rattle.vx_machine_promises.specs.Write.{Write, Future, Open, Answer, unasked, came, over, depth, begin_at, before, heard_by}
use Rattle.vx_machine_state.specs.State.{Tasks}
use Rattle.vx_machine_state.specs.Acts.{layouts_in}
use Rattle.vx_machine_state.specs.Moves.{steps}
use Rattle.vx_machine_state.specs.Typed.{Typed}
use Rattle.vx_machine_view.specs.Shows.{Shows, types_of}
use Rattle.vx_machine_view.specs.Machine.{Phase, reading, giving, closing, finished, Machine, start_from, WholeStep, whole_steps, is_finished, phase_ids, machine_ids}

abbrev pub form_of : Write → Form
form_of g = walk form_nodes g.way g.type

-- what the source still does where it stands, and this comes of it
abbrev pub phase_acts : Phase → Future → List Act
phase_acts (reading ns) f = named_acts ns f.later f.fits
phase_acts (giving ns i) f = record (put_item 0 i) { holds = held_names ns } ∷ named_acts ns f.later f.fits
phase_acts closing f = close_queues (0 ∷ []) ∷ []
phase_acts finished f = []

-- the batch that it is to put is of the type
abbrev pub PhaseTyped : Ty → Phase → Type 0
PhaseTyped t (reading ns) = Unit {0}
PhaseTyped t (giving ns i) = Typed t i.1
PhaseTyped t closing = Unit {0}
PhaseTyped t finished = Unit {0}

-- once it has ended, it has told that it hands the root's layout on
abbrev pub PhaseShape : List Act → Phase → Type 0
PhaseShape past (reading ns) = shape_in past ≡ None
PhaseShape past (giving ns i) = shape_in past ≡ None
PhaseShape past closing = shape_in past ≡ Some passes
PhaseShape past finished = shape_in past ≡ Some passes

-- wherever it began
abbrev pub source_from : Write → Outset → List Act → List Act → Head
source_from g o past todo = record {
  seed = seed_at (form_of g) g.mark o;
  past = past;
  todo = todo;
  local = source_local (form_of g) g.mark o;
  over = true;
  inbox = [];
  closed = true;
}

abbrev pub source_at : Write → List Act → List Act → Head
source_at g past todo = source_from g root_outset past todo

-- what the root and all below it may grow to
abbrev pub root_depth : Write → Fuel
root_depth g = less (depth g) (form_type (form_of g))

-- The machine shows the state, where it began there, this comes of its source, and segments get these numbers.
pub record ShowsMachineAt (g : Write) (o : Outset) (number : List ℕ → ℕ) (m : Machine) (f : Future) (t : Tree) : Type 0 where
  pub past : List Act
  pub kids : Tree
  pub tree_is : t ≡ Work (source_from g o past (phase_acts m.phase f)) kids Leaf
  pub root : Shows g.setting number (root_depth g) (seed_at (form_of g) g.mark o) 0 m.root kids
  pub one : types_of kids ≡ g.type ∷ []
  pub typed : PhaseTyped g.type m.phase
  pub shape : PhaseShape past m.phase
  pub held : holding (source_from g o past (phase_acts m.phase f)) ≡ phase_ids m.phase

-- in a whole write
abbrev pub ShowsMachine : Write → (List ℕ → ℕ) → Machine → Future → Tree → Type 0
ShowsMachine g number m f t = ShowsMachineAt g root_outset number m f t

-- ---- the start

-- with these paths and this pointer
abbrev pub outset_from : Names → Eof → Outset
outset_from names eof = record { names = names; eof = eof }

-- where its start refuses nothing
abbrev pub StartShowsAt : Names → Eof → Type 0
StartShowsAt names eof = (g : Write) (number : List ℕ → ℕ) (f : Future) → start_fault g.setting g.way g.type g.mark ≡ None
    → ShowsMachineAt g (outset_from names eof) number (start_from names eof (form_of g) g.mark) f (begin_at g (outset_from names eof) [] f)

-- ---- steps

-- The answer is that of the step at this place: only the first step asks, where the source reads. It is told a chunk of the type,
-- or the end; or it is told nothing, where what comes next is of another type.
abbrev pub Asks : Ty → Future → Phase → ℕ → Answer → Type 0
Asks t f (reading ns) zero unasked = (f.later ≡ []) × (f.fits ≡ false)
Asks t f (reading ns) zero (came b) = Typed t b
Asks t f (reading ns) zero over = Unit {0}
Asks t f (reading ns) (suc k) a = a ≡ unasked
Asks t f (giving ns i) k a = a ≡ unasked
Asks t f closing k a = a ≡ unasked
Asks t f finished k a = a ≡ unasked

-- A step is a move. Where that isn't refused, and an append gets the number of its path, it leads to a state that is shown.
pub record SameWholeAt (g : Write) (o : Outset) (number : List ℕ → ℕ) (next : ℕ) (f : Future) (w : WholeStep) (m : TreeMove) : Type 0 where
  pub name : w.name ≡ m.name
  pub kind : w.kind ≡ m.act.kind
  pub refusal : w.refusal ≡ m.act.refusal
  pub misfit : w.misfit ≡ m.act.misfit
  pub numbers : w.numbers ≡ m.act.numbers
  pub indices : w.indices ≡ m.act.indices ++ opened m.room m.act.starts
  pub wrote : w.wrote ≡ written_by m.act.kind m.act.bytes
  pub raises : w.raises ≡ m.act.raises
  pub lowers : w.lowers ≡ m.act.lowers
  pub after : IsFalse (refuses m.act) → ((p : List ℕ) → m.act.kind ≡ Append p → next ≡ number p) → ShowsMachineAt g o number w.after f m.after

abbrev pub SameWhole : Write → (List ℕ → ℕ) → ℕ → Future → WholeStep → TreeMove → Type 0
SameWhole g number next f w m = SameWholeAt g root_outset number next f w m

-- so it is of the step at each place
abbrev pub StepShowsAt : Outset → Type 0
StepShowsAt o = (g : Write) (number : List ℕ → ℕ) (next : ℕ) (all : List (List ℕ)) (heard : Bool) (a : Answer) (f : Future) (m : Machine) (t : Tree) (k : ℕ) (w : WholeStep)
    → Careful g.setting → Stands g.setting (depth g) t → Open (heard_by heard a) f → ShowsMachineAt g o number m (before a f) t
    → nth (whole_steps g.setting all next a m) k ≡ Some w → Asks g.type f m.phase k a
    → (v : TreeMove) × (nth (tree_moves g.setting all (depth g) t) k ≡ Some v) × SameWholeAt g o number next f w v

-- as many are ready
abbrev pub ReadyShowsAt : Outset → Type 0
ReadyShowsAt o = (g : Write) (number : List ℕ → ℕ) (next : ℕ) (all : List (List ℕ)) (a : Answer) (f : Future) (m : Machine) (t : Tree) → Careful g.setting
    → Stands g.setting (depth g) t → ShowsMachineAt g o number m f t → length (whole_steps g.setting all next a m) ≡ length (tree_moves g.setting all (depth g) t)

-- ---- what is held, and the end

-- the same paths, in any order
abbrev pub SameHeld : List (List ℕ) → List (List ℕ) → Type 0
SameHeld xs ys = ((p : List ℕ) → In p xs → In p ys) × ((p : List ℕ) → In p ys → In p xs)

abbrev pub HeldShowsAt : Outset → Type 0
HeldShowsAt o = (g : Write) (number : List ℕ → ℕ) (f : Future) (m : Machine) (t : Tree) → Stands g.setting (depth g) t → ShowsMachineAt g o number m f t → SameHeld (machine_ids m) (all_paths t)

abbrev pub FinishShowsAt : Outset → Type 0
FinishShowsAt o = (g : Write) (number : List ℕ → ℕ) (f : Future) (m : Machine) (t : Tree) → Stands g.setting (depth g) t → ShowsMachineAt g o number m f t → is_finished m ≡ all_over t

-- the layout that is made is the one that is read off the state
abbrev pub LayoutShowsAt : Outset → Type 0
LayoutShowsAt o = (g : Write) (number : List ℕ → ℕ) (f : Future) (m : Machine) (t : Tree) → Stands g.setting (depth g) t → ShowsMachineAt g o number m f t → IsTrue (all_over t)
    → layouts_in m.root ≡ map (renamed number) (read g.setting layout_reading (depth g) 0 [] t)

-- ---- chunks

-- a sound chunk is of its type through and through
abbrev pub SoundIsTyped : Type 0
SoundIsTyped = (p : ChunkData) (t : Ty) → IsTrue (is_sound p) → piece_type p ≡ t → Typed t p

-- which path is the least depends on no order in which paths are listed, nor on how often
abbrev pub LeastAgrees : Type 0
LeastAgrees = (s : Setting) (all held : List (List ℕ)) (next : ℕ) (cs : Tasks) → ((p : List ℕ) → In p all → In p held) → ((p : List ℕ) → In p held → In p all)
    → steps s all next cs ≡ steps s held next cs
