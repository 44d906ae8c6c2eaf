-- The source on its batches, the root on what it gives, and all below.
use Rattle.std.specs.Prelude.{◌≡◌, ℕ, Bool, true, not, if◌then◌else◌, List, [], ◌∷◌, ◌++◌, length, Some, None}
use Rattle.vx_model.specs.Ty.{Ty}
use Rattle.vx_model.specs.ChunkData.{ChunkData}
use Rattle.vx_path.specs.Lists.{In}
use Rattle.vx_tasks.specs.Task.{Forest}
use Rattle.vx_tasks.specs.Task.Forest.{Bare, Node}
use Rattle.vx_tasks.specs.Rules.{KeepsRules, KeepsOrder, Rises, names}
use Rattle.vx_named_tasks.specs.Names.{Names, Outset, root_outset, CanBegin}
use Rattle.vx_strategy_spec.specs.StrategyData.{StrategyData}
use Rattle.vx_strategy_spec.specs.Walk.{walk}
use Rattle.vx_plan.specs.PlanData.{Setting, Plan, What}
use Rattle.vx_plan.specs.SourcePlan.{source_plan}
use Rattle.vx_plan.specs.Valid.{Has}
use Rattle.vx_machine_turns.specs.Forms.{Form, form_nodes, form_type}
use Rattle.vx_machine_turns.specs.Acts.{Act, passes, wrote, first_refusal, any_refuses, births, shape_in, numbers_in, indices_in, raised_in, lowered_in}
use Rattle.vx_machine_turns.specs.Starts.{start_fault}
use Rattle.vx_machine_turns.specs.Source.{named_acts, firsts_at, seed_at, stream_plan}
use Rattle.vx_machine_turns.specs.Fuels.{Fuel, Through, Enough}
use Rattle.vx_machine_turns.specs.Readings.{Reading, unread, pair_reading, fault_reading, layout_reading, number_reading, index_reading, start_reading, raise_reading, lower_reading}
use Rattle.vx_machine_turns.specs.Plain.{task_of, script_reading}
use Rattle.vx_machine_turns.specs.Planned.{AtMost}
use Rattle.vx_machine_turns.specs.Tidy.{Tidy}

-- The fuel is that below the source's task, and is enough for a form below it.
abbrev pub Suffices : Fuel → Form → Type 0
Suffices d f = Through (λ x. Enough x f) (form_type f) d

abbrev pub below_source : {F : Type 0} → Setting → Reading F → Fuel → Form → Bool → Outset → List ChunkData → Bool → F
below_source s v d f m o bs fits = unread s v d 0 (firsts_at f m o) (named_acts o.names bs fits)

-- the tree of scripts, with the source's on top
abbrev pub whole : Setting → Fuel → Form → Bool → Outset → List ChunkData → Bool → Forest
whole s d f m o bs fits = Node (task_of (seed_at f m o) (named_acts o.names bs fits)) (below_source s script_reading d f m o bs fits) Bare

-- The source itself starts nothing more, appends nothing and finds no fault of the plan; where it ends it hands its root's layout on.
pub record Silent (acts : List Act) (fits : Bool) : Type 0 where
  pub unborn : births acts ≡ []
  pub mute : wrote acts ≡ []
  pub clean : first_refusal acts ≡ []
  pub passing : shape_in acts ≡ (if fits then Some passes else None)
  pub uncounted : numbers_in acts ≡ []
  pub unraised : raised_in acts ≡ 0
  pub unlowered : lowered_in acts ≡ 0

-- And it refuses just where a batch doesn't fit the schema.
abbrev pub SourceIsSilent : Type 0
SourceIsSilent = (ns : Names) (bs : List ChunkData) (fits : Bool) → Silent (named_acts ns bs fits) fits × (any_refuses (named_acts ns bs fits) ≡ not fits)

-- behind the root, which is started before
abbrev pub SourceIsTidy : Type 0
SourceIsTidy = (ns : Names) (bs : List ChunkData) (fits : Bool) → Tidy 1 (named_acts ns bs fits)

-- a form's whole machine on the batches that begin there, against a plan of them
pub record MeetsAll (s : Setting) (d : Fuel) (f : Form) (m : Bool) (o : Outset) (bs : List ChunkData) (fits : Bool) (p : Plan) : Type 0 where
  pub pairs : below_source s pair_reading d f m o bs fits ≡ p.pairs
  pub cause : (w : What) → In w (below_source s fault_reading d f m o bs fits) → Has w p.faults
  pub clean : below_source s fault_reading d f m o bs fits ≡ [] → start_fault s f m ≡ None → p.faults ≡ []
  pub begins : (w : What) → start_fault s f m ≡ Some w → Has w p.faults
  pub layout : fits ≡ true → p.faults ≡ [] → below_source s layout_reading d f m o bs fits ≡ p.layout ∷ []
  pub numbers : (n : ℕ) → In n (below_source s number_reading d f m o bs fits) → In n p.numbers
  -- how far the source's pointer comes, too
  pub indices : (n : ℕ) → In n (indices_in (named_acts o.names bs fits) ++ below_source s index_reading d f m o bs fits) → AtMost n p.numbers
  pub starts : (n : ℕ) → In n (below_source s start_reading d f m o bs fits) → AtMost n p.numbers
  pub raises : below_source s raise_reading d f m o bs fits ≡ p.reserved
  pub lowers : fits ≡ true → below_source s lower_reading d f m o bs fits ≡ p.reserved

-- The machine of a strategy is what is planned of the source's batches.
abbrev pub MachineIsPlanned : Type 0
MachineIsPlanned = (s : Setting) (w : StrategyData) (t : Ty) (m : Bool) (o : Outset) (bs : List ChunkData) (fits : Bool) (d : Fuel) → Suffices d (walk form_nodes w t)
    → MeetsAll s d (walk form_nodes w t) m o bs fits (stream_plan s w t m o bs fits)

-- And its scripts keep the rules of the theory, where it can begin there.
abbrev pub MachineIsGood : Type 0
MachineIsGood = (s : Setting) (w : StrategyData) (t : Ty) (m : Bool) (o : Outset) (bs : List ChunkData) (fits : Bool) (d : Fuel) → Suffices d (walk form_nodes w t) → CanBegin o (length bs)
    → KeepsRules (whole s d (walk form_nodes w t) m o bs fits) × KeepsOrder (whole s d (walk form_nodes w t) m o bs fits) × Rises (names (whole s d (walk form_nodes w t) m o bs fits))

-- the root's plan is that of its source's batches
abbrev pub RootIsSource : Type 0
RootIsSource = (s : Setting) (w : StrategyData) (t : Ty) (m : Bool) (bs : List ChunkData) (ended : Bool) → stream_plan s w t m root_outset bs ended ≡ source_plan s w t m bs ended
