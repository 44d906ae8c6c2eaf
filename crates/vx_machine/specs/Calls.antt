-- What steps tell of their calls of the source.
use Rattle.std.specs.Prelude.{◌≡◌, ℕ, zero, suc, ◌+◌, ◌<◌, ◌≤◌, Bool, true, false, List, [], ◌∷◌, Result, Ok, Err}
use Rattle.vx_fault.specs.Faults.{Called}
use Rattle.vx_machine_view.specs.Machine.{Phase, reading, giving, closing, finished}
use Rattle.vx_write_answer.specs.declared.step.ActionKind.{ActionKind}
use Rattle.vx_write_answer.specs.declared.step.ActionKind.TheVariants as actions
use Rattle.vx_write_answer.specs.declared.step.Step.{Step}
use Rattle.vx_write_answer.specs.declared.error.WriteError.{WriteError}
use Rattle.vx_write_answer.specs.declared.error.WriteError.TheVariants.{SourceFault, BatchType}
use Rattle.vx_machine_nodes.specs.Calls.{reads_action, append_action, CalledTimes, MaybeCalled, call_action}

-- ---- how often

abbrev pub reads_in : List Step → ℕ
reads_in [] = 0
reads_in (s ∷ ss) = reads_action s.action + reads_in ss

abbrev pub appends_in : List Step → ℕ
appends_in [] = 0
appends_in (s ∷ ss) = append_action s.action + appends_in ss

abbrev pub calls_in : List Step → ℕ
calls_in [] = 0
calls_in (s ∷ ss) = call_action s.action + calls_in ss

-- a batch of another type is an answer too
abbrev pub misfits : WriteError → ℕ
misfits (BatchType c) = 1
misfits e = 0

-- how often the source has answered without a fault, by the steps and by what came of them
abbrev pub asked_by : {A : Type 0} → Result A WriteError → List Step → ℕ
asked_by (Ok x) ss = reads_in ss
asked_by (Err e) ss = reads_in ss + misfits e

-- an act that reads a batch leaves fewer, and no act more
abbrev pub LeavesFewer : ℕ → ℕ → ActionKind → Type 0
LeavesFewer before now actions.Batch = now < before
LeavesFewer before now a = now ≤ before

-- whether the source reads at this place
abbrev pub reads_at : Phase → ℕ → Bool
reads_at (reading ns) zero = true
reads_at (reading ns) (suc k) = false
reads_at (giving ns i) k = false
reads_at closing k = false
reads_at finished k = false

-- ---- what is told of it, in six values: how often it failed, and which calls may and must fail

-- of a batch of another type: where the source reads, it came
abbrev pub MisfitTold : ℕ → ℕ → (ℕ → Type 0) → (ℕ → Type 0) → (ℕ → Type 0) → (ℕ → Type 0) → Bool → Type 0
MisfitTold before now may may_then must must_then true = Called before now may may_then must must_then false
MisfitTold before now may may_then must must_then false = MaybeCalled before now may may_then must must_then

-- The source failed where it reads; or it gave a batch of another type there. Another error tells less.
abbrev pub SourceStops : ℕ → ℕ → (ℕ → Type 0) → (ℕ → Type 0) → (ℕ → Type 0) → (ℕ → Type 0) → Bool → WriteError → Type 0
SourceStops before now may may_then must must_then reads SourceFault = (reads ≡ true) × Called before now may may_then must must_then true
SourceStops before now may may_then must must_then reads (BatchType c) = MisfitTold before now may may_then must must_then reads
SourceStops before now may may_then must must_then reads e = MaybeCalled before now may may_then must must_then

-- of a step of this act, whether the source reads in it or not
abbrev pub SourceTold : {A : Type 0} → ℕ → ℕ → (ℕ → Type 0) → (ℕ → Type 0) → (ℕ → Type 0) → (ℕ → Type 0) → Bool → Result A WriteError → (A → ActionKind) → Type 0
SourceTold before now may may_then must must_then reads (Ok x) act = CalledTimes before now may may_then must must_then (reads_action (act x))
SourceTold before now may may_then must must_then reads (Err e) act = SourceStops before now may may_then must must_then reads e

-- of a read
abbrev pub ReadTold : {A : Type 0} → ℕ → ℕ → (ℕ → Type 0) → (ℕ → Type 0) → (ℕ → Type 0) → (ℕ → Type 0) → Result A WriteError → Type 0
ReadTold before now may may_then must must_then r = SourceTold before now may may_then must must_then true r (λ x. actions.Batch)
