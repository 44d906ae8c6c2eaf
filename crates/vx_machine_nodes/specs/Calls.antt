-- What acts tell of their calls of the source and of the sink.
use Rattle.std.specs.Prelude.{◌≡◌, ◌⊎◌, ℕ, zero, suc, true, false, Result, Ok, Err}
use Rattle.vx_fault.specs.Faults.{Called}
use Rattle.vx_order.specs.Answers.{Unasked}
use Rattle.vx_write_answer.specs.declared.step.ActionKind.{ActionKind}
use Rattle.vx_write_answer.specs.declared.step.ActionKind.TheVariants as actions
use Rattle.vx_write_answer.specs.declared.error.WriteError.{WriteError}
use Rattle.vx_write_answer.specs.declared.error.WriteError.TheVariants.{SinkFault, CompressFault}

-- ---- how often

-- an act asks the source once where it reads a batch or the end
abbrev pub reads_action : ActionKind → ℕ
reads_action actions.Batch = 1
reads_action actions.End = 1
reads_action actions.Take = 0
reads_action actions.Put = 0
reads_action actions.Close = 0
reads_action actions.Call = 0
reads_action actions.Append = 0
reads_action actions.Join = 0

-- and the sink where it appends
abbrev pub append_action : ActionKind → ℕ
append_action actions.Append = 1
append_action actions.Batch = 0
append_action actions.End = 0
append_action actions.Take = 0
append_action actions.Put = 0
append_action actions.Close = 0
append_action actions.Call = 0
append_action actions.Join = 0

-- and the compressor where it compresses
abbrev pub call_action : ActionKind → ℕ
call_action actions.Call = 1
call_action actions.Batch = 0
call_action actions.End = 0
call_action actions.Take = 0
call_action actions.Put = 0
call_action actions.Close = 0
call_action actions.Append = 0
call_action actions.Join = 0

-- ---- what is told of it, in six values: how often it failed, and which calls may and must fail

-- called so often, at most once, without a fault
abbrev pub CalledTimes : ℕ → ℕ → (ℕ → Type 0) → (ℕ → Type 0) → (ℕ → Type 0) → (ℕ → Type 0) → ℕ → Type 0
CalledTimes before now may may_then must must_then zero = Unasked before now may may_then must must_then
CalledTimes before now may may_then must must_then (suc n) = Called before now may may_then must must_then false

-- of what is refused: not called, or without a fault
abbrev pub MaybeCalled : ℕ → ℕ → (ℕ → Type 0) → (ℕ → Type 0) → (ℕ → Type 0) → (ℕ → Type 0) → Type 0
MaybeCalled before now may may_then must must_then = Unasked before now may may_then must must_then ⊎ Called before now may may_then must must_then false

-- The sink failed. Another error tells less.
abbrev pub SinkStops : ℕ → ℕ → (ℕ → Type 0) → (ℕ → Type 0) → (ℕ → Type 0) → (ℕ → Type 0) → WriteError → Type 0
SinkStops before now may may_then must must_then SinkFault = Called before now may may_then must must_then true
SinkStops before now may may_then must must_then e = MaybeCalled before now may may_then must must_then

-- of what is done by this act, or refused
abbrev pub SinkTold : {A : Type 0} → ℕ → ℕ → (ℕ → Type 0) → (ℕ → Type 0) → (ℕ → Type 0) → (ℕ → Type 0) → Result A WriteError → (A → ActionKind) → Type 0
SinkTold before now may may_then must must_then (Ok x) act = CalledTimes before now may may_then must must_then (append_action (act x))
SinkTold before now may may_then must must_then (Err e) act = SinkStops before now may may_then must must_then e

-- of a task's act, which never asks the source
abbrev pub TaskTold : {A : Type 0} → ℕ → ℕ → (ℕ → Type 0) → (ℕ → Type 0) → (ℕ → Type 0) → (ℕ → Type 0) → Result A WriteError → (A → ActionKind) → Type 0
TaskTold before now may may_then must must_then (Ok x) act = (reads_action (act x) ≡ 0) × CalledTimes before now may may_then must must_then (append_action (act x))
TaskTold before now may may_then must must_then (Err e) act = SinkStops before now may may_then must must_then e

-- of an append
abbrev pub AppendTold : {A : Type 0} → ℕ → ℕ → (ℕ → Type 0) → (ℕ → Type 0) → (ℕ → Type 0) → (ℕ → Type 0) → Result A WriteError → Type 0
AppendTold before now may may_then must must_then r = SinkTold before now may may_then must must_then r (λ x. actions.Append)

-- The compressor failed. Another error tells less.
abbrev pub PressStops : ℕ → ℕ → (ℕ → Type 0) → (ℕ → Type 0) → (ℕ → Type 0) → (ℕ → Type 0) → WriteError → Type 0
PressStops before now may may_then must must_then CompressFault = Called before now may may_then must must_then true
PressStops before now may may_then must must_then e = MaybeCalled before now may may_then must must_then

-- of what is done by this act, or refused
abbrev pub PressTold : {A : Type 0} → ℕ → ℕ → (ℕ → Type 0) → (ℕ → Type 0) → (ℕ → Type 0) → (ℕ → Type 0) → Result A WriteError → (A → ActionKind) → Type 0
PressTold before now may may_then must must_then (Ok x) act = CalledTimes before now may may_then must must_then (call_action (act x))
PressTold before now may may_then must must_then (Err e) act = PressStops before now may may_then must must_then e
