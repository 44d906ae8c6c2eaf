-- What the source's act did, against its step in plain data.
use Rattle.std.specs.Prelude.{◌≡◌, ℕ, zero, suc, false, List, ◌∷◌, ◌++◌, Option, option_map}
use Rattle.vx_model.specs.Ty.{Ty}
use Rattle.vx_model.specs.ChunkData.{ChunkData}
use Rattle.vx_named_tasks.specs.Names.{Names}
use Rattle.vx_layout_spec.specs.Real.{Of}
use Rattle.vx_fault.specs.Told.{NoneTold}
use Rattle.vx_write_answer.specs.declared.step.ActionKind.{ActionKind}
use Rattle.vx_write_answer.specs.declared.error.WriteError.{WriteError}
use Rattle.vx_write_answer.specs.declared.error.WriteError.TheVariants.{SourceFault, TooLarge}
use Rattle.vx_machine_promises.specs.Write.{Answer, unasked, came, over}
use Rattle.vx_machine_state.specs.State.{Tasks}
use Rattle.vx_machine_view.specs.Machine.{Phase, reading, giving, closing, finished, Machine, source_step}
use Rattle.vx_machine_node.specs.Outcome.{action_of, AllFit, Refused, none_past}
use Rattle.vx_machine.specs.Source.{ReadsNone, SourceMay, NoNumber}

-- what it tells, where it is asked: a whole batch of the type, or the end
abbrev pub Tells : Ty → Option (List ChunkData) → Option (List ChunkData) → Answer → Type 0
Tells t before now unasked = now ≡ before
Tells t before now (came b) = (before ≡ option_map (λ cs. b ∷ cs) now) × Of t b
Tells t before now over = (now ≡ before) × NoneTold now

-- an error that comes behind a batch of the type: the batch can have no path, as its number is too large
abbrev pub IsLate : WriteError → Type 0
IsLate (TooLarge n) = Unit {0}
IsLate e = ⊥

-- an error that doesn't say that the source failed
abbrev pub IsElsewhere : WriteError → Type 0
IsElsewhere SourceFault = ⊥
IsElsewhere e = Unit {0}

-- The same where the step is refused. Where it is asked, it may also have told a batch of another type, or failed: then no number is too
-- large. It fails nowhere else. Behind its end nothing is refused.

abbrev pub TellsNothing : Phase → ℕ → Ty → Option (List ChunkData) → Option (List ChunkData) → WriteError → Type 0
TellsNothing (reading ns) zero t before now error = ReadsNone before now error × SourceMay t error × NoNumber error
TellsNothing (reading ns) (suc k) t before now error = (now ≡ before) × IsElsewhere error
TellsNothing (giving ns i) k t before now error = (now ≡ before) × IsElsewhere error
TellsNothing closing k t before now error = (now ≡ before) × IsElsewhere error
TellsNothing finished k t before now error = (now ≡ before) × IsElsewhere error

abbrev pub TellsRefused : Phase → ℕ → Ty → Option (List ChunkData) → Option (List ChunkData) → WriteError → Answer → Type 0
TellsRefused p k t before now e unasked = TellsNothing p k t before now e
TellsRefused p k t before now e (came b) = IsLate e × (before ≡ option_map (λ cs. b ∷ cs) now) × Of t b
TellsRefused p k t before now e over = ⊥

-- it is asked only where it reads, in the first place
abbrev pub AsksAt : Phase → ℕ → Answer → Type 0
AsksAt (reading ns) zero a = Unit {0}
AsksAt (reading ns) (suc k) a = a ≡ unasked
AsksAt (giving ns i) k a = a ≡ unasked
AsksAt closing k a = a ≡ unasked
AsksAt finished k a = a ≡ unasked

abbrev pub whole_at : Phase → Tasks → Machine
whole_at phase root = record { phase = phase; root = root }

-- its act was done
pub record SourceActed (t : Ty) (before now : Option (List ChunkData)) (phase later : Phase) (root new : Tasks) (a : ActionKind) : Type 0 where
  pub told : Answer
  pub asks : AsksAt phase 0 told
  pub tells : Tells t before now told
  pub kind : a ≡ action_of (source_step told phase root).kind
  pub fits : (source_step told phase root).misfit ≡ false
  pub counted : AllFit ((source_step told phase root).numbers ++ (source_step told phase root).indices)
  pub left : whole_at later new ≡ (source_step told phase root).after

-- of one that reads a batch, whose path is the first of these: whatever the root is
abbrev pub ReadActed : Ty → Option (List ChunkData) → Option (List ChunkData) → Names → Phase → ActionKind → Type 0
ReadActed t before now ns later a = (root : Tasks) → SourceActed t before now (reading ns) later root root a

-- it was refused
pub record SourceRefused (t : Ty) (before now : Option (List ChunkData)) (phase : Phase) (root : Tasks) (e : WriteError) : Type 0 where
  pub told : Answer
  pub asks : AsksAt phase 0 told
  pub tells : TellsRefused phase 0 t before now e told
  pub cause : Refused (source_step told phase root).refusal (source_step told phase root).misfit (source_step told phase root).numbers (source_step told phase root).indices (source_step told phase root).wrote none_past ⊥
      (source_step told phase root).joined e

abbrev pub ReadRefused : Ty → Option (List ChunkData) → Option (List ChunkData) → Names → WriteError → Type 0
ReadRefused t before now ns error = (root : Tasks) → SourceRefused t before now (reading ns) root error
