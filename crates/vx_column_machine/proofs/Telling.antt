-- A source and a sink that never fail are told no fault.
use Rattle.std.proofs.Common.{◌≡◌, ℕ, refl, Bool, Err}
use Rattle.vx_seats.specs.Turns.{NeverFails}
use Rattle.vx_write_answer.specs.declared.step.Step.{Step}
use Rattle.vx_write_answer.specs.declared.error.WriteError.{WriteError}
use Rattle.vx_write_answer.specs.declared.error.WriteError.TheVariants.{SourceFault, SinkFault, CompressFault, BatchType, NotStruct, DuplicateField, ManyChunks, EmptyList, ZoneCut, ForbiddenAggregate, ForbiddenEncoding, TooLarge, OutOfMemory, Stopped}
use Rattle.vx_machine.specs.TaskCalls.{SinkTold}
use Rattle.vx_machine.specs.Calls.{SourceTold}

module _ (before now : ℕ) (may may_then must must_then : ℕ → Type 0) where
  pub fed_well : (reads : Bool) (e : WriteError) → SourceTold {A = Step} before now may may_then must must_then reads (Err e) (λ s. s.action) → NeverFails may → e ≡ SourceFault → ⊥
  fed_well reads SourceFault h n is = n 0 (h.1.allowed refl)
  fed_well reads (BatchType b) h n is = absurd cc
  fed_well reads SinkFault h n is = absurd cc
  fed_well reads CompressFault h n is = absurd cc
  fed_well reads NotStruct h n is = absurd cc
  fed_well reads (DuplicateField name) h n is = absurd cc
  fed_well reads ManyChunks h n is = absurd cc
  fed_well reads EmptyList h n is = absurd cc
  fed_well reads (ZoneCut z) h n is = absurd cc
  fed_well reads (ForbiddenAggregate id) h n is = absurd cc
  fed_well reads (ForbiddenEncoding id) h n is = absurd cc
  fed_well reads (TooLarge z) h n is = absurd cc
  fed_well reads OutOfMemory h n is = absurd cc
  fed_well reads (Stopped by name) h n is = absurd cc

  pub kept_well : (e : WriteError) → SinkTold {A = Step} before now may may_then must must_then (Err e) (λ s. s.action) → NeverFails may → e ≡ SinkFault → ⊥
  kept_well SinkFault h n is = n 0 (h.allowed refl)
  kept_well SourceFault h n is = absurd cc
  kept_well (BatchType b) h n is = absurd cc
  kept_well CompressFault h n is = absurd cc
  kept_well NotStruct h n is = absurd cc
  kept_well (DuplicateField name) h n is = absurd cc
  kept_well ManyChunks h n is = absurd cc
  kept_well EmptyList h n is = absurd cc
  kept_well (ZoneCut z) h n is = absurd cc
  kept_well (ForbiddenAggregate id) h n is = absurd cc
  kept_well (ForbiddenEncoding id) h n is = absurd cc
  kept_well (TooLarge z) h n is = absurd cc
  kept_well OutOfMemory h n is = absurd cc
  kept_well (Stopped by name) h n is = absurd cc
