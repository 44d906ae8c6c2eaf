-- Which errors a step of the machine may meet, of those that an act may.
use Rattle.std.proofs.Common.{arith}
use Rattle.vx_model.specs.Ty.{Ty}
use Rattle.vx_tasks.specs.Task.{Kind}
use Rattle.vx_write_answer.specs.declared.error.WriteError.{WriteError}
use Rattle.vx_write_answer.specs.declared.error.WriteError.TheVariants.{SourceFault, SinkFault, CompressFault, BatchType, NotStruct, DuplicateField, ManyChunks, EmptyList, ZoneCut, ForbiddenAggregate, ForbiddenEncoding, TooLarge, OutOfMemory, Stopped}
use Rattle.vx_machine_node.specs.Causes.{ActMay}
use Rattle.vx_machine_tasks.specs.Acting.{CallFails}
use Rattle.vx_machine.specs.Source.{SourceMay}
use Rattle.vx_machine.specs.SourceActs.{IsElsewhere}
use Rattle.vx_machine.specs.Whole.{StepMay}

pub act_step : (e : WriteError) → ActMay e → StepMay e
act_step SourceFault h = tt
act_step SinkFault h = tt
act_step CompressFault h = h
act_step (BatchType c) h = tt
act_step NotStruct h = tt
act_step (DuplicateField name) h = tt
act_step ManyChunks h = tt
act_step EmptyList h = tt
act_step (ZoneCut n) h = h
act_step (ForbiddenAggregate id) h = h
act_step (ForbiddenEncoding id) h = tt
act_step (TooLarge n) h = h
act_step OutOfMemory h = tt
act_step (Stopped by name) h = tt

pub source_step : (t : Ty) (e : WriteError) → SourceMay t e → StepMay e
source_step t SourceFault h = tt
source_step t SinkFault h = tt
source_step t CompressFault h = absurd h
source_step t (BatchType c) h = tt
source_step t NotStruct h = tt
source_step t (DuplicateField name) h = tt
source_step t ManyChunks h = tt
source_step t EmptyList h = tt
source_step t (ZoneCut n) h = absurd h
source_step t (ForbiddenAggregate id) h = absurd h
source_step t (ForbiddenEncoding id) h = tt
source_step t (TooLarge n) h = omega (arith, h)
source_step t OutOfMemory h = tt
source_step t (Stopped by name) h = tt

-- a task's act never says that the source failed
pub act_elsewhere : (e : WriteError) → ActMay e → IsElsewhere e
act_elsewhere SourceFault h = h
act_elsewhere e h = tt

-- and the source's never says that the compressor did
pub source_uncalled : (t : Ty) (k : Kind) (e : WriteError) → SourceMay t e → CallFails k e
source_uncalled t k CompressFault h = absurd h
source_uncalled t k e h = tt
