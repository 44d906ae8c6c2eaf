-- The machine as a whole.
use Rattle.std.specs.Prelude.{ℕ, ◌+◌, ◌^◌, ◌≤◌, ◌&&◌, Bool, true, false}
use Rattle.vx_sequence.specs.Universe.{Active}
use Rattle.vx_machine_ids.specs.Stock.{Stock, one, both}
use Rattle.vx_write_answer.specs.declared.error.WriteError.{WriteError}
use Rattle.vx_write_answer.specs.declared.error.WriteError.TheVariants.{SourceFault, SinkFault, CompressFault, BatchType, NotStruct, DuplicateField, ManyChunks, EmptyList, ZoneCut, ForbiddenAggregate, ForbiddenEncoding, TooLarge, OutOfMemory, Stopped}
use Rattle.vx_machine.specs.declared.source.Phase.{Phase}
use Rattle.vx_machine.specs.declared.source.Phase.TheVariants.{Reading, Giving, Closing, Finished}
use Rattle.vx_machine.specs.declared.machine.Machine.{Machine}
use Rattle.vx_machine_task.specs.declared.task.Task.{Task}
use Rattle.vx_machine_task.specs.Ledger.{task_reserved}
use Rattle.vx_machine_task.specs.Stocks.{task_stock}
use Rattle.vx_machine.specs.Source.{phase_stock}
use Rattle.vx_machine_task.specs.Ready.{kid_of, ready_in, is_done}

-- all that it holds
abbrev pub machine_stock : Machine → Stock
machine_stock m = both (phase_stock m.phase) (task_stock m.root)

-- and has reserved
abbrev pub machine_reserved : Machine → ℕ
machine_reserved m = task_reserved m.root

abbrev pub may_source : Phase → Task → Bool
may_source (Reading ns) root = true
may_source (Giving ns i) root = (kid_of root).room
may_source Closing root = true
may_source Finished root = false

-- how many tasks are ready, the source with them
abbrev pub machine_ready : Active → Machine → ℕ
machine_ready u m = one (may_source m.phase m.root) + ready_in u m.root

abbrev pub has_closed : Phase → Bool
has_closed Finished = true
has_closed (Reading ns) = false
has_closed (Giving ns i) = false
has_closed Closing = false

-- the source has closed the root's queue, and the root has its layout
abbrev pub is_finished : Machine → Bool
is_finished m = has_closed m.phase && is_done m.root

-- why a step is refused
abbrev pub StepMay : WriteError → Type 0
StepMay SourceFault = Unit {0}
StepMay SinkFault = Unit {0}
StepMay CompressFault = Unit {0}
StepMay (BatchType c) = Unit {0}
StepMay NotStruct = Unit {0}
StepMay (DuplicateField name) = Unit {0}
StepMay ManyChunks = Unit {0}
StepMay EmptyList = Unit {0}
StepMay (ZoneCut n) = Unit {0}
StepMay (ForbiddenAggregate id) = Unit {0}
StepMay (ForbiddenEncoding id) = Unit {0}
StepMay (TooLarge n) = 2 ^ 32 ≤ n
StepMay OutOfMemory = Unit {0}
StepMay (Stopped by name) = Unit {0}
