-- Which errors a task's act may meet.
use Rattle.std.specs.Prelude.{◌≡◌, ◌^◌, ◌≤◌}
use Rattle.vx_write_answer.specs.declared.error.WriteError.{WriteError}
use Rattle.vx_write_answer.specs.declared.error.WriteError.TheVariants.{SourceFault, SinkFault, CompressFault, BatchType, NotStruct, DuplicateField, ManyChunks, EmptyList, ZoneCut, ForbiddenAggregate, ForbiddenEncoding, TooLarge, OutOfMemory, Stopped}

-- A line an error, of an act that asks no sink. A number is too large where it passes 64 bits.
abbrev pub MayCome : WriteError → Type 0
MayCome SourceFault = ⊥
MayCome SinkFault = ⊥
MayCome CompressFault = ⊥
MayCome (BatchType c) = Unit {0}
MayCome NotStruct = Unit {0}
MayCome (DuplicateField name) = Unit {0}
MayCome ManyChunks = Unit {0}
MayCome EmptyList = Unit {0}
MayCome (ZoneCut n) = Unit {0}
MayCome (ForbiddenAggregate id) = Unit {0}
MayCome (ForbiddenEncoding id) = Unit {0}
MayCome (TooLarge n) = 2 ^ 64 ≤ n
MayCome OutOfMemory = Unit {0}
MayCome (Stopped by name) = ⊥

-- the same of an act that may append: a segment's number passes 32 bits
abbrev pub AppendMay : WriteError → Type 0
AppendMay SinkFault = Unit {0}
AppendMay (Stopped by name) = Unit {0}
AppendMay (TooLarge n) = 2 ^ 32 ≤ n
AppendMay e = MayCome e

-- and of one that may compress as well
abbrev pub ActMay : WriteError → Type 0
ActMay CompressFault = Unit {0}
ActMay e = AppendMay e

-- of a call of the compressor
abbrev pub PressMay : WriteError → Type 0
PressMay CompressFault = Unit {0}
PressMay OutOfMemory = Unit {0}
PressMay e = ⊥

-- the same of what starts a task
abbrev pub StartMay : WriteError → Type 0
StartMay NotStruct = Unit {0}
StartMay (DuplicateField name) = Unit {0}
StartMay (TooLarge n) = n ≡ 2 ^ 64
StartMay OutOfMemory = Unit {0}
StartMay SourceFault = ⊥
StartMay SinkFault = ⊥
StartMay CompressFault = ⊥
StartMay (BatchType c) = ⊥
StartMay ManyChunks = ⊥
StartMay EmptyList = ⊥
StartMay (ZoneCut n) = ⊥
StartMay (ForbiddenAggregate id) = Unit {0}
StartMay (ForbiddenEncoding id) = ⊥
StartMay (Stopped by name) = ⊥
