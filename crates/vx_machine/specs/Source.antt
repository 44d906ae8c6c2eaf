-- The source's task.
use Rattle.std.specs.Prelude.{◌≡◌, ◌<◌, ◌≤◌, ◌^◌, ℕ, List, ◌∷◌, Option, Some, None, option_map, Result, Ok, Err}
use Rattle.vx_model.specs.Ty.{Ty}
use Rattle.vx_model.specs.ChunkData.{ChunkData, piece_type}
use Rattle.vx_layout_spec.specs.Real.{Whole}
use Rattle.vx_fault.specs.Told.{NoneTold}
use Rattle.vx_machine_ids.specs.Stock.{Stock, none, both}
use Rattle.vx_write_answer.specs.declared.error.WriteError.{WriteError}
use Rattle.vx_write_answer.specs.declared.error.WriteError.TheVariants.{SourceFault, SinkFault, CompressFault, BatchType, NotStruct, DuplicateField, ManyChunks, EmptyList, ZoneCut, ForbiddenAggregate, ForbiddenEncoding, TooLarge, OutOfMemory, Stopped}
use Rattle.vx_machine.specs.declared.source.Phase.{Phase}
use Rattle.vx_machine.specs.declared.source.Phase.TheVariants.{Reading, Giving, Closing, Finished}
use Rattle.vx_machine_node.specs.Stocks.{item_stock}
use Rattle.vx_machine.specs.Names.{names_stock}

abbrev pub phase_stock : Phase → Stock
phase_stock (Reading ns) = names_stock ns
phase_stock (Giving ns i) = both (names_stock ns) (item_stock i)
phase_stock Closing = none
phase_stock Finished = none

-- a batch is of the type
abbrev pub IsTyped : Ty → Option ChunkData → Type 0
IsTyped t None = Unit {0}
IsTyped t (Some c) = piece_type c ≡ t

-- and leaves fewer; the end leaves no more
abbrev pub IsFewer : ℕ → ℕ → Option ChunkData → Type 0
IsFewer before now None = now ≤ before
IsFewer before now (Some c) = now < before

-- and whole
abbrev pub IsWhole : Option ChunkData → Type 0
IsWhole None = Unit {0}
IsWhole (Some c) = Whole c

-- a batch is the first of those told, also where it is of another type; at the end none is left; another error changes nothing
abbrev pub ReadsNone : Option (List ChunkData) → Option (List ChunkData) → WriteError → Type 0
ReadsNone before now (BatchType c) = before ≡ option_map (λ cs. c ∷ cs) now
ReadsNone before now e = now ≡ before

abbrev pub Reads : Option (List ChunkData) → Option (List ChunkData) → Result (Option ChunkData) WriteError → Type 0
Reads before now (Ok (Some c)) = before ≡ option_map (λ cs. c ∷ cs) now
Reads before now (Ok None) = (now ≡ before) × NoneTold now
Reads before now (Err e) = ReadsNone before now e

-- why the source's act is refused: its own count tells of a fault
abbrev pub SourceMay : Ty → WriteError → Type 0
SourceMay t SourceFault = Unit {0}
SourceMay t (BatchType c) = ¬ (piece_type c ≡ t)
SourceMay t (TooLarge n) = n ≡ 2 ^ 64
SourceMay t OutOfMemory = Unit {0}
SourceMay t SinkFault = ⊥
SourceMay t CompressFault = ⊥
SourceMay t NotStruct = ⊥
SourceMay t (DuplicateField name) = ⊥
SourceMay t ManyChunks = ⊥
SourceMay t EmptyList = ⊥
SourceMay t (ZoneCut n) = ⊥
SourceMay t (ForbiddenAggregate id) = ⊥
SourceMay t (ForbiddenEncoding id) = ⊥
SourceMay t (Stopped by name) = ⊥

-- what a source answers where it gives no batch is no number that is too large
abbrev pub NoNumber : WriteError → Type 0
NoNumber (TooLarge n) = ⊥
NoNumber e = Unit {0}
