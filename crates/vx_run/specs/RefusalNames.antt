-- How refusals are named.
use Rattle.std.specs.Prelude.{ℕ, Bool, true, false, List, codes}
use Rattle.vx_write_answer.specs.declared.error.WriteError.{WriteError}
use Rattle.vx_write_answer.specs.declared.error.WriteError.TheVariants as errors

-- how a refusal is named
abbrev pub refusal_name : WriteError → List ℕ
refusal_name errors.SourceFault = codes "SourceFault"
refusal_name errors.SinkFault = codes "SinkFault"
refusal_name errors.CompressFault = codes "CompressFault"
refusal_name (errors.BatchType c) = codes "BatchType"
refusal_name errors.NotStruct = codes "NotStruct"
refusal_name (errors.DuplicateField name) = codes "DuplicateField"
refusal_name errors.ManyChunks = codes "ManyChunks"
refusal_name errors.EmptyList = codes "EmptyList"
refusal_name (errors.ZoneCut n) = codes "ZoneCut"
refusal_name (errors.ForbiddenAggregate id) = codes "ForbiddenAggregate"
refusal_name (errors.ForbiddenEncoding id) = codes "ForbiddenEncoding"
refusal_name (errors.TooLarge n) = codes "TooLarge"
refusal_name errors.OutOfMemory = codes "OutOfMemory"
refusal_name (errors.Stopped column name) = codes "Stopped"

abbrev pub is_memory : WriteError → Bool
is_memory errors.OutOfMemory = true
is_memory e = false
