-- Errors of a write, by what gave them.
use Rattle.std.specs.Prelude.{Bool, true, false, Result, Ok, Err}
use Rattle.vx_sink.specs.declared.source.SourceError.{SourceError}
use Rattle.vx_sink.specs.declared.source.SourceError.TheVariants as source
use Rattle.vx_sink.specs.declared.sink.SinkError.{SinkError}
use Rattle.vx_sink.specs.declared.sink.SinkError.TheVariants as sink
use Rattle.vx_segment_writer.specs.declared.error.EncodeError.{EncodeError}
use Rattle.vx_segment_writer.specs.declared.error.EncodeError.TheVariants as encoding
use Rattle.vx_order_answer.specs.declared.errors.OrderError.{OrderError}
use Rattle.vx_order_answer.specs.declared.errors.OrderError.TheVariants as order
use Rattle.vx_split.specs.declared.error.SplitError.{SplitError}
use Rattle.vx_split.specs.declared.error.SplitError.TheVariants as split
use Rattle.vx_write_answer.specs.declared.error.WriteError.{WriteError}
use Rattle.vx_write_answer.specs.declared.error.WriteError.TheVariants.{SourceFault, SinkFault, CompressFault, NotStruct, DuplicateField, ForbiddenEncoding, TooLarge, OutOfMemory, Stopped}

abbrev pub of_source : SourceError → WriteError
of_source source.Failed = SourceFault
of_source source.OutOfMemory = OutOfMemory

abbrev pub of_sink : SinkError → WriteError
of_sink sink.Failed = SinkFault
of_sink sink.OutOfMemory = OutOfMemory

abbrev pub of_encode : EncodeError → WriteError
of_encode (encoding.EncodingNotListed id) = ForbiddenEncoding id
of_encode encoding.OutOfMemory = OutOfMemory

abbrev pub of_order : OrderError → WriteError
of_order (order.TooLarge n) = TooLarge n
of_order order.SinkFault = SinkFault
of_order order.OutOfMemory = OutOfMemory
of_order (order.Stopped by name) = Stopped by name

abbrev pub of_split : SplitError → WriteError
of_split split.NotStruct = NotStruct
of_split (split.DuplicateField name) = DuplicateField name
of_split (split.TooLarge n) = TooLarge n
of_split split.OutOfMemory = OutOfMemory

abbrev pub is_source_fault : WriteError → Bool
is_source_fault SourceFault = true
is_source_fault e = false

abbrev pub is_sink_fault : WriteError → Bool
is_sink_fault SinkFault = true
is_sink_fault e = false

abbrev pub is_compress_fault : WriteError → Bool
is_compress_fault CompressFault = true
is_compress_fault e = false

-- whether the result is an error of which this holds
abbrev pub errs : {A E : Type 0} → (E → Bool) → Result A E → Bool
errs f (Ok x) = false
errs f (Err e) = f e
