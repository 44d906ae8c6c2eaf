-- The fields of a tree are read as they are written.
use Rattle.std.proofs.Common.{ℕ, ◌^◌, ◌<◌}
use Rattle.std.specs.Int.{w16, w64, to_le_bytes}
use Rattle.vx_model.specs.CellData.{u64_bytes}
use Rattle.vx_byte_reader.specs.Fields as fields
use Rattle.vx_byte_reader.proofs.FieldLaws as laws
use Rattle.vx_byte_reader.proofs.FieldLaws.{one_byte, bit_byte, Any}
use Rattle.vx_byte_reader.proofs.PlaceLaws.{Reads, placed}
use Rattle.vx_segment_spec.specs.Reading.{bad_grammar, number_at, byte_at, flag_at}

pub reads_u16 : (stop : ℕ) → Reads (number_at w16 stop) (to_le_bytes w16) (λ n. n < 2 ^ 16)
reads_u16 stop = placed bad_grammar (fields.number_at w16) (to_le_bytes w16) (λ n. n < 2 ^ 16) stop laws.reads_u16

pub reads_u64 : (stop : ℕ) → Reads (number_at w64 stop) u64_bytes (λ n. n < 2 ^ 64)
reads_u64 stop = placed bad_grammar (fields.number_at w64) u64_bytes (λ n. n < 2 ^ 64) stop laws.reads_u64

pub reads_byte : (stop : ℕ) → Reads (byte_at stop) one_byte Any
reads_byte stop = placed bad_grammar fields.byte_at one_byte Any stop laws.reads_byte

pub reads_flag : (stop : ℕ) → Reads (flag_at stop) bit_byte Any
reads_flag stop = placed bad_grammar fields.flag_at bit_byte Any stop laws.reads_flag
