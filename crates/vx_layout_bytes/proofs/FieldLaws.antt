-- The fields of a node are read as they are written.
use Rattle.std.proofs.Common.{◌≡◌, ℕ, ◌-◌, ◌^◌, ◌<◌, List, ◌++◌, length, Ok, refl}
use Rattle.std.specs.Int.{w16, w32, w64, to_le_bytes}
use Rattle.vx_byte_reader.specs.Fields as fields
use Rattle.vx_byte_reader.specs.Fields.{front_at}
use Rattle.vx_byte_reader.proofs.FieldLaws as laws
use Rattle.vx_byte_reader.proofs.FieldLaws.{Takes, front_takes, front_again}
use Rattle.vx_byte_reader.proofs.PlaceLaws.{Reads, placed, found}
use Rattle.vx_layout_bytes.specs.Reading.{bad_grammar, number_at, bytes_at}
use Rattle.vx_layout_bytes.specs.Values.{AreBytes}

pub reads_u16 : (stop : ℕ) → Reads (number_at w16 stop) (to_le_bytes w16) (λ n. n < 2 ^ 16)
reads_u16 stop = placed bad_grammar (fields.number_at w16) (to_le_bytes w16) (λ n. n < 2 ^ 16) stop laws.reads_u16

pub reads_u32 : (stop : ℕ) → Reads (number_at w32 stop) (to_le_bytes w32) (λ n. n < 2 ^ 32)
reads_u32 stop = placed bad_grammar (fields.number_at w32) (to_le_bytes w32) (λ n. n < 2 ^ 32) stop laws.reads_u32

pub reads_u64 : (stop : ℕ) → Reads (number_at w64 stop) (to_le_bytes w64) (λ n. n < 2 ^ 64)
reads_u64 stop = placed bad_grammar (fields.number_at w64) (to_le_bytes w64) (λ n. n < 2 ^ 64) stop laws.reads_u64

pub bytes_take : (n stop : ℕ) (bytes s rest : List ℕ) → AreBytes bytes → bytes_at n stop bytes ≡ Ok (s, rest) → Takes bytes s rest × (length s ≡ n)
bytes_take n stop bytes s rest fits e =
    let t = front_takes n bytes s rest fits (found (bad_grammar (stop - length bytes)) (front_at n bytes) (s, rest) e) in
    (t.0, t.1)

pub bytes_again : (stop : ℕ) (s rest : List ℕ) → bytes_at (length s) stop (s ++ rest) ≡ Ok (s, rest)
bytes_again stop s rest = rw (front_again (length s) s rest refl) refl
