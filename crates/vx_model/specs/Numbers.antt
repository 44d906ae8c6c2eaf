-- Numbers, widths, ranges and names of the integer types and the encodings.
use Rattle.std.specs.Prelude.{ℕ, ◌^◌, ◌&&◌, ◌==◌, Bool, true, false, not, List, codes, ℤ, pos, negsuc, int_lt}
use Rattle.std.specs.Int.{Width, w8, w16, w32, w64}
use Rattle.vx_model.specs.declared.ptype.PType.{PType}
use Rattle.vx_model.specs.declared.ptype.PType.TheVariants.{U8, U16, U32, U64, I8, I16, I32, I64}
use Rattle.vx_model.specs.declared.ptype.Nullability.{Nullability}
use Rattle.vx_model.specs.declared.ptype.Nullability.TheVariants.{NonNullable, Nullable}
use Rattle.vx_model.specs.declared.encoding.EncodingId.{EncodingId}
use Rattle.vx_model.specs.declared.encoding.EncodingId.TheVariants as encodings

-- the number of an integer type in bytes
abbrev pub ptype_number : PType → ℕ
ptype_number U8 = 0
ptype_number U16 = 1
ptype_number U32 = 2
ptype_number U64 = 3
ptype_number I8 = 4
ptype_number I16 = 5
ptype_number I32 = 6
ptype_number I64 = 7

abbrev pub ptype_width : PType → Width
ptype_width U8 = w8
ptype_width U16 = w16
ptype_width U32 = w32
ptype_width U64 = w64
ptype_width I8 = w8
ptype_width I16 = w16
ptype_width I32 = w32
ptype_width I64 = w64

-- bytes of one integer
abbrev pub ptype_bytes : PType → ℕ
ptype_bytes U8 = 1
ptype_bytes U16 = 2
ptype_bytes U32 = 4
ptype_bytes U64 = 8
ptype_bytes I8 = 1
ptype_bytes I16 = 2
ptype_bytes I32 = 4
ptype_bytes I64 = 8

-- an integer type's name
abbrev pub ptype_name : PType → List ℕ
ptype_name U8 = codes "u8"
ptype_name U16 = codes "u16"
ptype_name U32 = codes "u32"
ptype_name U64 = codes "u64"
ptype_name I8 = codes "i8"
ptype_name I16 = codes "i16"
ptype_name I32 = codes "i32"
ptype_name I64 = codes "i64"

abbrev pub is_between : ℤ → ℤ → ℤ → Bool
is_between low high n = not (int_lt n low) && int_lt n high

-- whether the type has the integer
abbrev pub int_fits : PType → ℤ → Bool
int_fits U8 = is_between (pos 0) (pos (2 ^ 8))
int_fits U16 = is_between (pos 0) (pos (2 ^ 16))
int_fits U32 = is_between (pos 0) (pos (2 ^ 32))
int_fits U64 = is_between (pos 0) (pos (2 ^ 64))
int_fits I8 = is_between (negsuc 127) (pos 128)
int_fits I16 = is_between (negsuc 32767) (pos 32768)
int_fits I32 = is_between (negsuc 2147483647) (pos (2 ^ 31))
int_fits I64 = is_between (negsuc 9223372036854775807) (pos (2 ^ 63))

abbrev pub is_nullable : Nullability → Bool
is_nullable NonNullable = false
is_nullable Nullable = true

-- the place of an encoding in the default order
abbrev pub encoding_number : EncodingId → ℕ
encoding_number encodings.Plain = 0
encoding_number encodings.Constant = 1
encoding_number encodings.Dict = 2
encoding_number encodings.Chunked = 3
encoding_number encodings.List = 4
encoding_number encodings.Struct = 5
encoding_number encodings.Extension = 6

-- an encoding's name in jobs and reports
abbrev pub encoding_id : EncodingId → List ℕ
encoding_id encodings.Plain = codes "vx.plain"
encoding_id encodings.Constant = codes "vx.constant"
encoding_id encodings.Dict = codes "vx.dict"
encoding_id encodings.Chunked = codes "vx.chunked"
encoding_id encodings.List = codes "vx.list"
encoding_id encodings.Struct = codes "vx.struct"
encoding_id encodings.Extension = codes "vx.ext"

abbrev pub encoding_eq : EncodingId → EncodingId → Bool
encoding_eq a b = encoding_number a == encoding_number b
