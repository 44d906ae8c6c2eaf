-- Block lengths.
use Rattle.std.proofs.Common.{◌≡◌, ℕ, ◌+◌, ◌<◌, subst, arith, Some}
use Rattle.vx_model.specs.declared.ptype.PType.{PType}
use Rattle.vx_model.specs.declared.ptype.PType.TheVariants.{U8, U16, U32, U64, I8, I16, I32, I64}
use Rattle.vx_model.specs.Numbers.{ptype_bytes}
use Rattle.vx_model.specs.Ty.{Ty, boolean, primitive, utf8, binary, list, struct, extension}
use Rattle.vx_model.specs.ElementSize.{element_size}
use Rattle.vx_model.specs.CellData.{null_byte}

width_some : (p : PType) (k : ℕ) → 0 < ptype_bytes p + k
width_some U8 k = omega arith
width_some U16 k = omega arith
width_some U32 k = omega arith
width_some U64 k = omega arith
width_some I8 k = omega arith
width_some I16 k = omega arith
width_some I32 k = omega arith
width_some I64 k = omega arith

-- where all cells count for the same, that is some bytes
pub element_some : (t : Ty) (n : ℕ) → element_size t ≡ Some n → 0 < n
element_some (boolean b) n is = let e : 1 + null_byte b ≡ n = cc is in omega arith
element_some (primitive p b) n is = let e : ptype_bytes p + null_byte b ≡ n = cc is in subst (λ k. 0 < k) e (width_some p (null_byte b))
element_some (utf8 b) n is = absurd (cc is)
element_some (binary b) n is = absurd (cc is)
element_some (list t b) n is = absurd (cc is)
element_some (struct fs b) n is = absurd (cc is)
element_some (extension tag t) n is = element_some t n is

pub ruleset block_rules = (element_some)
