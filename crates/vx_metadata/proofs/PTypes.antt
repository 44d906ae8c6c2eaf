-- Integer types by number.
use Rattle.std.proofs.Common.{◌≡◌, ◌≢◌, ℕ, Option, Some, None, refl, sym, ap, ◌∙◌, IsTrue}
use Rattle.std.proofs.Common.{arith}
use Rattle.std.proofs.lemmas.Grind.{common_steps}
use Rattle.std.proofs.lemmas.Bool.Decides.{nat_tests}
use Rattle.vx_model.specs.declared.ptype.PType.{PType}
use Rattle.vx_model.specs.declared.ptype.PType.TheVariants.{U8, U16, U32, U64, I8, I16, I32, I64}
use Rattle.vx_model.specs.Numbers.{ptype_number}
use Rattle.vx_metadata.specs.Reading.{ptype_in}

pub ptype_again : (p : PType) → ptype_in (ptype_number p) ≡ Some p
ptype_again U8 = refl
ptype_again U16 = refl
ptype_again U32 = refl
ptype_again U64 = refl
ptype_again I8 = refl
ptype_again I16 = refl
ptype_again I32 = refl
ptype_again I64 = refl

pub ptype_is : (n : ℕ) (p : PType) → ptype_number p ≡ n → Some p ≡ ptype_in n
ptype_is n p e = sym (ptype_again p) ∙ ap ptype_in e

-- what has no type has another number than each
pub no_ptype : (n : ℕ) → ((p : PType) → ptype_number p ≢ n) → None ≡ ptype_in n
no_ptype n h = grind (common_steps, arith, nat_tests, h U8, h U16, h U32, h U64, h I8, h I16, h I32, h I64)

pub ptype_takes : (n : ℕ) (p : PType) → ptype_in n ≡ Some p → ptype_number p ≡ n
ptype_takes n p e = grind (common_steps, arith, nat_tests)

pub ruleset ptype_rules = (ptype_is, no_ptype)
