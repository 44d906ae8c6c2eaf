-- Types, flags and numbers as trees of numbers, one to one.
use Rattle.std.specs.Prelude.{◌≡◌, ℕ, zero, suc, Bool, true, false, List, [], ◌∷◌, refl}
use base.Stored.{Gv, gnil, gnum, gcons}
use Rattle.vx_model.specs.declared.ptype.PType.{PType}
use Rattle.vx_model.specs.declared.ptype.PType.TheVariants.{U8, U16, U32, U64, I8, I16, I32, I64}
use Rattle.vx_model.specs.Ty.{Ty, Tys, boolean, primitive, utf8, binary, list, struct, extension, no_fields, field}

-- ---- parts

abbrev pub flag : Bool → Gv
flag true = gnum 1
flag false = gnum 0

abbrev pub flag_of : Gv → Bool
flag_of (gnum (suc n)) = true
flag_of g = false

pub flag_back : (b : Bool) → flag_of (flag b) ≡ b
flag_back true = refl
flag_back false = refl

abbrev pub number_of : Gv → ℕ
number_of (gnum n) = n
number_of g = 0

abbrev pub numbers : List ℕ → Gv
numbers [] = gnil
numbers (n ∷ ns) = gcons (gnum n) (numbers ns)

abbrev pub numbers_of : Gv → List ℕ
numbers_of (gcons a b) = number_of a ∷ numbers_of b
numbers_of g = []

pub numbers_back : (ns : List ℕ) → numbers_of (numbers ns) ≡ ns
numbers_back [] = refl
numbers_back (n ∷ ns) = cc (numbers_back ns)

abbrev pub flags : List Bool → Gv
flags [] = gnil
flags (b ∷ bs) = gcons (flag b) (flags bs)

abbrev pub flags_of : Gv → List Bool
flags_of (gcons a b) = flag_of a ∷ flags_of b
flags_of g = []

pub flags_back : (bs : List Bool) → flags_of (flags bs) ≡ bs
flags_back [] = refl
flags_back (b ∷ bs) = cc (flag_back b, flags_back bs)

abbrev pub ptype : PType → ℕ
ptype U8 = 0
ptype U16 = 1
ptype U32 = 2
ptype U64 = 3
ptype I8 = 4
ptype I16 = 5
ptype I32 = 6
ptype I64 = 7

abbrev pub ptype_of : Gv → PType
ptype_of (gnum zero) = U8
ptype_of (gnum (suc zero)) = U16
ptype_of (gnum (suc (suc zero))) = U32
ptype_of (gnum (suc (suc (suc zero)))) = U64
ptype_of (gnum (suc (suc (suc (suc zero))))) = I8
ptype_of (gnum (suc (suc (suc (suc (suc zero)))))) = I16
ptype_of (gnum (suc (suc (suc (suc (suc (suc zero))))))) = I32
ptype_of g = I64

pub ptype_back : (p : PType) → ptype_of (gnum (ptype p)) ≡ p
ptype_back U8 = refl
ptype_back U16 = refl
ptype_back U32 = refl
ptype_back U64 = refl
ptype_back I8 = refl
ptype_back I16 = refl
ptype_back I32 = refl
ptype_back I64 = refl

-- ---- types

abbrev mutual
  pub ty_code : Ty → Gv
  ty_code (boolean n) = gcons (gnum 0) (flag n)
  ty_code (primitive p n) = gcons (gnum 1) (gcons (gnum (ptype p)) (flag n))
  ty_code (utf8 n) = gcons (gnum 2) (flag n)
  ty_code (binary n) = gcons (gnum 3) (flag n)
  ty_code (list t n) = gcons (gnum 4) (gcons (ty_code t) (flag n))
  ty_code (struct fs n) = gcons (gnum 5) (gcons (tys_code fs) (flag n))
  ty_code (extension tag t) = gcons (gnum 6) (gcons (numbers tag) (ty_code t))

  pub tys_code : Tys → Gv
  tys_code no_fields = gnil
  tys_code (field name t fs) = gcons (numbers name) (gcons (ty_code t) (tys_code fs))

abbrev mutual
  pub ty_of : Gv → Ty
  ty_of (gcons (gnum zero) n) = boolean (flag_of n)
  ty_of (gcons (gnum (suc zero)) (gcons p n)) = primitive (ptype_of p) (flag_of n)
  ty_of (gcons (gnum (suc (suc zero))) n) = utf8 (flag_of n)
  ty_of (gcons (gnum (suc (suc (suc zero)))) n) = binary (flag_of n)
  ty_of (gcons (gnum (suc (suc (suc (suc zero))))) (gcons t n)) = list (ty_of t) (flag_of n)
  ty_of (gcons (gnum (suc (suc (suc (suc (suc zero)))))) (gcons fs n)) = struct (tys_of_code fs) (flag_of n)
  ty_of (gcons (gnum (suc (suc (suc (suc (suc (suc k))))))) (gcons tag t)) = extension (numbers_of tag) (ty_of t)
  ty_of g = boolean false

  pub tys_of_code : Gv → Tys
  tys_of_code (gcons name (gcons t fs)) = field (numbers_of name) (ty_of t) (tys_of_code fs)
  tys_of_code g = no_fields

mutual
  pub ty_back : (t : Ty) → ty_of (ty_code t) ≡ t
  ty_back (boolean n) = cc (flag_back n)
  ty_back (primitive p n) = cc (ptype_back p, flag_back n)
  ty_back (utf8 n) = cc (flag_back n)
  ty_back (binary n) = cc (flag_back n)
  ty_back (list t n) = cc (ty_back t, flag_back n)
  ty_back (struct fs n) = cc (tys_back fs, flag_back n)
  ty_back (extension tag t) = cc (numbers_back tag, ty_back t)

  pub tys_back : (fs : Tys) → tys_of_code (tys_code fs) ≡ fs
  tys_back no_fields = refl
  tys_back (field name t fs) = cc (numbers_back name, ty_back t, tys_back fs)
