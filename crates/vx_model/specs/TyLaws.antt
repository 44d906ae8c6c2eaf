-- `ty_eq` says whether two types are the same.
use Rattle.std.specs.Prelude.{◌≡◌, ℕ, zero, suc, ◌&&◌, ◌==◌, Bool, true, false, List, refl, bytes_eq, Decides}
use Rattle.std.proofs.Common.{ap, sym, ◌∙◌, eqb-true, eq-eqb}
use Rattle.std.specs.Cmp.Lexicographic.{bytes_decides}
use Rattle.std.specs.Cmp.{booleans_Decides}
use mathlib.Core.Bool.{beq}
use Rattle.vx_model.specs.declared.ptype.PType.{PType}
use Rattle.vx_model.specs.declared.ptype.PType.TheVariants.{U8, U16, U32, U64, I8, I16, I32, I64}
use Rattle.vx_model.specs.Numbers.{ptype_number}
use Rattle.vx_model.specs.Ty.{Ty, Tys, boolean, primitive, utf8, binary, list, struct, extension, no_fields, field, ty_eq, tys_eq}

first_true : (a b : Bool) → (a && b) ≡ true → a ≡ true
first_true true b e = refl
first_true false b e = e

second_true : (a b : Bool) → (a && b) ≡ true → b ≡ true
second_true true b e = e
second_true false b e = cc

both_true : (a b : Bool) → a ≡ true → b ≡ true → (a && b) ≡ true
both_true a b e f = cc

of_number : ℕ → PType
of_number zero = U8
of_number (suc zero) = U16
of_number (suc (suc zero)) = U32
of_number (suc (suc (suc zero))) = U64
of_number (suc (suc (suc (suc zero)))) = I8
of_number (suc (suc (suc (suc (suc zero))))) = I16
of_number (suc (suc (suc (suc (suc (suc zero)))))) = I32
of_number (suc (suc (suc (suc (suc (suc (suc n))))))) = I64

of_number_is : (p : PType) → of_number (ptype_number p) ≡ p
unfolding of_number
of_number_is U8 = refl
of_number_is U16 = refl
of_number_is U32 = refl
of_number_is U64 = refl
of_number_is I8 = refl
of_number_is I16 = refl
of_number_is I32 = refl
of_number_is I64 = refl

ptype_eq_true : (p q : PType) → (ptype_number p == ptype_number q) ≡ true → p ≡ q
ptype_eq_true p q e = sym (of_number_is p) ∙ ap of_number (eqb-true (ptype_number p) (ptype_number q) e) ∙ of_number_is q

flags_same : (m n : Bool) → beq m n ≡ true → m ≡ n
flags_same m n e = (booleans_Decides m n).0 e

texts_same : (a b : List ℕ) → bytes_eq a b ≡ true → a ≡ b
texts_same a b e = (bytes_decides a b).0 e

mutual
  ty_eq_true : (s t : Ty) → ty_eq s t ≡ true → s ≡ t
  ty_eq_true (boolean m) (boolean n) e = ap boolean (flags_same m n e)
  ty_eq_true (primitive p m) (primitive q n) e =
      let numbers = first_true (ptype_number p == ptype_number q) (beq m n) e in
      let flags = second_true (ptype_number p == ptype_number q) (beq m n) e in
      ap (λ (r : PType). primitive r m) (ptype_eq_true p q numbers) ∙ ap (primitive q) (flags_same m n flags)
  ty_eq_true (utf8 m) (utf8 n) e = ap utf8 (flags_same m n e)
  ty_eq_true (binary m) (binary n) e = ap binary (flags_same m n e)
  ty_eq_true (list s m) (list t n) e =
      ap (λ (r : Ty). list r m) (ty_eq_true s t (first_true (ty_eq s t) (beq m n) e)) ∙ ap (list t) (flags_same m n (second_true (ty_eq s t) (beq m n) e))
  ty_eq_true (struct fs m) (struct gs n) e =
      ap (λ (r : Tys). struct r m) (tys_eq_true fs gs (first_true (tys_eq fs gs) (beq m n) e)) ∙ ap (struct gs) (flags_same m n (second_true (tys_eq fs gs) (beq m n) e))
  ty_eq_true (extension a s) (extension b t) e =
      ap (λ (r : List ℕ). extension r s) (texts_same a b (first_true (bytes_eq a b) (ty_eq s t) e)) ∙ ap (extension b) (ty_eq_true s t (second_true (bytes_eq a b) (ty_eq s t) e))
  ty_eq_true s t e = cc

  tys_eq_true : (fs gs : Tys) → tys_eq fs gs ≡ true → fs ≡ gs
  tys_eq_true no_fields no_fields e = refl
  tys_eq_true (field a s fs) (field b t gs) e =
      let firsts = first_true (bytes_eq a b && ty_eq s t) (tys_eq fs gs) e in
      let others = second_true (bytes_eq a b && ty_eq s t) (tys_eq fs gs) e in
      ap (λ (r : List ℕ). field r s fs) (texts_same a b (first_true (bytes_eq a b) (ty_eq s t) firsts)) ∙ (ap (λ (r : Ty). field b r fs) (ty_eq_true s t (second_true (bytes_eq a b) (ty_eq s t) firsts)) ∙ ap (field b t) (tys_eq_true fs gs others))
  tys_eq_true fs gs e = cc

flag_same : (m : Bool) → beq m m ≡ true
flag_same m = (booleans_Decides m m).1 refl

mutual
  ty_eq_same : (t : Ty) → ty_eq t t ≡ true
  ty_eq_same (boolean n) = flag_same n
  ty_eq_same (primitive p n) = both_true (ptype_number p == ptype_number p) (beq n n) (eq-eqb (ptype_number p) (ptype_number p) refl) (flag_same n)
  ty_eq_same (utf8 n) = flag_same n
  ty_eq_same (binary n) = flag_same n
  ty_eq_same (list t n) = both_true (ty_eq t t) (beq n n) (ty_eq_same t) (flag_same n)
  ty_eq_same (struct fs n) = both_true (tys_eq fs fs) (beq n n) (tys_eq_same fs) (flag_same n)
  ty_eq_same (extension a t) = both_true (bytes_eq a a) (ty_eq t t) ((bytes_decides a a).1 refl) (ty_eq_same t)

  tys_eq_same : (fs : Tys) → tys_eq fs fs ≡ true
  tys_eq_same no_fields = refl
  tys_eq_same (field a t fs) = both_true (bytes_eq a a && ty_eq t t) (tys_eq fs fs) (both_true (bytes_eq a a) (ty_eq t t) ((bytes_decides a a).1 refl) (ty_eq_same t)) (tys_eq_same fs)

pub ty_eq_decides : (s t : Ty) → Decides (ty_eq s t) (s ≡ t)
ty_eq_decides s t = (ty_eq_true s t, λ e. ap (ty_eq s) (sym e) ∙ ty_eq_same s)
