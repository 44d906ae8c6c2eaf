-- What a type, a cell and a value are seen as, a variant at a time.
use Rattle.std.proofs.Common.{◌≡◌, ℕ, suc, ◌+◌, ◌<◌, ◌&&◌, Bool, true, false, List, [], ◌∷◌, length, get_or, drop, map, refl, ap, rules, Box}
use Rattle.std.proofs.lemmas.List.{drop_more, map_push, map_more, length-map}
use Rattle.std.specs.Prelude.{bytes_eq}
use Rattle.std.specs.Global.{Global}
use Rattle.vx_model.specs.declared.ptype.Nullability.{Nullability}
use Rattle.vx_model.specs.declared.dtype.DType.{DType}
use Rattle.vx_model.specs.declared.dtype.DType as dt
use Rattle.vx_model.specs.declared.dtype.StructField.{StructField}
use Rattle.vx_model.specs.declared.dtype.StructFields.{StructFields, out-StructFields}
use Rattle.vx_model.specs.declared.dtype.ExtDType.{ExtDType, out-ExtDType}
use Rattle.vx_model.specs.Numbers.{is_nullable}
use Rattle.vx_model.specs.Ty.{list, struct, extension, Named, tys_of, ty_eq, tys_eq}
use Rattle.vx_model.specs.TyView.{ty, field_ty}

pub ty_list : (b : Box DType Global) (n : Nullability) → ty (dt.List b n) ≡ list (ty b.value) (is_nullable n)
ty_list b n = search (rules, dt.the_lemmas)

pub ty_struct : (fs : StructFields) (n : Nullability) → ty (dt.Struct fs n) ≡ struct (tys_of (map field_ty (out-StructFields fs).fields.items)) (is_nullable n)
ty_struct fs n = search (rules, dt.the_lemmas)

pub field_ty_is : (f : StructField) → field_ty f ≡ (f.name, ty f.dtype)
field_ty_is f = search (rules, dt.the_lemmas)

pub ty_extension : (e : ExtDType) → ty (dt.Extension e) ≡ extension (out-ExtDType e).tag (ty (out-ExtDType e).storage.value)
ty_extension e = search (rules, dt.the_lemmas)

pub and_false : (a : Bool) → (a && false) ≡ false
and_false true = refl
and_false false = refl

-- fields from place i on, at one more step
pub drop_fields : (xs ys : List StructField) (i : ℕ) (a b : StructField) → i < length xs → i < length ys → a ≡ get_or xs i a → b ≡ get_or ys i b
    → tys_eq (tys_of (map field_ty (drop i xs))) (tys_of (map field_ty (drop i ys))) ≡ ((bytes_eq a.name b.name && ty_eq (ty a.dtype) (ty b.dtype)) && tys_eq (tys_of (map field_ty (drop (i + 1) xs))) (tys_of (map field_ty (drop (i + 1) ys))))
drop_fields xs ys i a b lt more a-is b-is = rw (drop_more xs i a lt, ← a-is, drop_more ys i b more, ← b-is, field_ty_is a, field_ty_is b) refl

-- lists of other lengths differ
pub other_lengths : (xs ys : List Named) → (length xs ≡ length ys → ⊥) → tys_eq (tys_of xs) (tys_of ys) ≡ false
other_lengths [] [] h = absurd (h refl)
other_lengths [] (b ∷ ys) h = refl
other_lengths (a ∷ xs) [] h = refl
other_lengths (a ∷ xs) (b ∷ ys) h = rw (other_lengths xs ys (λ e. h (ap suc e))) (and_false (bytes_eq a.0 b.0 && ty_eq a.1 b.1))

pub ruleset view_rules = (ty_list, ty_struct, ty_extension, field_ty_is)

pub ruleset copy_rules = (map_push, map_more, view_rules)

pub ruleset same_rules = (drop_fields, other_lengths, length-map, view_rules)
