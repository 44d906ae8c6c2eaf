-- Steps of the texts of types.
use Rattle.std.proofs.Common.{◌≡◌, ℕ, ◌+◌, ◌<◌, ◌==◌, Bool, false, List, ◌++◌, length, get_or, drop, map, refl, append_assoc, arith}
use Rattle.std.proofs.lemmas.List.{drop_more, append-nil}
use Rattle.std.proofs.lemmas.Bool.Decides.{nat_tests}
use Rattle.std.specs.Prelude.{codes}
use Rattle.vx_model.specs.declared.dtype.StructField.{StructField}
use Rattle.vx_model.specs.Ty.{tys_of}
use Rattle.vx_model.specs.TyView.{ty, field_ty}
use Rattle.vx_model.specs.Shown.{comma, type_text, fields_text}
use Rattle.vx_model.proofs.Views.{view_rules, field_ty_is}

pub drop_fields_text : (first : Bool) (fs : List StructField) (i : ℕ) (f : StructField) → i < length fs → f ≡ get_or fs i f
    → fields_text first (tys_of (map field_ty (drop i fs))) ≡ comma first ++ (f.name ++ (codes "=" ++ (type_text (ty f.dtype) ++ fields_text false (tys_of (map field_ty (drop (i + 1) fs))))))
drop_fields_text first fs i f lt is = rw (drop_more fs i f lt, ← is, field_ty_is f) refl

pub next_not_first : (i : ℕ) → (i + 1 == 0) ≡ false
next_not_first i = grind (arith, nat_tests)

regroup : (done a b c d e : List ℕ) → ((done ++ (a ++ (b ++ c))) ++ d) ++ e ≡ done ++ (a ++ (b ++ (c ++ (d ++ e))))
regroup done a b c d e = simp append_assoc

-- one more field behind what was written
pub field_written : (first : Bool) (fs : List StructField) (i : ℕ) (f : StructField) (done all : List ℕ) → i < length fs → f ≡ get_or fs i f
    → done ++ fields_text first (tys_of (map field_ty (drop i fs))) ≡ all
    → ((done ++ (comma first ++ (f.name ++ codes "="))) ++ type_text (ty f.dtype)) ++ fields_text (i + 1 == 0) (tys_of (map field_ty (drop (i + 1) fs))) ≡ all
field_written first fs i f done all lt is so_far =
    rw (next_not_first i, regroup done (comma first) f.name (codes "=") (type_text (ty f.dtype)) (fields_text false (tys_of (map field_ty (drop (i + 1) fs)))), ← drop_fields_text first fs i f lt is) so_far

pub ruleset type_rules = (append_assoc, append-nil, drop_fields_text, next_not_first, view_rules)
