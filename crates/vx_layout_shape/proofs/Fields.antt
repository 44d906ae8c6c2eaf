-- The fields of a type, as its calls tell them.
use Rattle.std.proofs.Common.{◌≡◌, List, [], ◌∷◌, refl, sym, ap, ◌∙◌, Some, None}
use Rattle.std.proofs.lemmas.List.{length-map}
use Rattle.vx_model.specs.Ty.{Ty, Named, boolean, primitive, utf8, binary, list, struct, extension, tys_of, fields_in, struct_tys}
use Rattle.vx_model.proofs.Views.{view_rules}
use Rattle.vx_layout_shape.specs.Shape.{fields_of}

pub fields_back : (fs : List Named) → fields_in (tys_of fs) ≡ fs
fields_back [] = refl
fields_back (f ∷ fs) = ap (λ r. f ∷ r) (fields_back fs)

pub ruleset field_rules = (view_rules, fields_back, length-map)

pub fields_told : (t : Ty) (fs : List Named) → Some (tys_of fs) ≡ struct_tys t → fs ≡ fields_of t
fields_told (struct gs n) fs e = sym (fields_back fs) ∙ ap fields_in (cc e)
fields_told (boolean n) fs e = absurd (cc e)
fields_told (primitive p n) fs e = absurd (cc e)
fields_told (utf8 n) fs e = absurd (cc e)
fields_told (binary n) fs e = absurd (cc e)
fields_told (list t n) fs e = absurd (cc e)
fields_told (extension tag t) fs e = absurd (cc e)

pub no_fields_told : (t : Ty) → None ≡ struct_tys t → [] ≡ fields_of t
no_fields_told (struct gs n) e = absurd (cc e)
no_fields_told (boolean n) e = refl
no_fields_told (primitive p n) e = refl
no_fields_told (utf8 n) e = refl
no_fields_told (binary n) e = refl
no_fields_told (list t n) e = refl
no_fields_told (extension tag t) e = refl

pub ruleset told_rules = (fields_told, no_fields_told)
