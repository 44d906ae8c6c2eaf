-- Metadata of a dictionary and of a list: what is read has these bytes, and what has these bytes is read.
use Rattle.std.proofs.Common.{◌≡◌, ℕ, zero, suc, Bool, true, false, List, [], ◌∷◌, Some, refl, sym, ap, subst}
use Rattle.vx_model.specs.CellData.{bit}
use Rattle.vx_byte_reader.specs.Fields.{◌>>=◌}
use Rattle.vx_byte_reader.proofs.FieldLaws.{bind_some, some_is}
use Rattle.vx_metadata.specs.declared.dict.DictLayoutMetadata.{DictLayoutMetadata}
use Rattle.vx_metadata.specs.declared.list.ListLayoutMetadata.{ListLayoutMetadata}
use Rattle.vx_metadata.specs.Spelled.{dict_bytes, list_bytes}
use Rattle.vx_metadata.specs.Reading.{ptype_in, flag_in, dict_in, list_in}
use Rattle.vx_metadata.proofs.PTypes.{ptype_again, ptype_takes}

flag_takes : (n : ℕ) (b : Bool) → flag_in n ≡ Some b → bit b ≡ n
flag_takes zero b e = ap bit (sym (some_is false b e))
flag_takes (suc zero) b e = ap bit (sym (some_is true b e))
flag_takes (suc (suc n)) b e = absurd cc

flag_again : (b : Bool) → flag_in (bit b) ≡ Some b
flag_again true = refl
flag_again false = refl

pub dict_takes : (bytes : List ℕ) (m : DictLayoutMetadata) → dict_in bytes ≡ Some m → dict_bytes m ≡ bytes
dict_takes [] m e = absurd cc
dict_takes (p ∷ []) m e = absurd cc
dict_takes (p ∷ n ∷ []) m e = absurd cc
dict_takes (p ∷ n ∷ a ∷ []) m e =
    let x = bind_some (ptype_in p) (λ ptype. flag_in n >>= λ nullable. flag_in a >>= λ all. Some (record { codes_ptype = ptype; is_nullable_codes = nullable; all_values_referenced = all })) m e in
    let y = bind_some (flag_in n) (λ nullable. flag_in a >>= λ all. Some (record { codes_ptype = x.0; is_nullable_codes = nullable; all_values_referenced = all })) m x.2 in
    let z = bind_some (flag_in a) (λ all. Some (record { codes_ptype = x.0; is_nullable_codes = y.0; all_values_referenced = all })) m y.2 in
    let made : DictLayoutMetadata = record { codes_ptype = x.0; is_nullable_codes = y.0; all_values_referenced = z.0 } in
    subst (λ (v : DictLayoutMetadata). dict_bytes v ≡ p ∷ n ∷ a ∷ []) (some_is made m z.2) (rw (ptype_takes p x.0 x.1, flag_takes n y.0 y.1, flag_takes a z.0 z.1) refl)
dict_takes (p ∷ n ∷ a ∷ b ∷ bytes) m e = absurd cc

pub dict_again : (m : DictLayoutMetadata) → dict_in (dict_bytes m) ≡ Some m
dict_again m = rw (ptype_again m.codes_ptype, flag_again m.is_nullable_codes, flag_again m.all_values_referenced) refl

pub list_takes : (bytes : List ℕ) (m : ListLayoutMetadata) → list_in bytes ≡ Some m → list_bytes m ≡ bytes
list_takes [] m e = absurd cc
list_takes (p ∷ []) m e =
    let x = bind_some (ptype_in p) (λ ptype. Some (record { offsets_ptype = ptype })) m e in
    let made : ListLayoutMetadata = record { offsets_ptype = x.0 } in
    subst (λ (v : ListLayoutMetadata). list_bytes v ≡ p ∷ []) (some_is made m x.2) (ap (λ (n : ℕ). n ∷ []) (ptype_takes p x.0 x.1))
list_takes (p ∷ b ∷ bytes) m e = absurd cc

pub list_again : (m : ListLayoutMetadata) → list_in (list_bytes m) ≡ Some m
list_again m = rw (ptype_again m.offsets_ptype) refl
