-- Parts and fields, one by one.
use Rattle.std.proofs.Common.{◌≡◌, ℕ, suc, ◌+◌, ◌<◌, ◌&&◌, Bool, true, false, List, [], ◌∷◌, length, get_or, drop, map, refl, ap}
use Rattle.std.specs.Prelude.{not, ◌==◌}
use Rattle.std.proofs.lemmas.List.{drop_more, length-map}
use Rattle.vx_model.specs.declared.dtype.StructField.{StructField}
use Rattle.vx_model.specs.Ty.{Ty, Named, tys_of, ty_eq}
use Rattle.vx_model.specs.TyView.{ty, field_ty}
use Rattle.vx_model.specs.ChunkData.{ChunkData, piece_type, cells, is_chunked, are_parts, match_fields}
use Rattle.vx_model.proofs.Views.{view_rules, field_ty_is}
use Rattle.vx_chunk.specs.Conditions.{are_of_type}

pub drop_parts : (t : Ty) (ps : List ChunkData) (i : ℕ) (p : ChunkData) → i < length ps → p ≡ get_or ps i p
    → are_parts t (drop i ps) ≡ ((ty_eq (piece_type p) t && not (is_chunked p)) && are_parts t (drop (i + 1) ps))
drop_parts t ps i p lt is = rw (drop_more ps i p lt, ← is) refl

pub drop_of_type : (t : Ty) (ps : List ChunkData) (i : ℕ) (p : ChunkData) → i < length ps → p ≡ get_or ps i p
    → are_of_type t (drop i ps) ≡ (ty_eq (piece_type p) t && are_of_type t (drop (i + 1) ps))
drop_of_type t ps i p lt is = rw (drop_more ps i p lt, ← is) refl

pub drop_fields : (fs : List StructField) (ps : List ChunkData) (i n : ℕ) (f : StructField) (p : ChunkData) → i < length fs → i < length ps → f ≡ get_or fs i f → p ≡ get_or ps i p
    → match_fields (tys_of (map field_ty (drop i fs))) (drop i ps) n ≡ (ty_eq (piece_type p) (ty f.dtype) && ((length (cells p) == n) && match_fields (tys_of (map field_ty (drop (i + 1) fs))) (drop (i + 1) ps) n))
drop_fields fs ps i n f p lt more f-is p-is = rw (drop_more fs i f lt, ← f-is, drop_more ps i p more, ← p-is, field_ty_is f) refl

and_false : (a : Bool) → (a && false) ≡ false
and_false true = refl
and_false false = refl

-- more or fewer chunks than fields don't match
pub other_count : (fs : List Named) (ps : List ChunkData) (n : ℕ) → (length fs ≡ length ps → ⊥) → match_fields (tys_of fs) ps n ≡ false
other_count [] [] n h = absurd (h refl)
other_count [] (p ∷ ps) n h = refl
other_count (f ∷ fs) [] n h = refl
other_count (f ∷ fs) (p ∷ ps) n h = rw (other_count fs ps n (λ e. h (ap suc e)), and_false (length (cells p) == n), and_false (ty_eq (piece_type p) f.1)) refl

pub ruleset part_rules = (drop_parts, drop_of_type)

pub ruleset field_rules = (drop_fields, other_count, length-map, view_rules)
