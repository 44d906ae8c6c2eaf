-- Parts of chunks, one behind the other.
use Rattle.std.proofs.Common.{◌≡◌, ℕ, ◌&&◌, true, false, List, [], ◌∷◌, ◌++◌, refl, ap, ◌∙◌, subst, append_assoc, append-nil}
use Rattle.std.specs.Prelude.{not}
use Rattle.std.proofs.lemmas.Bool.{and_from, and_parts}
use Rattle.vx_model.specs.Ty.{Ty, ty_eq}
use Rattle.vx_model.specs.CellData.{CellData}
use Rattle.vx_model.specs.ChunkData.{ChunkData, plain_piece, constant_piece, dict_piece, chunked_piece, list_piece, struct_piece, extension_piece, pieces_of, pieces_in, piece_type, cells, joined_cells, is_chunked, is_sound, are_sound, are_parts}
use Rattle.vx_chunk.specs.Conditions.{are_of_type, IsPast, IsTooLarge}
use Rattle.vx_chunk.specs.declared.error.ChunkError.{ChunkError}
use Rattle.vx_chunk.specs.declared.error.ChunkError.TheVariants.{TooLarge, OutOfMemory}
use Rattle.vx_layout_spec.specs.Parts.{parts_of, all_parts}
use Rattle.vx_chunk.proofs.Sound.{of_chunked, pieces_in-pieces_of}
use Rattle.vx_chunk.proofs.CellsFit.{of_type}
use Rattle.vx_chunk.proofs.SliceSteps.{pieces_of-pieces_in}

pub joined-append : (ps qs : List ChunkData) → joined_cells (pieces_of (ps ++ qs)) ≡ joined_cells (pieces_of ps) ++ joined_cells (pieces_of qs)
joined-append [] qs = refl
joined-append (p ∷ ps) qs = rw (joined-append ps qs, append_assoc (cells p) (joined_cells (pieces_of ps)) (joined_cells (pieces_of qs))) refl

-- the parts hold the chunk's rows
pub parts_cells : (p : ChunkData) → joined_cells (pieces_of (parts_of p)) ≡ cells p
parts_cells (chunked_piece t ps) = rw (pieces_of-pieces_in ps) refl
parts_cells (plain_piece t cs) = append-nil cs
parts_cells (constant_piece t c n) = append-nil (cells (constant_piece t c n))
parts_cells (dict_piece codes values) = append-nil (cells (dict_piece codes values))
parts_cells (list_piece t e offsets valid) = append-nil (cells (list_piece t e offsets valid))
parts_cells (struct_piece t ps valid n) = append-nil (cells (struct_piece t ps valid n))
parts_cells (extension_piece t p) = append-nil (cells p)

pub flat_cells : (ps : List ChunkData) → joined_cells (pieces_of (all_parts ps)) ≡ joined_cells (pieces_of ps)
flat_cells [] = refl
flat_cells (p ∷ ps) = joined-append (parts_of p) (all_parts ps) ∙ ap (λ (r : List CellData). r ++ joined_cells (pieces_of (all_parts ps))) (parts_cells p) ∙ ap (λ (r : List CellData). cells p ++ r) (flat_cells ps)

-- a chunk that isn't chunked is its own part
alone : (t : Ty) (p : ChunkData) → ty_eq (piece_type p) t ≡ true → is_chunked p ≡ false → are_parts t (p ∷ []) ≡ true
alone t p h n = and_from (ty_eq (piece_type p) t && not (is_chunked p)) true (and_from (ty_eq (piece_type p) t) (not (is_chunked p)) h (ap not n)) refl

-- the parts of a sound chunk of the type
pub parts_typed : (t : Ty) (p : ChunkData) → is_sound p ≡ true → ty_eq (piece_type p) t ≡ true → are_parts t (parts_of p) ≡ true
parts_typed t (chunked_piece u ps) s h = subst (λ v. are_parts v (pieces_in ps) ≡ true) (of_type u t h) (of_chunked u ps s).parts
parts_typed t (plain_piece u cs) s h = alone t (plain_piece u cs) h refl
parts_typed t (constant_piece u c n) s h = alone t (constant_piece u c n) h refl
parts_typed t (dict_piece codes values) s h = alone t (dict_piece codes values) h refl
parts_typed t (list_piece u e offsets valid) s h = alone t (list_piece u e offsets valid) h refl
parts_typed t (struct_piece u ps valid n) s h = alone t (struct_piece u ps valid n) h refl
parts_typed t (extension_piece u p) s h = alone t (extension_piece u p) h refl

pub are_parts-append : (t : Ty) (ps qs : List ChunkData) → are_parts t ps ≡ true → are_parts t qs ≡ true → are_parts t (ps ++ qs) ≡ true
are_parts-append t [] qs h k = k
are_parts-append t (p ∷ ps) qs h k =
    and_from (ty_eq (piece_type p) t && not (is_chunked p)) _ (and_parts (ty_eq (piece_type p) t && not (is_chunked p)) _ h).0
    (are_parts-append t ps qs (and_parts (ty_eq (piece_type p) t && not (is_chunked p)) _ h).1 k)

-- the parts of sound chunks of the type
pub flat_typed : (t : Ty) (ps : List ChunkData) → are_of_type t ps ≡ true → are_sound (pieces_of ps) ≡ true → are_parts t (all_parts ps) ≡ true
flat_typed t [] h s = refl
flat_typed t (p ∷ ps) h s =
    are_parts-append t (parts_of p) (all_parts ps)
    (parts_typed t p (and_parts (is_sound p) (are_sound (pieces_of ps)) s).0 (and_parts (ty_eq (piece_type p) t) (are_of_type t ps) h).0)
    (flat_typed t ps (and_parts (ty_eq (piece_type p) t) (are_of_type t ps) h).1 (and_parts (is_sound p) (are_sound (pieces_of ps)) s).1)

pub past_is_too_large : (n : ℕ) (e : ChunkError) → IsPast n e → IsTooLarge n e
past_is_too_large n (TooLarge m) h = h
past_is_too_large n OutOfMemory h = tt

pub ruleset flat_rules = (append_assoc, append-nil, pieces_in-pieces_of)
