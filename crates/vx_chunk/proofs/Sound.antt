-- What soundness says of each encoding.
use Rattle.std.proofs.Common.{◌≡◌, ℕ, ◌-◌, ◌<◌, ◌≤◌, ◌^◌, ◌&&◌, nat_lt, Bool, true, List, [], ◌∷◌, length, refl, arith}
use Rattle.std.proofs.lemmas.Bool.{and_from, and_parts}
use Rattle.vx_model.specs.Words.{all_by}
use Rattle.vx_model.specs.Ty.{Ty}
use Rattle.vx_model.specs.CellData.{CellData, fits}
use Rattle.vx_model.specs.ChunkData.{ChunkData, ChunkList, plain_piece, constant_piece, dict_piece, chunked_piece, list_piece, struct_piece, extension_piece, pieces_of, pieces_in, piece_type, cells, joined_cells, is_sound, are_sound, is_simple, is_code_type, is_dict_type, is_code, are_parts, has_elements, are_offsets, are_flags, has_fields, has_storage}
use Rattle.vx_chunk_cells.proofs.Tests.{below, below_test}
use Rattle.vx_chunk.specs.Conditions.{makes_dict, makes_list, makes_struct}

pub record SoundPlain (t : Ty) (cs : List CellData) : Type 0 where
  pub fit : all_by (fits t) cs ≡ true
  pub short : length cs < 2 ^ 64

pub of_plain : (t : Ty) (cs : List CellData) → is_sound (plain_piece t cs) ≡ true → SoundPlain t cs
of_plain t cs s = record {
  fit = (and_parts (all_by (fits t) cs) _ s).0;
  short = below (length cs) (and_parts (all_by (fits t) cs) _ s).1;
}

pub record SoundConstant (t : Ty) (c : CellData) (n : ℕ) : Type 0 where
  pub fit : fits t c ≡ true
  pub short : n < 2 ^ 64

pub of_constant : (t : Ty) (c : CellData) (n : ℕ) → is_sound (constant_piece t c n) ≡ true → SoundConstant t c n
of_constant t c n s = record { fit = (and_parts (fits t c) _ s).0; short = below n (and_parts (fits t c) _ s).1 }

pub record SoundDict (codes values : ChunkData) : Type 0 where
  pub codes_sound : is_sound codes ≡ true
  pub values_sound : is_sound values ≡ true
  pub makes : makes_dict codes values ≡ true
  pub codes_simple : is_simple codes ≡ true
  pub values_simple : is_simple values ≡ true
  pub code_type : is_code_type (piece_type codes) ≡ true
  pub dict_type : is_dict_type (piece_type values) ≡ true
  pub places : all_by (is_code (length (cells values))) (cells codes) ≡ true

pub of_dict : (codes values : ChunkData) → is_sound (dict_piece codes values) ≡ true → SoundDict codes values
of_dict codes values s =
    let sound : (is_sound codes && is_sound values) ≡ true = (and_parts (is_sound codes && is_sound values) _ s).0 in
    let makes : makes_dict codes values ≡ true = (and_parts (is_sound codes && is_sound values) _ s).1 in
    let simple : (is_simple codes && is_simple values) ≡ true = (and_parts (is_simple codes && is_simple values) _ makes).0 in
    let rest : _ ≡ true = (and_parts (is_simple codes && is_simple values) _ makes).1 in
    let types : (is_code_type (piece_type codes) && is_dict_type (piece_type values)) ≡ true = (and_parts (is_code_type (piece_type codes) && is_dict_type (piece_type values)) _ rest).0 in
    record {
      codes_sound = (and_parts (is_sound codes) _ sound).0;
      values_sound = (and_parts (is_sound codes) _ sound).1;
      makes = makes;
      codes_simple = (and_parts (is_simple codes) _ simple).0;
      values_simple = (and_parts (is_simple codes) _ simple).1;
      code_type = (and_parts (is_code_type (piece_type codes)) _ types).0;
      dict_type = (and_parts (is_code_type (piece_type codes)) _ types).1;
      places = (and_parts (is_code_type (piece_type codes) && is_dict_type (piece_type values)) _ rest).1;
    }

pub record SoundChunked (t : Ty) (ps : ChunkList) : Type 0 where
  pub parts_sound : are_sound ps ≡ true
  pub parts : are_parts t (pieces_in ps) ≡ true
  pub short : length (joined_cells ps) < 2 ^ 64

pub of_chunked : (t : Ty) (ps : ChunkList) → is_sound (chunked_piece t ps) ≡ true → SoundChunked t ps
of_chunked t ps s =
    let rest : _ ≡ true = (and_parts (are_sound ps) _ s).1 in
    record {
      parts_sound = (and_parts (are_sound ps) _ s).0;
      parts = (and_parts (are_parts t (pieces_in ps)) _ rest).0;
      short = below (length (joined_cells ps)) (and_parts (are_parts t (pieces_in ps)) _ rest).1;
    }

pub record SoundList (t : Ty) (e : ChunkData) (offsets : List ℕ) (valid : List Bool) : Type 0 where
  pub elements_sound : is_sound e ≡ true
  pub elements : has_elements t (piece_type e) ≡ true
  pub ascend : are_offsets (length (cells e)) offsets ≡ true
  pub short : length offsets < 2 ^ 64
  pub flags : are_flags t (length offsets - 1) valid ≡ true
  pub some : 1 ≤ length offsets

some_offsets : (n : ℕ) (offsets : List ℕ) → are_offsets n offsets ≡ true → 1 ≤ length offsets
some_offsets n [] h = cc
some_offsets n (a ∷ offsets) h = omega arith

pub of_list : (t : Ty) (e : ChunkData) (offsets : List ℕ) (valid : List Bool) → is_sound (list_piece t e offsets valid) ≡ true → SoundList t e offsets valid
of_list t e offsets valid s =
    let a : _ ≡ true = (and_parts (is_sound e) _ s).1 in
    let b : _ ≡ true = (and_parts (has_elements t (piece_type e)) _ a).1 in
    let c : _ ≡ true = (and_parts (are_offsets (length (cells e)) offsets) _ b).1 in
    let ascend : are_offsets (length (cells e)) offsets ≡ true = (and_parts (are_offsets (length (cells e)) offsets) _ b).0 in
    record {
      elements_sound = (and_parts (is_sound e) _ s).0;
      elements = (and_parts (has_elements t (piece_type e)) _ a).0;
      ascend = ascend;
      short = below (length offsets) (and_parts (nat_lt (length offsets) (2 ^ 64)) _ c).0;
      flags = (and_parts (nat_lt (length offsets) (2 ^ 64)) _ c).1;
      some = some_offsets (length (cells e)) offsets ascend;
    }

pub record SoundStruct (t : Ty) (ps : ChunkList) (valid : List Bool) (n : ℕ) : Type 0 where
  pub fields_sound : are_sound ps ≡ true
  pub fields : has_fields t (pieces_in ps) n ≡ true
  pub short : n < 2 ^ 64
  pub flags : are_flags t n valid ≡ true

pub of_struct : (t : Ty) (ps : ChunkList) (valid : List Bool) (n : ℕ) → is_sound (struct_piece t ps valid n) ≡ true → SoundStruct t ps valid n
of_struct t ps valid n s =
    let a : _ ≡ true = (and_parts (are_sound ps) _ s).1 in
    let b : _ ≡ true = (and_parts (has_fields t (pieces_in ps) n) _ a).1 in
    record {
      fields_sound = (and_parts (are_sound ps) _ s).0;
      fields = (and_parts (has_fields t (pieces_in ps) n) _ a).0;
      short = below n (and_parts (nat_lt n (2 ^ 64)) _ b).0;
      flags = (and_parts (nat_lt n (2 ^ 64)) _ b).1;
    }

pub record SoundExtension (t : Ty) (p : ChunkData) : Type 0 where
  pub storage_sound : is_sound p ≡ true
  pub storage : has_storage t (piece_type p) ≡ true

pub of_extension : (t : Ty) (p : ChunkData) → is_sound (extension_piece t p) ≡ true → SoundExtension t p
of_extension t p s = record { storage_sound = (and_parts (is_sound p) _ s).0; storage = (and_parts (is_sound p) _ s).1 }

-- ---- and what makes each sound

pub pieces_in-pieces_of : (ps : List ChunkData) → pieces_in (pieces_of ps) ≡ ps
pieces_in-pieces_of [] = refl
pieces_in-pieces_of (p ∷ ps) = cc (pieces_in-pieces_of ps)

pub dict_sound : (codes values : ChunkData) → is_sound codes ≡ true → is_sound values ≡ true → makes_dict codes values ≡ true → is_sound (dict_piece codes values) ≡ true
dict_sound codes values c v m = and_from (is_sound codes && is_sound values) _ (and_from (is_sound codes) _ c v) m

pub chunked_sound : (t : Ty) (ps : List ChunkData) → are_sound (pieces_of ps) ≡ true → are_parts t ps ≡ true → length (joined_cells (pieces_of ps)) < 2 ^ 64 → is_sound (chunked_piece t (pieces_of ps)) ≡ true
chunked_sound t ps s parts short =
    and_from (are_sound (pieces_of ps)) _ s (and_from (are_parts t (pieces_in (pieces_of ps))) _ (rw (pieces_in-pieces_of ps) parts) (below_test (length (joined_cells (pieces_of ps))) short))

pub list_sound : (t : Ty) (e : ChunkData) (offsets : List ℕ) (valid : List Bool) → is_sound e ≡ true → makes_list t e offsets valid ≡ true → length offsets < 2 ^ 64 → is_sound (list_piece t e offsets valid) ≡ true
list_sound t e offsets valid s m short =
    let rest : (are_offsets (length (cells e)) offsets && are_flags t (length offsets - 1) valid) ≡ true = (and_parts (has_elements t (piece_type e)) _ m).1 in
    and_from (is_sound e) _ s (and_from (has_elements t (piece_type e)) _ (and_parts (has_elements t (piece_type e)) _ m).0
    (and_from (are_offsets (length (cells e)) offsets) _ (and_parts (are_offsets (length (cells e)) offsets) _ rest).0
    (and_from (nat_lt (length offsets) (2 ^ 64)) _ (below_test (length offsets) short) (and_parts (are_offsets (length (cells e)) offsets) _ rest).1)))

pub struct_sound : (t : Ty) (ps : List ChunkData) (valid : List Bool) (n : ℕ) → are_sound (pieces_of ps) ≡ true → makes_struct t ps valid n ≡ true → n < 2 ^ 64 → is_sound (struct_piece t (pieces_of ps) valid n) ≡ true
struct_sound t ps valid n s m short =
    and_from (are_sound (pieces_of ps)) _ s (and_from (has_fields t (pieces_in (pieces_of ps)) n) _ (rw (pieces_in-pieces_of ps) (and_parts (has_fields t ps n) _ m).0)
    (and_from (nat_lt n (2 ^ 64)) _ (below_test n short) (and_parts (has_fields t ps n) _ m).1))

pub extension_sound : (t : Ty) (p : ChunkData) → is_sound p ≡ true → has_storage t (piece_type p) ≡ true → is_sound (extension_piece t p) ≡ true
extension_sound t p s h = and_from (is_sound p) _ s h
