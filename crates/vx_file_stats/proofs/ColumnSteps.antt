-- Columns, one at a time.
use Rattle.std.proofs.Common.{◌≡◌, ℕ, zero, suc, ◌+◌, ◌<◌, ◌≤◌, Bool, true, false, List, [], ◌∷◌, ◌++◌, length, get_or, drop, map, refl, sym, ap, ◌∙◌, append_assoc, append-nil, Option, Some, None}
use Rattle.std.specs.Prelude.{if◌then◌else◌}
use Rattle.std.proofs.lemmas.List.{drop_more, drop_all, map_push}
use Rattle.vx_model.specs.Ty.{Ty, Tys, boolean, primitive, utf8, binary, list, struct, extension, is_struct, struct_tys, tys_of}
use Rattle.vx_model.specs.TyView.{ty, field_ty}
use Rattle.vx_model.specs.declared.dtype.StructField.{StructField}
use Rattle.vx_model.specs.ChunkData.{ChunkData, struct_piece, pieces_of, pieces_in, piece_type}
use Rattle.vx_model.proofs.Views.{field_ty_is}
use Rattle.vx_layout_spec.specs.Parts.{field_pieces}
use Rattle.vx_chunk_cells.specs.Parts.{struct_fields}
use Rattle.vx_aggregate.specs.declared.stat.Stat.{Stat}
use Rattle.vx_file_stats.specs.FileStats.{types_in, column_types, column_pieces}
use Rattle.vx_file_stats.specs.Gathering.{ColumnData, with_piece, with_pieces}

-- ---- types

pub struct_types : (t : Ty) (fs : Tys) → Some fs ≡ struct_tys t → column_types t ≡ types_in fs
struct_types (struct gs n) fs e = ap (λ (o : Option Tys). types_in (fields_or fs o)) (sym e)
  where
    fields_or : Tys → Option Tys → Tys
    fields_or d None = d
    fields_or d (Some x) = x
struct_types (boolean n) fs e = cc
struct_types (primitive p n) fs e = cc
struct_types (utf8 n) fs e = cc
struct_types (binary n) fs e = cc
struct_types (list t n) fs e = cc
struct_types (extension tag t) fs e = cc

pub other_types : (t : Ty) → None ≡ struct_tys t → column_types t ≡ t ∷ []
other_types (struct gs n) e = cc
other_types (boolean n) e = refl
other_types (primitive p n) e = refl
other_types (utf8 n) e = refl
other_types (binary n) e = refl
other_types (list t n) e = refl
other_types (extension tag t) e = refl

pub ruleset type_rules = (struct_types, other_types)

pub drop_types : (fs : List StructField) (i : ℕ) (f : StructField) → i < length fs → f ≡ get_or fs i f
    → types_in (tys_of (map field_ty (drop i fs))) ≡ ty f.dtype ∷ types_in (tys_of (map field_ty (drop (i + 1) fs)))
drop_types fs i f lt is = rw (drop_more fs i f lt, ← is, field_ty_is f) refl

pub ruleset field_rules = (drop_types, drop_all, map_push, append_assoc, append-nil)

-- ---- a batch's columns

pub struct_columns : (p : ChunkData) → is_struct (piece_type p) ≡ true → column_pieces p ≡ field_pieces (struct_fields (piece_type p)) p
struct_columns p h = ap (λ (b : Bool). if b then field_pieces (struct_fields (piece_type p)) p else p ∷ []) h

pub one_column : (p : ChunkData) → is_struct (piece_type p) ≡ false → column_pieces p ≡ p ∷ []
one_column p h = ap (λ (b : Bool). if b then field_pieces (struct_fields (piece_type p)) p else p ∷ []) h

pieces_are : (ps : List ChunkData) → pieces_in (pieces_of ps) ≡ ps
pieces_are [] = refl
pieces_are (p ∷ ps) = ap (λ (qs : List ChunkData). p ∷ qs) (pieces_are ps)

pub own_fields : (fs : Tys) (p : ChunkData) (t : Ty) (ps : List ChunkData) (valid : List Bool) (n : ℕ) → struct_piece t (pieces_of ps) valid n ≡ p → field_pieces fs p ≡ ps
own_fields fs p t ps valid n e = ap (field_pieces fs) (sym e) ∙ pieces_are ps

pub ruleset batch_rules = (struct_columns, one_column, own_fields)

-- ---- pieces

pub no_pieces : (asked : List Stat) (limit : ℕ) (cs : List ColumnData) → with_pieces asked limit cs [] ≡ []
no_pieces asked limit [] = refl
no_pieces asked limit (c ∷ cs) = refl

pub piece_here : (asked : List Stat) (limit : ℕ) (c : ColumnData) (cs : List ColumnData) (ps : List ChunkData) (i : ℕ) (p : ChunkData) → i < length ps → p ≡ get_or ps i p
    → with_pieces asked limit (c ∷ cs) (drop i ps) ≡ with_piece asked limit p c ∷ with_pieces asked limit cs (drop (i + 1) ps)
piece_here asked limit c cs ps i p lt is = rw (drop_more ps i p lt, ← is) refl

pub none_here : (asked : List Stat) (limit : ℕ) (cs : List ColumnData) (ps : List ChunkData) (i : ℕ) → length ps ≤ i → with_pieces asked limit cs (drop i ps) ≡ []
none_here asked limit cs ps i le = ap (with_pieces asked limit cs) (drop_all i ps le) ∙ no_pieces asked limit cs

pub ruleset piece_rules = (piece_here, none_here, map_push, append_assoc, append-nil)

pub ruleset set_rules = (map_push, append_assoc, append-nil)
