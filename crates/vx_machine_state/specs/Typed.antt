-- Chunks that are of a type through and through: the parts of a struct have the types of its fields.
use Rattle.std.specs.Prelude.{◌≡◌, List, [], ◌∷◌, Option, Some, None}
use Rattle.vx_model.specs.Ty.{Ty, Tys, boolean, primitive, utf8, binary, list, struct, extension, no_fields, field}
use Rattle.vx_model.specs.ChunkData.{ChunkData, ChunkList, plain_piece, constant_piece, dict_piece, chunked_piece, list_piece, struct_piece, extension_piece, no_pieces, part, piece_type}
use Rattle.vx_plan.specs.PlanData.{Item}

abbrev pub fields_at : Ty → Tys
fields_at (struct fs n) = fs
fields_at (boolean n) = no_fields
fields_at (primitive p n) = no_fields
fields_at (utf8 n) = no_fields
fields_at (binary n) = no_fields
fields_at (list t n) = no_fields
fields_at (extension tag t) = no_fields

abbrev mutual
  pub Typed : Ty → ChunkData → Type 0
  Typed t (struct_piece u ps valid n) = (u ≡ t) × PartsTyped (fields_at t) ps
  Typed t (plain_piece u cs) = u ≡ t
  Typed t (constant_piece u c n) = u ≡ t
  Typed t (dict_piece codes values) = piece_type values ≡ t
  Typed t (chunked_piece u ps) = u ≡ t
  Typed t (list_piece u e offsets valid) = u ≡ t
  Typed t (extension_piece u p) = u ≡ t

  pub PartsTyped : Tys → ChunkList → Type 0
  PartsTyped no_fields no_pieces = Unit {0}
  PartsTyped no_fields (part p ps) = ⊥
  PartsTyped (field name t fs) no_pieces = ⊥
  PartsTyped (field name t fs) (part p ps) = Typed t p × PartsTyped fs ps

-- each chunk of a stream
abbrev pub AllTyped : Ty → List Item → Type 0
AllTyped t [] = Unit {0}
AllTyped t (i ∷ is) = Typed t i.1 × AllTyped t is

-- each chunk of a list
abbrev pub ChunksTyped : Ty → List ChunkData → Type 0
ChunksTyped t [] = Unit {0}
ChunksTyped t (p ∷ ps) = Typed t p × ChunksTyped t ps

abbrev pub NewestTyped : Ty → Option Item → Type 0
NewestTyped t None = Unit {0}
NewestTyped t (Some j) = Typed t j.1

-- one of each type
abbrev pub EachTyped : List Ty → List ChunkData → Type 0
EachTyped [] [] = Unit {0}
EachTyped [] (p ∷ ps) = ⊥
EachTyped (t ∷ ts) [] = ⊥
EachTyped (t ∷ ts) (p ∷ ps) = Typed t p × EachTyped ts ps
