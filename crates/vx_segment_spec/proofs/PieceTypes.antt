-- What is read as a chunk of a type has that type.
use Rattle.std.proofs.Common.{◌≡◌, ℕ, zero, suc, ◌+◌, ◌-◌, ◌^◌, ◌<◌, Bool, true, false, cond, IsTrue, List, [], ◌∷◌, length, Option, Some, None, Result, Ok, Err, refl, sym, ap, subst, ◌∙◌, arith}
use Rattle.std.specs.Prelude.{◌&&◌, ◌==◌, not, slice_get}
use Rattle.std.proofs.lemmas.Bool.{eqb-true, eq-eqb, and_parts}
use Rattle.vx_model.specs.declared.encoding.EncodingId.{EncodingId}
use Rattle.vx_model.specs.declared.encoding.EncodingId.TheVariants as encodings
use Rattle.vx_model.specs.declared.ptype.PType.{PType}
use Rattle.vx_model.specs.declared.ptype.PType.TheVariants.{U8, U16, U32, U64}
use Rattle.vx_model.specs.Words.{all_by}
use Rattle.vx_model.specs.Ty.{Ty, Tys, boolean, primitive, utf8, binary, list, struct, extension, no_fields, field, nullable, ty_eq}
use Rattle.vx_model.specs.TyLaws.{ty_eq_decides}
use Rattle.vx_model.specs.CellData.{CellData}
use Rattle.vx_model.specs.ChunkData.{ChunkData, plain_piece, constant_piece, dict_piece, chunked_piece, list_piece, struct_piece, extension_piece, pieces_of, piece_type, cells, joined_cells, is_simple, is_chunked, is_unsigned, is_code_type, is_dict_type, is_code, are_parts, are_offsets, match_fields, are_flags, has_fields, has_elements, has_storage}
use Rattle.vx_chunk.specs.Conditions.{makes_dict, makes_list, makes_struct}
use Rattle.vx_segment_writer.specs.Head.{Head}
use Rattle.vx_cell_codec.specs.Reading.{cells_at, only_cell_at}
use Rattle.vx_cell_codec.specs.Columns.{offsets_at}
use Rattle.vx_byte_reader.specs.Places.{◌>>=◌}
use Rattle.vx_segment_spec.specs.Reading.{Fault}
use Rattle.vx_segment_spec.specs.Pieces.{Rest, Frame, number, unless_bad, given, node_of, buffer_of, is_shaped, flag_buffers, flags_of, pieces_at, plain_at, constant_at, code_type, simple_of, simple_at, are_codes, dict_at, chunked_at, list_at, have_rows, struct_at, extension_at, Own, list_own, struct_own, extension_own, count_fields, part_of, part_at, whole_of, whole_at, no_pieces_at, piece_then, own_of, columns_at, piece_at}
use Rattle.vx_byte_reader.proofs.PlaceLaws.{bind_ok, ok_is}

pub unless_ok : {A : Type 0} (k : ℕ) (b : Bool) (r : Result A Fault) (x : A) → unless_bad k b r ≡ Ok x → (b ≡ true) × (r ≡ Ok x)
unless_ok k true r x e = (refl, e)
unless_ok k false r x e = absurd cc

abbrev pub just : {A : Type 0} → A → Option A
just x = Some x

pub given_ok : {A : Type 0} (k : ℕ) (o : Option A) (x : A) → given k o ≡ Ok x → o ≡ Some x
given_ok k (Some y) x e = ap just (ok_is y x e)
given_ok k None x e = absurd cc

pub same_type : (s t : Ty) → s ≡ t → ty_eq s t ≡ true
same_type s t e = (ty_eq_decides s t).1 e

-- what is known of a chunk that was read
pub record Typed (t : Ty) (p : ChunkData) : Type 0 where
  pub typed : piece_type p ≡ t
  pub apart : is_chunked p ≡ false

pub record Simple (t : Ty) (p : ChunkData) : Type 0 where
  pub typed : piece_type p ≡ t
  pub simple : is_simple p ≡ true
  pub apart : is_chunked p ≡ false

pub plain_typed : (t : Ty) (k : ℕ) (n : Head) (rest : Rest) (x : ChunkData × Rest) → plain_at t k n rest ≡ Ok x → Simple t x.0
unfolding plain_at
plain_typed t k n rest x e =
    let a = unless_ok k (is_shaped 1 0 n) (buffer_of k rest >>= λ buffer. given k (cells_at t n.rows buffer.0) >>= λ cs. Ok (plain_piece t cs, buffer.1)) x e in
    let b = bind_ok (buffer_of k rest) (λ buffer. given k (cells_at t n.rows buffer.0) >>= λ cs. Ok (plain_piece t cs, buffer.1)) x a.1 in
    let c = bind_ok (given k (cells_at t n.rows b.0.0)) (λ cs. Ok (plain_piece t cs, b.0.1)) x b.2 in
    let made : ChunkData × Rest = (plain_piece t c.0, b.0.1) in
    subst (λ (y : ChunkData × Rest). Simple t y.0) (ok_is made x c.2) (record { typed = refl; simple = refl; apart = refl })

pub constant_typed : (t : Ty) (k : ℕ) (n : Head) (rest : Rest) (x : ChunkData × Rest) → constant_at t k n rest ≡ Ok x → Simple t x.0
unfolding constant_at
constant_typed t k n rest x e =
    let a = unless_ok k (is_shaped 1 0 n) (buffer_of k rest >>= λ buffer. given k (only_cell_at t buffer.0) >>= λ c. Ok (constant_piece t c n.rows, buffer.1)) x e in
    let b = bind_ok (buffer_of k rest) (λ buffer. given k (only_cell_at t buffer.0) >>= λ c. Ok (constant_piece t c n.rows, buffer.1)) x a.1 in
    let c = bind_ok (given k (only_cell_at t b.0.0)) (λ c. Ok (constant_piece t c n.rows, b.0.1)) x b.2 in
    let made : ChunkData × Rest = (constant_piece t c.0 n.rows, b.0.1) in
    subst (λ (y : ChunkData × Rest). Simple t y.0) (ok_is made x c.2) (record { typed = refl; simple = refl; apart = refl })

simple_of_typed : (t : Ty) (k : ℕ) (n : Head) (e : Option EncodingId) (rest : Rest) (x : ChunkData × Rest) → simple_of t k n e rest ≡ Ok x → Simple t x.0
simple_of_typed t k n (Some encodings.Plain) rest x e = plain_typed t k n rest x e
simple_of_typed t k n (Some encodings.Constant) rest x e = constant_typed t k n rest x e
simple_of_typed t k n id rest x e = absurd cc

pub simple_typed : (frame : Frame) (t : Ty) (rest : Rest) (x : ChunkData × Rest) → simple_at frame t rest ≡ Ok x → Simple t x.0
unfolding simple_at
simple_typed frame t rest x e =
    let a = bind_ok (node_of frame rest) (λ node. simple_of t (number frame rest) node.0 (slice_get frame.ids node.0.index) node.1) x e in
    simple_of_typed t (number frame rest) a.0.0 (slice_get frame.ids a.0.0.index) a.0.1 x a.2

-- ---- dictionaries

some_is : {A : Type 0} (x y : A) → just x ≡ just y → x ≡ y
some_is x y e = cc

unsigned_codes : (n : ℕ) (p : PType) → code_type n ≡ Some p → is_unsigned p ≡ true
unsigned_codes zero p e = ap is_unsigned (sym (some_is U8 p e))
unsigned_codes (suc zero) p e = ap is_unsigned (sym (some_is U16 p e))
unsigned_codes (suc (suc zero)) p e = ap is_unsigned (sym (some_is U32 p e))
unsigned_codes (suc (suc (suc zero))) p e = ap is_unsigned (sym (some_is U64 p e))
unsigned_codes (suc (suc (suc (suc n)))) p e = absurd cc

code_type_is : (p : PType) → is_unsigned p ≡ true → is_code_type (primitive p false) ≡ true
code_type_is p e = rw e refl

pub codes_typed : (n : ℕ) (p : PType) (c : ChunkData) → code_type n ≡ Some p → piece_type c ≡ primitive p false → is_code_type (piece_type c) ≡ true
codes_typed n p c e typed = rw typed (code_type_is p (unsigned_codes n p e))

pub makes : (codes values : ChunkData) → is_simple codes ≡ true → is_simple values ≡ true → is_code_type (piece_type codes) ≡ true → is_dict_type (piece_type values) ≡ true → all_by (is_code (length (cells values))) (cells codes) ≡ true
    → makes_dict codes values ≡ true
makes codes values a b c d e = rw (a, b, c, d, e) refl

pub dict_typed : (frame : Frame) (t : Ty) (k : ℕ) (n : Head) (rest : Rest) (x : ChunkData × Rest) → dict_at frame t k n rest ≡ Ok x → Typed t x.0
unfolding dict_at
dict_typed frame t k n rest x e =
    let a = unless_ok k (is_dict_type t && ((length n.lengths == 0) && (n.children == 2))) (given k (code_type n.extra) >>= λ p. simple_at frame (primitive p false) rest >>= λ codes. simple_at frame t codes.1 >>= λ values. unless_bad k (are_codes n.rows codes.0 values.0) (Ok (dict_piece codes.0 values.0, values.1))) x e in
    let b = bind_ok (given k (code_type n.extra)) (λ p. simple_at frame (primitive p false) rest >>= λ codes. simple_at frame t codes.1 >>= λ values. unless_bad k (are_codes n.rows codes.0 values.0) (Ok (dict_piece codes.0 values.0, values.1))) x a.1 in
    let c = bind_ok (simple_at frame (primitive b.0 false) rest) (λ codes. simple_at frame t codes.1 >>= λ values. unless_bad k (are_codes n.rows codes.0 values.0) (Ok (dict_piece codes.0 values.0, values.1))) x b.2 in
    let d = bind_ok (simple_at frame t c.0.1) (λ values. unless_bad k (are_codes n.rows c.0.0 values.0) (Ok (dict_piece c.0.0 values.0, values.1))) x c.2 in
    let f = unless_ok k (are_codes n.rows c.0.0 d.0.0) (Ok (dict_piece c.0.0 d.0.0, d.0.1)) x d.2 in
    let made : ChunkData × Rest = (dict_piece c.0.0 d.0.0, d.0.1) in
    subst (λ (y : ChunkData × Rest). Typed t y.0) (ok_is made x f.1) (record { typed = (simple_typed frame t c.0.1 d.0 d.1).typed; apart = refl })

-- ---- the encodings of one kind of type

pub list_typed : (t : Ty) (nullable : Bool) (read : Rest → Result (ChunkData × Rest) Fault) (k : ℕ) (n : Head) (rest : Rest) (x : ChunkData × Rest) → list_at t nullable read k n rest ≡ Ok x → Typed t x.0
unfolding list_at
list_typed t nullable read k n rest x e =
    let a = unless_ok k (is_shaped (suc (flag_buffers nullable)) 1 n) (buffer_of k rest >>= λ buffer. given k (offsets_at n.rows buffer.0) >>= λ offsets. flags_of nullable k n.rows buffer.1 >>= λ valid. read valid.1 >>= λ elements. unless_bad k (are_offsets (length (cells elements.0)) offsets) (Ok (list_piece t elements.0 offsets valid.0, elements.1))) x e in
    let b = bind_ok (buffer_of k rest) (λ buffer. given k (offsets_at n.rows buffer.0) >>= λ offsets. flags_of nullable k n.rows buffer.1 >>= λ valid. read valid.1 >>= λ elements. unless_bad k (are_offsets (length (cells elements.0)) offsets) (Ok (list_piece t elements.0 offsets valid.0, elements.1))) x a.1 in
    let c = bind_ok (given k (offsets_at n.rows b.0.0)) (λ offsets. flags_of nullable k n.rows b.0.1 >>= λ valid. read valid.1 >>= λ elements. unless_bad k (are_offsets (length (cells elements.0)) offsets) (Ok (list_piece t elements.0 offsets valid.0, elements.1))) x b.2 in
    let d = bind_ok (flags_of nullable k n.rows b.0.1) (λ valid. read valid.1 >>= λ elements. unless_bad k (are_offsets (length (cells elements.0)) c.0) (Ok (list_piece t elements.0 c.0 valid.0, elements.1))) x c.2 in
    let f = bind_ok (read d.0.1) (λ elements. unless_bad k (are_offsets (length (cells elements.0)) c.0) (Ok (list_piece t elements.0 c.0 d.0.0, elements.1))) x d.2 in
    let g = unless_ok k (are_offsets (length (cells f.0.0)) c.0) (Ok (list_piece t f.0.0 c.0 d.0.0, f.0.1)) x f.2 in
    let made : ChunkData × Rest = (list_piece t f.0.0 c.0 d.0.0, f.0.1) in
    subst (λ (y : ChunkData × Rest). Typed t y.0) (ok_is made x g.1) (record { typed = refl; apart = refl })

pub struct_typed : (t : Ty) (nullable : Bool) (fields : ℕ) (read : Rest → Result (List ChunkData × Rest) Fault) (k : ℕ) (n : Head) (rest : Rest) (x : ChunkData × Rest) → struct_at t nullable fields read k n rest ≡ Ok x → Typed t x.0
unfolding struct_at
struct_typed t nullable fields read k n rest x e =
    let a = unless_ok k (is_shaped (flag_buffers nullable) fields n) (flags_of nullable k n.rows rest >>= λ valid. read valid.1 >>= λ columns. unless_bad k (have_rows n.rows columns.0) (Ok (struct_piece t (pieces_of columns.0) valid.0 n.rows, columns.1))) x e in
    let b = bind_ok (flags_of nullable k n.rows rest) (λ valid. read valid.1 >>= λ columns. unless_bad k (have_rows n.rows columns.0) (Ok (struct_piece t (pieces_of columns.0) valid.0 n.rows, columns.1))) x a.1 in
    let c = bind_ok (read b.0.1) (λ columns. unless_bad k (have_rows n.rows columns.0) (Ok (struct_piece t (pieces_of columns.0) b.0.0 n.rows, columns.1))) x b.2 in
    let d = unless_ok k (have_rows n.rows c.0.0) (Ok (struct_piece t (pieces_of c.0.0) b.0.0 n.rows, c.0.1)) x c.2 in
    let made : ChunkData × Rest = (struct_piece t (pieces_of c.0.0) b.0.0 n.rows, c.0.1) in
    subst (λ (y : ChunkData × Rest). Typed t y.0) (ok_is made x d.1) (record { typed = refl; apart = refl })

pub extension_typed : (t : Ty) (read : Rest → Result (ChunkData × Rest) Fault) (k : ℕ) (n : Head) (rest : Rest) (x : ChunkData × Rest) → extension_at t read k n rest ≡ Ok x → Typed t x.0
unfolding extension_at
extension_typed t read k n rest x e =
    let a = unless_ok k (is_shaped 0 1 n) (read rest >>= λ storage. unless_bad k (length (cells storage.0) == n.rows) (Ok (extension_piece t storage.0, storage.1))) x e in
    let b = bind_ok (read rest) (λ storage. unless_bad k (length (cells storage.0) == n.rows) (Ok (extension_piece t storage.0, storage.1))) x a.1 in
    let c = unless_ok k (length (cells b.0.0) == n.rows) (Ok (extension_piece t b.0.0, b.0.1)) x b.2 in
    let made : ChunkData × Rest = (extension_piece t b.0.0, b.0.1) in
    subst (λ (y : ChunkData × Rest). Typed t y.0) (ok_is made x c.1) (record { typed = refl; apart = refl })

list_own_typed : (t : Ty) (nullable : Bool) (read : Rest → Result (ChunkData × Rest) Fault) (k : ℕ) (n : Head) (id : EncodingId) (rest : Rest) (x : ChunkData × Rest) → list_own t nullable read k n id rest ≡ Ok x → Typed t x.0
list_own_typed t nullable read k n encodings.List rest x e = list_typed t nullable read k n rest x e
list_own_typed t nullable read k n id rest x e = absurd cc

struct_own_typed : (t : Ty) (nullable : Bool) (fields : ℕ) (read : Rest → Result (List ChunkData × Rest) Fault) (k : ℕ) (n : Head) (id : EncodingId) (rest : Rest) (x : ChunkData × Rest) → struct_own t nullable fields read k n id rest ≡ Ok x → Typed t x.0
struct_own_typed t nullable fields read k n encodings.Struct rest x e = struct_typed t nullable fields read k n rest x e
struct_own_typed t nullable fields read k n id rest x e = absurd cc

extension_own_typed : (t : Ty) (read : Rest → Result (ChunkData × Rest) Fault) (k : ℕ) (n : Head) (id : EncodingId) (rest : Rest) (x : ChunkData × Rest) → extension_own t read k n id rest ≡ Ok x → Typed t x.0
extension_own_typed t read k n encodings.Extension rest x e = extension_typed t read k n rest x e
extension_own_typed t read k n id rest x e = absurd cc

pub own_typed : (frame : Frame) (t : Ty) (k : ℕ) (n : Head) (id : EncodingId) (rest : Rest) (x : ChunkData × Rest) → own_of frame t k n id rest ≡ Ok x → Typed t x.0
own_typed frame (boolean m) k n id rest x e = absurd cc
own_typed frame (primitive p m) k n id rest x e = absurd cc
own_typed frame (utf8 m) k n id rest x e = absurd cc
own_typed frame (binary m) k n id rest x e = absurd cc
own_typed frame (list t m) k n id rest x e = list_own_typed (list t m) m (piece_at frame t) k n id rest x e
own_typed frame (struct fs m) k n id rest x e = struct_own_typed (struct fs m) m (count_fields fs) (columns_at frame fs) k n id rest x e
own_typed frame (extension tag t) k n id rest x e = extension_own_typed (extension tag t) (piece_at frame t) k n id rest x e

-- ---- parts, and whole chunks

simple_apart : (t : Ty) (p : ChunkData) → Simple t p → Typed t p
simple_apart t p s = record { typed = s.typed; apart = s.apart }

pub part_of_typed : (frame : Frame) (t : Ty) (k : ℕ) (n : Head) (id : Option EncodingId) (rest : Rest) (x : ChunkData × Rest) → part_of frame t (own_of frame t) k n id rest ≡ Ok x → Typed t x.0
part_of_typed frame t k n (Some encodings.Plain) rest x e = simple_apart t x.0 (plain_typed t k n rest x e)
part_of_typed frame t k n (Some encodings.Constant) rest x e = simple_apart t x.0 (constant_typed t k n rest x e)
part_of_typed frame t k n (Some encodings.Dict) rest x e = dict_typed frame t k n rest x e
part_of_typed frame t k n (Some encodings.Chunked) rest x e = absurd cc
part_of_typed frame t k n (Some encodings.List) rest x e = own_typed frame t k n encodings.List rest x e
part_of_typed frame t k n (Some encodings.Struct) rest x e = own_typed frame t k n encodings.Struct rest x e
part_of_typed frame t k n (Some encodings.Extension) rest x e = own_typed frame t k n encodings.Extension rest x e
part_of_typed frame t k n None rest x e = absurd cc

pub part_typed : (frame : Frame) (t : Ty) (rest : Rest) (x : ChunkData × Rest) → part_at frame t (own_of frame t) rest ≡ Ok x → Typed t x.0
unfolding part_at
part_typed frame t rest x e =
    let a = bind_ok (node_of frame rest) (λ node. part_of frame t (own_of frame t) (number frame rest) node.0 (slice_get frame.ids node.0.index) node.1) x e in
    part_of_typed frame t (number frame rest) a.0.0 (slice_get frame.ids a.0.0.index) a.0.1 x a.2

chunked_typed : (t : Ty) (read : Rest → Result (ChunkData × Rest) Fault) (k : ℕ) (n : Head) (rest : Rest) (x : ChunkData × Rest) → chunked_at t read k n rest ≡ Ok x → piece_type x.0 ≡ t
unfolding chunked_at
chunked_typed t read k n rest x e =
    let a = unless_ok k ((n.extra == 0) && (length n.lengths == 0)) (pieces_at read n.children rest >>= λ parts. unless_bad k (length (joined_cells (pieces_of parts.0)) == n.rows) (Ok (chunked_piece t (pieces_of parts.0), parts.1))) x e in
    let b = bind_ok (pieces_at read n.children rest) (λ parts. unless_bad k (length (joined_cells (pieces_of parts.0)) == n.rows) (Ok (chunked_piece t (pieces_of parts.0), parts.1))) x a.1 in
    let c = unless_ok k (length (joined_cells (pieces_of b.0.0)) == n.rows) (Ok (chunked_piece t (pieces_of b.0.0), b.0.1)) x b.2 in
    let made : ChunkData × Rest = (chunked_piece t (pieces_of b.0.0), b.0.1) in
    subst (λ (y : ChunkData × Rest). piece_type y.0 ≡ t) (ok_is made x c.1) refl

whole_of_typed : (frame : Frame) (t : Ty) (k : ℕ) (n : Head) (id : Option EncodingId) (rest : Rest) (x : ChunkData × Rest) → whole_of frame t (own_of frame t) k n id rest ≡ Ok x → piece_type x.0 ≡ t
whole_of_typed frame t k n (Some encodings.Chunked) rest x e = chunked_typed t (part_at frame t (own_of frame t)) k n rest x e
whole_of_typed frame t k n id rest x e = (part_of_typed frame t k n id rest x e).typed

pub piece_typed : (frame : Frame) (t : Ty) (rest : Rest) (x : ChunkData × Rest) → piece_at frame t rest ≡ Ok x → piece_type x.0 ≡ t
unfolding whole_at
piece_typed frame t rest x e =
    let a = bind_ok (node_of frame rest) (λ node. whole_of frame t (own_of frame t) (number frame rest) node.0 (slice_get frame.ids node.0.index) node.1) x e in
    whole_of_typed frame t (number frame rest) a.0.0 (slice_get frame.ids a.0.0.index) a.0.1 x a.2

-- ---- several

is_part : (t : Ty) (p : ChunkData) → Typed t p → (ty_eq (piece_type p) t && not (is_chunked p)) ≡ true
is_part t p known = rw (same_type (piece_type p) t known.typed, known.apart) refl

pub parts_typed : (frame : Frame) (t : Ty) (n : ℕ) (rest : Rest) (x : List ChunkData × Rest) → pieces_at (part_at frame t (own_of frame t)) n rest ≡ Ok x → are_parts t x.0 ≡ true
unfolding pieces_at
parts_typed frame t zero rest x e = subst (λ (y : List ChunkData × Rest). are_parts t y.0 ≡ true) (ok_is ([], rest) x e) refl
parts_typed frame t (suc n) rest x e =
    let read : Rest → Result (ChunkData × Rest) Fault = part_at frame t (own_of frame t) in
    let a = bind_ok (read rest) (λ first. pieces_at read n first.1 >>= λ others. Ok (first.0 ∷ others.0, others.1)) x e in
    let b = bind_ok (pieces_at read n a.0.1) (λ others. Ok (a.0.0 ∷ others.0, others.1)) x a.2 in
    let made : List ChunkData × Rest = (a.0.0 ∷ b.0.0, b.0.1) in
    subst (λ (y : List ChunkData × Rest). are_parts t y.0 ≡ true) (ok_is made x b.2) (rw (is_part t a.0.0 (part_typed frame t rest a.0 a.1), parts_typed frame t n a.0.1 b.0 b.1) refl)

-- columns of so many rows are a struct's fields
pub columns_match : (frame : Frame) (fs : Tys) (rows : ℕ) (rest : Rest) (x : List ChunkData × Rest) → columns_at frame fs rest ≡ Ok x → have_rows rows x.0 ≡ true → match_fields fs x.0 rows ≡ true
unfolding no_pieces_at piece_then
columns_match frame no_fields rows rest x e have = subst (λ (y : List ChunkData × Rest). match_fields no_fields y.0 rows ≡ true) (ok_is ([], rest) x e) refl
columns_match frame (field name t fs) rows rest x e have =
    let a = bind_ok (piece_at frame t rest) (λ first. columns_at frame fs first.1 >>= λ more. Ok (first.0 ∷ more.0, more.1)) x e in
    let b = bind_ok (columns_at frame fs a.0.1) (λ more. Ok (a.0.0 ∷ more.0, more.1)) x a.2 in
    let made : List ChunkData × Rest = (a.0.0 ∷ b.0.0, b.0.1) in
    let is : made ≡ x = ok_is made x b.2 in
    let each : ((length (cells a.0.0) == rows) ≡ true) × (have_rows rows b.0.0 ≡ true) = and_parts (length (cells a.0.0) == rows) (have_rows rows b.0.0) (subst (λ (y : List ChunkData × Rest). have_rows rows y.0 ≡ true) (sym is) have) in
    subst (λ (y : List ChunkData × Rest). match_fields (field name t fs) y.0 rows ≡ true) is (rw (same_type (piece_type a.0.0) t (piece_typed frame t rest a.0 a.1), each.0, columns_match frame fs rows a.0.1 b.0 b.1 each.1) refl)

-- ---- what the constructors ask

pub not_rows : (n rows : ℕ) → rows < 2 ^ 64 → (n < 2 ^ 64 → ⊥) → (n == rows) ≡ false
not_rows n rows small large = decided (n == rows) refl
  where
    decided : (b : Bool) → (n == rows) ≡ b → b ≡ false
    decided true e = absurd (large (rw (eqb-true n rows e) small))
    decided false e = refl

pub list_elements : (t u : Ty) (n : Bool) (p : ChunkData) → t ≡ list u n → piece_type p ≡ u → has_elements t (piece_type p) ≡ true
list_elements t u n p e f = rw (e, f) (same_type u u refl)

pub flags_count : (t : Ty) (rows n : ℕ) (valid : List Bool) → n ≡ rows → length valid ≡ cond (nullable t) rows 0 → are_flags t n valid ≡ true
flags_count t rows n valid same e = rw same (eq-eqb (length valid) (cond (nullable t) rows 0) e)

pub struct_made : (frame : Frame) (t s : Ty) (fs : Tys) (rest after : Rest) (columns : List ChunkData) (valid : List Bool) (rows : ℕ) → s ≡ t → t ≡ struct fs (nullable t) → columns_at frame fs rest ≡ Ok (columns, after) → have_rows rows columns ≡ true → length valid ≡ cond (nullable t) rows 0
    → makes_struct s columns valid rows ≡ true
struct_made frame t s fs rest after columns valid rows same e read have flags =
    let fields : has_fields t columns rows ≡ true = rw e (columns_match frame fs rows rest (columns, after) read have) in
    rw (same, fields, flags_count t rows rows valid refl flags) refl

pub storage_made : (t s u : Ty) (p : ChunkData) → s ≡ t → IsTrue (has_storage t u) → piece_type p ≡ u → IsTrue (has_storage s (piece_type p))
storage_made t s u p same h e = rw (same, e) h
