-- How long segments are, against the sizes of cells.
use Rattle.std.proofs.Common.{◌≡◌, ℕ, suc, ◌+◌, ◌-◌, ◌*◌, ◌%◌, ◌≤◌, Bool, true, false, List, [], ◌∷◌, ◌++◌, length, Option, Some, None, refl, sym, ap₂, subst, arith, length-append}
use Rattle.std.specs.Int.{w16, to_le_bytes}
use Rattle.std.proofs.lemmas.List.{length-replicate}
use Rattle.vx_model.specs.declared.encoding.EncodingId.{EncodingId}
use Rattle.vx_model.specs.declared.ptype.PType.{PType}
use Rattle.vx_model.specs.declared.ptype.PType.TheVariants.{U8, U16, U32, U64, I8, I16, I32, I64}
use Rattle.vx_model.specs.Words.{joined_by, total_by}
use Rattle.vx_model.specs.Numbers.{ptype_bytes}
use Rattle.vx_model.specs.Ty.{Ty, boolean, primitive, utf8, binary, list, struct, extension}
use Rattle.vx_model.specs.CellData.{CellData, null_cell, bool_cell, int_cell, text_cell, bytes_cell, list_cell, struct_cell, u64_bytes, flag_bytes, null_byte, int_bytes, spelling, cell_size}
use Rattle.vx_model.specs.ChunkData.{ChunkData, ChunkList, plain_piece, constant_piece, dict_piece, chunked_piece, list_piece, struct_piece, extension_piece, no_pieces, part, is_dict_type}
use Rattle.vx_segment_writer.specs.Head.{Head, head_spelling}
use Rattle.vx_segment_writer.specs.Segment.{buffers, padding_at, laid_out, heads, tree_bytes, segment_bytes, first_of, refused, refused_below, bytes_unless, encode}
use Rattle.vx_encodings.specs.AllEncodings.{all_encodings}
use Rattle.vx_generator_laws.proofs.Tame.{bytes_in}

-- ---- all encodings may be used

mutual
  pub accepts : (p : ChunkData) → refused all_encodings p ≡ None
  accepts (plain_piece t cs) = refl
  accepts (constant_piece t c n) = refl
  accepts (dict_piece codes values) = ap₂ (λ a b. first_of a b) (accepts codes) (accepts values)
  accepts (chunked_piece t ps) = accepts_below ps
  accepts (list_piece t e offsets valid) = accepts e
  accepts (struct_piece t ps valid n) = accepts_below ps
  accepts (extension_piece t p) = accepts p

  accepts_below : (ps : ChunkList) → refused_below all_encodings ps ≡ None
  accepts_below no_pieces = refl
  accepts_below (part p ps) = ap₂ (λ a b. first_of a b) (accepts p) (accepts_below ps)

-- ---- the parts of a segment

padding_few : (padded : Bool) (at : ℕ) → length (padding_at padded at) ≤ 7
padding_few true at = subst (λ n. n ≤ 7) (sym (length-replicate ((8 - at % 8) % 8) 0)) (let k : (8 - at % 8) % 8 ≤ 7 = omega arith in k)
padding_few false at = omega arith

laid_few : (padded : Bool) (at : ℕ) (bs : List (List ℕ)) → length (laid_out padded at bs) ≤ total_by (λ b. 7 + length b) bs
laid_few padded at [] = omega arith
laid_few padded at (b ∷ bs) =
    let a : length (padding_at padded at) ≤ 7 = padding_few padded at in
    let e : length (padding_at padded at ++ b) ≡ length (padding_at padded at) + length b = length-append (padding_at padded at) b in
    let f : length ((padding_at padded at ++ b) ++ laid_out padded (at + length (padding_at padded at ++ b)) bs) ≡ length (padding_at padded at ++ b) + length (laid_out padded (at + length (padding_at padded at ++ b)) bs) =
    length-append (padding_at padded at ++ b) (laid_out padded (at + length (padding_at padded at ++ b)) bs) in
    let r : length (laid_out padded (at + length (padding_at padded at ++ b)) bs) ≤ total_by (λ b. 7 + length b) bs = laid_few padded (at + length (padding_at padded at ++ b)) bs in omega arith

numbers_length : (ns : List ℕ) → length (joined_by u64_bytes ns) ≡ 8 * length ns
numbers_length [] = refl
numbers_length (n ∷ ns) =
    let e : length (u64_bytes n ++ joined_by u64_bytes ns) ≡ length (u64_bytes n) + length (joined_by u64_bytes ns) = length-append (u64_bytes n) (joined_by u64_bytes ns) in
    let k : length (u64_bytes n) ≡ 8 = refl in
    let r : length (joined_by u64_bytes ns) ≡ 8 * length ns = numbers_length ns in omega arith

head_length : (h : Head) → length (head_spelling h) ≡ 20 + 8 * length h.lengths
head_length h =
    let a : length (to_le_bytes w16 h.index) ≡ 2 = refl in
    let b : length (u64_bytes h.rows) ≡ 8 = refl in
    let c : length (u64_bytes h.children) ≡ 8 = refl in
    let d : length (joined_by u64_bytes h.lengths) ≡ 8 * length h.lengths = numbers_length h.lengths in
    let e : length (joined_by u64_bytes h.lengths ++ u64_bytes h.children) ≡ length (joined_by u64_bytes h.lengths) + length (u64_bytes h.children) = length-append (joined_by u64_bytes h.lengths) (u64_bytes h.children) in
    let f : length (u64_bytes h.rows ++ (h.extra ∷ length h.lengths ∷ (joined_by u64_bytes h.lengths ++ u64_bytes h.children))) ≡ length (u64_bytes h.rows) + suc (suc (length (joined_by u64_bytes h.lengths ++ u64_bytes h.children))) =
    length-append (u64_bytes h.rows) (h.extra ∷ length h.lengths ∷ (joined_by u64_bytes h.lengths ++ u64_bytes h.children)) in
    let g : length (head_spelling h) ≡ length (to_le_bytes w16 h.index) + length (u64_bytes h.rows ++ (h.extra ∷ length h.lengths ∷ (joined_by u64_bytes h.lengths ++ u64_bytes h.children))) =
    length-append (to_le_bytes w16 h.index) (u64_bytes h.rows ++ (h.extra ∷ length h.lengths ∷ (joined_by u64_bytes h.lengths ++ u64_bytes h.children))) in omega arith

abbrev pub head_size : Head → ℕ
head_size h = 20 + 8 * length h.lengths

heads_length : (hs : List Head) → length (joined_by head_spelling hs) ≡ total_by head_size hs
heads_length [] = refl
heads_length (h ∷ hs) =
    let e : length (head_spelling h ++ joined_by head_spelling hs) ≡ length (head_spelling h) + length (joined_by head_spelling hs) = length-append (head_spelling h) (joined_by head_spelling hs) in
    let k : length (head_spelling h) ≡ head_size h = head_length h in
    let r : length (joined_by head_spelling hs) ≡ total_by head_size hs = heads_length hs in omega arith

bytes_few : (r : Option EncodingId) (b : List ℕ) → bytes_in (bytes_unless r b) ≤ length b
bytes_few None b = omega arith
bytes_few (Some e) b = omega arith

pub segment_few : (ctx : List EncodingId) (padded : Bool) (p : ChunkData) → bytes_in (encode ctx padded p) ≤ total_by (λ b. 7 + length b) (buffers p) + (total_by head_size (heads ctx p) + 9)
segment_few ctx padded p =
    let a : bytes_in (encode ctx padded p) ≤ length (segment_bytes ctx padded p) = bytes_few (refused ctx p) (segment_bytes ctx padded p) in
    let b : length (laid_out padded 0 (buffers p)) ≤ total_by (λ b. 7 + length b) (buffers p) = laid_few padded 0 (buffers p) in
    let c : length (tree_bytes ctx padded p) ≡ suc (length (joined_by head_spelling (heads ctx p))) = refl in
    let d : length (joined_by head_spelling (heads ctx p)) ≡ total_by head_size (heads ctx p) = heads_length (heads ctx p) in
    let k : length (u64_bytes (length (tree_bytes ctx padded p))) ≡ 8 = refl in
    let e : length (tree_bytes ctx padded p ++ u64_bytes (length (tree_bytes ctx padded p))) ≡ length (tree_bytes ctx padded p) + length (u64_bytes (length (tree_bytes ctx padded p))) =
    length-append (tree_bytes ctx padded p) (u64_bytes (length (tree_bytes ctx padded p))) in
    let f : length (segment_bytes ctx padded p) ≡ length (laid_out padded 0 (buffers p)) + length (tree_bytes ctx padded p ++ u64_bytes (length (tree_bytes ctx padded p))) =
    length-append (laid_out padded 0 (buffers p)) (tree_bytes ctx padded p ++ u64_bytes (length (tree_bytes ctx padded p))) in omega arith

-- ---- cells of integers, texts and bytes take at most their size

flag_length : (n valid : Bool) → length (flag_bytes n valid) ≡ null_byte n
flag_length true valid = refl
flag_length false valid = refl

int_length : (p : PType) (i : _) → length (int_bytes p i) ≡ ptype_bytes p
int_length U8 i = refl
int_length U16 i = refl
int_length U32 i = refl
int_length U64 i = refl
int_length I8 i = refl
int_length I16 i = refl
int_length I32 i = refl
int_length I64 i = refl

pub width_few : (p : PType) → ptype_bytes p ≤ 8
width_few U8 = omega arith
width_few U16 = omega arith
width_few U32 = omega arith
width_few U64 = omega arith
width_few I8 = omega arith
width_few I16 = omega arith
width_few I32 = omega arith
width_few I64 = omega arith

text_length : (n : Bool) (s : List ℕ) → length (flag_bytes n true ++ (u64_bytes (length s) ++ s)) ≤ 16 + length s + null_byte n
text_length n s =
    let a : length (flag_bytes n true) ≡ null_byte n = flag_length n true in
    let k : length (u64_bytes (length s)) ≡ 8 = refl in
    let b : length (u64_bytes (length s) ++ s) ≡ length (u64_bytes (length s)) + length s = length-append (u64_bytes (length s)) s in
    let c : length (flag_bytes n true ++ (u64_bytes (length s) ++ s)) ≡ length (flag_bytes n true) + length (u64_bytes (length s) ++ s) = length-append (flag_bytes n true) (u64_bytes (length s) ++ s) in omega arith

null_length : (n : Bool) (k : ℕ) → length (flag_bytes n false) ≤ k + null_byte n
null_length n k = let a : length (flag_bytes n false) ≡ null_byte n = flag_length n false in omega arith

pub spelling_few : (t : Ty) (c : CellData) → is_dict_type t ≡ true → length (spelling t c) ≤ cell_size t c
spelling_few (primitive p n) (int_cell i) d =
    let a : length (flag_bytes n true) ≡ null_byte n = flag_length n true in
    let b : length (int_bytes p i) ≡ ptype_bytes p = int_length p i in
    let c : length (flag_bytes n true ++ int_bytes p i) ≡ length (flag_bytes n true) + length (int_bytes p i) = length-append (flag_bytes n true) (int_bytes p i) in omega arith
spelling_few (primitive p n) null_cell d = null_length n (ptype_bytes p)
spelling_few (primitive p n) (bool_cell b) d = null_length n (ptype_bytes p)
spelling_few (primitive p n) (text_cell s) d = null_length n (ptype_bytes p)
spelling_few (primitive p n) (bytes_cell s) d = null_length n (ptype_bytes p)
spelling_few (primitive p n) (list_cell v cs) d = null_length n (ptype_bytes p)
spelling_few (primitive p n) (struct_cell v cs) d = null_length n (ptype_bytes p)
spelling_few (utf8 n) (text_cell s) d = text_length n s
spelling_few (utf8 n) (bytes_cell s) d = text_length n s
spelling_few (utf8 n) null_cell d = null_length n 16
spelling_few (utf8 n) (bool_cell b) d = null_length n 16
spelling_few (utf8 n) (int_cell i) d = null_length n 16
spelling_few (utf8 n) (list_cell v cs) d = null_length n 16
spelling_few (utf8 n) (struct_cell v cs) d = null_length n 16
spelling_few (binary n) (text_cell s) d = text_length n s
spelling_few (binary n) (bytes_cell s) d = text_length n s
spelling_few (binary n) null_cell d = null_length n 16
spelling_few (binary n) (bool_cell b) d = null_length n 16
spelling_few (binary n) (int_cell i) d = null_length n 16
spelling_few (binary n) (list_cell v cs) d = null_length n 16
spelling_few (binary n) (struct_cell v cs) d = null_length n 16
spelling_few (boolean n) c d = cc
spelling_few (list t n) c d = cc
spelling_few (struct fs n) c d = cc
spelling_few (extension tag t) c d = cc

pub cells_few : (t : Ty) (cs : List CellData) → is_dict_type t ≡ true → length (joined_by (spelling t) cs) ≤ total_by (cell_size t) cs
cells_few t [] d = omega arith
cells_few t (c ∷ cs) d =
    let a : length (spelling t c) ≤ cell_size t c = spelling_few t c d in
    let e : length (spelling t c ++ joined_by (spelling t) cs) ≡ length (spelling t c) + length (joined_by (spelling t) cs) = length-append (spelling t c) (joined_by (spelling t) cs) in
    let r : length (joined_by (spelling t) cs) ≤ total_by (cell_size t) cs = cells_few t cs d in omega arith

-- ---- chunks

pub plain_few : (ctx : List EncodingId) (padded : Bool) (t : Ty) → is_dict_type t ≡ true → (cs : List CellData) → bytes_in (encode ctx padded (plain_piece t cs)) ≤ 44 + total_by (cell_size t) cs
plain_few ctx padded t d cs =
    let a : bytes_in (encode ctx padded (plain_piece t cs)) ≤ (7 + length (joined_by (spelling t) cs) + 0) + (20 + 8 * 1 + 0 + 9) = segment_few ctx padded (plain_piece t cs) in
    let b : length (joined_by (spelling t) cs) ≤ total_by (cell_size t) cs = cells_few t cs d in omega arith

pub constant_few : (ctx : List EncodingId) (padded : Bool) (t : Ty) → is_dict_type t ≡ true → (c : CellData) (n : ℕ) → bytes_in (encode ctx padded (constant_piece t c n)) ≤ 44 + cell_size t c
constant_few ctx padded t d c n =
    let a : bytes_in (encode ctx padded (constant_piece t c n)) ≤ (7 + length (spelling t c) + 0) + (20 + 8 * 1 + 0 + 9) = segment_few ctx padded (constant_piece t c n) in
    let b : length (spelling t c) ≤ cell_size t c = spelling_few t c d in omega arith

pub dict_few : (ctx : List EncodingId) (padded : Bool) (u t : Ty) → is_dict_type u ≡ true → is_dict_type t ≡ true → (codes values : List CellData)
    → bytes_in (encode ctx padded (dict_piece (plain_piece u codes) (plain_piece t values))) ≤ 99 + total_by (cell_size u) codes + total_by (cell_size t) values
dict_few ctx padded u t c d codes values =
    let a : bytes_in (encode ctx padded (dict_piece (plain_piece u codes) (plain_piece t values))) ≤ (7 + length (joined_by (spelling u) codes) + (7 + length (joined_by (spelling t) values) + 0)) + (20 + 8 * 0 + (20 + 8 * 1 + (20 + 8 * 1 + 0)) + 9) =
    segment_few ctx padded (dict_piece (plain_piece u codes) (plain_piece t values)) in
    let b : length (joined_by (spelling u) codes) ≤ total_by (cell_size u) codes = cells_few u codes c in
    let e : length (joined_by (spelling t) values) ≤ total_by (cell_size t) values = cells_few t values d in omega arith
