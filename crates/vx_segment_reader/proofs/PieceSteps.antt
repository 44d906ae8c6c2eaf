-- Steps of reading chunks.
use Rattle.std.proofs.Common.{◌≡◌, ℕ, zero, suc, ◌+◌, ◌-◌, ◌<◌, ◌≤◌, max, Bool, true, false, IsTrue, List, [], ◌∷◌, ◌++◌, length, get_or, drop, map, Result, Ok, Err, refl, sym, ap, ◌∙◌, append_assoc, arith, rules}
use Rattle.std.specs.Prelude.{◌&&◌, ◌==◌}
use Rattle.std.proofs.lemmas.List.{append-nil, drop_more, drop_all, length-map}
use Rattle.vx_model.specs.declared.dtype.StructField.{StructField}
use Rattle.vx_model.specs.declared.ptype.PType.{PType}
use Rattle.vx_model.specs.declared.ptype.Nullability.TheVariants.{NonNullable}
use Rattle.vx_model.specs.Ty.{Tys, tys_of, primitive}
use Rattle.vx_model.specs.TyView.{ty, field_ty}
use Rattle.vx_model.specs.ChunkData.{ChunkData, cells, has_storage}
use Rattle.vx_model.proofs.Views.{view_rules, field_ty_is, ty_extension}
use Rattle.vx_model.specs.declared.dtype.DType.{DType}
use Rattle.vx_model.specs.declared.dtype.DType as dt
use Rattle.vx_model.specs.declared.dtype.ExtDType.{ExtDType, out-ExtDType}
use Rattle.vx_segment_reader.specs.declared.error.DecodeError.{DecodeError}
use Rattle.vx_byte_reader.specs.Places.{◌>>=◌}
use Rattle.vx_segment_spec.specs.Reading.{Fault}
use Rattle.vx_segment_spec.specs.Pieces.{Rest, Frame, pieces_at, have_rows, no_pieces_at, piece_then, piece_at, columns_at, count_fields}
use Rattle.vx_segment_reader.specs.TypeDepth.{ty_depth, tys_depth}
use Rattle.vx_segment_reader.specs.Views.{Fails}
use Rattle.vx_segment_reader.proofs.Loops.{fails_with}
use Rattle.vx_segment_spec.proofs.PieceTypes.{same_type}

-- what was read before, and what is still read
abbrev pub with_more : List ChunkData → Result (List ChunkData × Rest) Fault → Result (List ChunkData × Rest) Fault
with_more front read = read >>= λ x. Ok (front ++ x.0, x.1)

regroup : (front : List ChunkData) (p : ChunkData) (read : Result (List ChunkData × Rest) Fault) → with_more front (read >>= λ x. Ok (p ∷ x.0, x.1)) ≡ with_more (front ++ p ∷ []) read
regroup front p (Ok x) = ap (λ (ps : List ChunkData). Ok (ps, x.1)) (simp append_assoc)
regroup front p (Err f) = refl

-- ---- parts

pub parts_go_on : (read : Rest → Result (ChunkData × Rest) Fault) (front : List ChunkData) (count i : ℕ) (rest : Rest) (p : ChunkData) (after : Rest) (total : Result (List ChunkData × Rest) Fault) → i < count → read rest ≡ Ok (p, after)
    → with_more front (pieces_at read (count - i) rest) ≡ total → with_more (front ++ p ∷ []) (pieces_at read (count - (i + 1)) after) ≡ total
unfolding pieces_at
parts_go_on read front count i rest p after total lt h so_far =
    let k : count - i ≡ suc (count - (i + 1)) = omega arith in
    let one : with_more front (pieces_at read (count - i) rest) ≡ with_more (front ++ p ∷ []) (pieces_at read (count - (i + 1)) after) = rw (k, h) (regroup front p (pieces_at read (count - (i + 1)) after)) in
    sym one ∙ so_far

parts_stop : (read : Rest → Result (ChunkData × Rest) Fault) (front : List ChunkData) (count i : ℕ) (rest : Rest) (total : Result (List ChunkData × Rest) Fault) (f : Fault) → i < count → read rest ≡ Err f
    → with_more front (pieces_at read (count - i) rest) ≡ total → total ≡ Err f
unfolding pieces_at
parts_stop read front count i rest total f lt h so_far =
    let k : count - i ≡ suc (count - (i + 1)) = omega arith in
    let one : with_more front (pieces_at read (count - i) rest) ≡ Err f = rw (k, h) refl in
    sym so_far ∙ one

pub parts_end : (e : DecodeError) (read : Rest → Result (ChunkData × Rest) Fault) (front : List ChunkData) (count i : ℕ) (rest : Rest) (total : Result (List ChunkData × Rest) Fault) → i < count → Fails e (read rest)
    → with_more front (pieces_at read (count - i) rest) ≡ total → Fails e total
parts_end e read front count i rest total lt h so_far = fails_with e (read rest) total (λ f is. parts_stop read front count i rest total f lt is so_far) h

pub parts_done : (read : Rest → Result (ChunkData × Rest) Fault) (front : List ChunkData) (count i : ℕ) (rest : Rest) (total : Result (List ChunkData × Rest) Fault) → count ≤ i → with_more front (pieces_at read (count - i) rest) ≡ total → total ≡ Ok (front, rest)
unfolding pieces_at
parts_done read front count i rest total le so_far =
    let k : count - i ≡ 0 = omega arith in
    let one : with_more front (pieces_at read (count - i) rest) ≡ Ok (front, rest) = rw k (ap (λ (ps : List ChunkData). Ok (ps, rest)) (append-nil front)) in
    sym so_far ∙ one

-- ---- a column a field

abbrev pub columns_from : Frame → List StructField → ℕ → Rest → Result (List ChunkData × Rest) Fault
columns_from frame fs i = columns_at frame (tys_of (map field_ty (drop i fs)))

next_column : (frame : Frame) (fs : List StructField) (i : ℕ) (f : StructField) (rest : Rest) → i < length fs → f ≡ get_or fs i f → columns_from frame fs i rest ≡ piece_then (piece_at frame (ty f.dtype)) (columns_from frame fs (i + 1)) rest
next_column frame fs i f rest lt is = rw (drop_more fs i f lt, ← is, field_ty_is f) refl

pub columns_go_on : (frame : Frame) (fs : List StructField) (front : List ChunkData) (i : ℕ) (f : StructField) (rest : Rest) (p : ChunkData) (after : Rest) (total : Result (List ChunkData × Rest) Fault) → i < length fs → f ≡ get_or fs i f → piece_at frame (ty f.dtype) rest ≡ Ok (p, after)
    → with_more front (columns_from frame fs i rest) ≡ total → with_more (front ++ p ∷ []) (columns_from frame fs (i + 1) after) ≡ total
unfolding piece_then
columns_go_on frame fs front i f rest p after total lt is h so_far =
    let one : with_more front (columns_from frame fs i rest) ≡ with_more (front ++ p ∷ []) (columns_from frame fs (i + 1) after) = rw (next_column frame fs i f rest lt is, h) (regroup front p (columns_from frame fs (i + 1) after)) in
    sym one ∙ so_far

columns_stop : (frame : Frame) (fs : List StructField) (front : List ChunkData) (i : ℕ) (f : StructField) (rest : Rest) (total : Result (List ChunkData × Rest) Fault) (g : Fault) → i < length fs → f ≡ get_or fs i f → piece_at frame (ty f.dtype) rest ≡ Err g
    → with_more front (columns_from frame fs i rest) ≡ total → total ≡ Err g
unfolding piece_then
columns_stop frame fs front i f rest total g lt is h so_far =
    let one : with_more front (columns_from frame fs i rest) ≡ Err g = rw (next_column frame fs i f rest lt is, h) refl in
    sym so_far ∙ one

pub columns_end : (e : DecodeError) (frame : Frame) (fs : List StructField) (front : List ChunkData) (i : ℕ) (f : StructField) (rest : Rest) (total : Result (List ChunkData × Rest) Fault) → i < length fs → f ≡ get_or fs i f → Fails e (piece_at frame (ty f.dtype) rest)
    → with_more front (columns_from frame fs i rest) ≡ total → Fails e total
columns_end e frame fs front i f rest total lt is h so_far = fails_with e (piece_at frame (ty f.dtype) rest) total (λ g bad. columns_stop frame fs front i f rest total g lt is bad so_far) h

pub columns_done : (frame : Frame) (fs : List StructField) (front : List ChunkData) (i : ℕ) (rest : Rest) (total : Result (List ChunkData × Rest) Fault) → length fs ≤ i → with_more front (columns_from frame fs i rest) ≡ total → total ≡ Ok (front, rest)
unfolding no_pieces_at
columns_done frame fs front i rest total le so_far =
    let one : with_more front (columns_from frame fs i rest) ≡ Ok (front, rest) = rw (drop_all i fs le) (ap (λ (ps : List ChunkData). Ok (ps, rest)) (append-nil front)) in
    sym so_far ∙ one

-- ---- rows, counts and depths

pub drop_rows : (rows : ℕ) (ps : List ChunkData) (i : ℕ) (p : ChunkData) → i < length ps → p ≡ get_or ps i p → have_rows rows (drop i ps) ≡ ((length (cells p) == rows) && have_rows rows (drop (i + 1) ps))
drop_rows rows ps i p lt is = rw (drop_more ps i p lt, ← is) refl

pub count_is : (fs : List StructField) → count_fields (tys_of (map field_ty fs)) ≡ length fs
count_is [] = refl
count_is (f ∷ fs) = ap suc (count_is fs)

field_depth : (fs : List StructField) (i : ℕ) (d : StructField) → i < length fs → ty_depth (ty (get_or fs i d).dtype) ≤ tys_depth (tys_of (map field_ty fs))
field_depth [] i d lt = absurd (omega arith)
field_depth (f ∷ fs) zero d lt = rw (field_ty_is f) (omega arith)
field_depth (f ∷ fs) (suc i) d lt = rw (field_ty_is f) (omega (arith, field_depth fs i d (omega arith)))

pub depth_in : (fs : List StructField) (i : ℕ) (f : StructField) → f ≡ get_or fs i f → i < length fs → ty_depth (ty f.dtype) ≤ tys_depth (tys_of (map field_ty fs))
depth_in fs i f is lt = rw is (field_depth fs i f lt)

pub storage_of : (d : DType) (e : ExtDType) → d ≡ dt.Extension e → IsTrue (has_storage (ty d) (ty (out-ExtDType e).storage.value))
storage_of d e is = rw (is, ty_extension e) (same_type (ty (out-ExtDType e).storage.value) (ty (out-ExtDType e).storage.value) refl)

pub ty_codes : (p : PType) → ty (dt.Primitive p NonNullable) ≡ primitive p false
ty_codes p = search (rules, dt.the_lemmas)

pub ruleset dict_rules = (ty_codes)

pub ruleset list_rules = (view_rules)

pub ruleset struct_rules = (count_is, view_rules)

pub ruleset extension_rules = (view_rules)

pub ruleset own_rules = (view_rules)

pub ruleset column_rules = (depth_in)

pub ruleset row_rules = (drop_rows)
