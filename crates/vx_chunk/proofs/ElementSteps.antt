-- The elements of each encoding's rows.
use Rattle.std.proofs.Common.{◌≡◌, ℕ, zero, suc, ◌+◌, ◌-◌, ◌<◌, ◌≤◌, ◌&&◌, Bool, true, List, [], ◌∷◌, ◌++◌, length, take, drop, get_or, map, refl, ap, sym, ◌∙◌, arith, eqb-true, append_assoc, append-nil, length-append, Box}
use Rattle.std.specs.Prelude.{replicate, ◌==◌, ◌^◌}
use Rattle.std.proofs.lemmas.List.{drop_more, length-map, length-replicate}
use Rattle.std.specs.Global.{Vec, Global}
use Rattle.std.proofs.lemmas.Bool.{and_parts}
use Rattle.vx_model.specs.declared.dtype.DType.{DType}
use Rattle.vx_chunk.specs.declared.node.Node.{Node}
use Rattle.vx_chunk.specs.declared.node.Node.TheVariants as nd
use Rattle.vx_chunk.specs.ChunkView.{node_piece}
use Rattle.vx_model.specs.declared.cell.Cell.{Cell}
use Rattle.vx_model.specs.TyView.{ty}
use Rattle.vx_model.specs.TreeView.{tree}
use Rattle.vx_model.specs.Words.{head_or, tail, all_by}
use Rattle.vx_model.specs.Ty.{Ty, boolean, primitive, utf8, binary, list, struct, extension, is_list}
use Rattle.vx_model.specs.CellData.{CellData, null_cell, bool_cell, int_cell, text_cell, bytes_cell, list_cell, struct_cell, items, fits, flag_fits}
use Rattle.vx_model.specs.ChunkData.{ChunkData, plain_piece, constant_piece, dict_piece, chunked_piece, list_piece, struct_piece, extension_piece, pieces_of, piece_type, is_sound, cells, joined_cells, list_rows, struct_rows, picked, is_dict_type, has_elements}
use Rattle.vx_model.proofs.CellViews.{items_trees_of}
use Rattle.vx_chunk_cells.specs.Window.{window, last_of, Within, counted}
use Rattle.vx_layout_spec.specs.Parts.{elements_of, all_elements, ends}
use Rattle.vx_layout_spec.proofs.CellsFit.{all_append}
use Rattle.vx_chunk_cells.proofs.Windows.{window-all, window-none, length-window}
use Rattle.vx_chunk_cells.proofs.CountSteps.{all_elements-append, ends-append, length-all_elements-replicate}
use Rattle.vx_chunk_cells.specs.Parts.{element_type, cover}
use Rattle.vx_chunk.specs.Parts.{is_plain, keeps_elements}
use Rattle.vx_chunk.proofs.Depths.{depth_in}
use Rattle.vx_chunk.proofs.Lengths.{length-struct_rows, length-list_rows, drop_joined}
use Rattle.vx_chunk.proofs.FlagSteps.{leaf_elements, leaf_picked}
use Rattle.vx_chunk.proofs.CellsFit.{cells_fit, cells_short, of_type}
use Rattle.vx_chunk.proofs.NodeSound.{in_dict, in_list}
use Rattle.vx_chunk_cells.proofs.OffsetLaws.{offsets_within}
use Rattle.vx_chunk.proofs.RowGoals.{dict_cells, list_cells, struct_cells}
use Rattle.vx_chunk.proofs.SizeLaws.{joined_spans}

-- ---- no lists

pub picked_elements : (t : Ty) (vs codes : List CellData) → is_dict_type t ≡ true → all_by (fits t) vs ≡ true → all_elements (map (picked vs) codes) ≡ []
picked_elements t vs [] d h = refl
picked_elements t vs (c ∷ codes) d h = rw (leaf_elements (picked vs c) (leaf_picked t vs c d h)) (picked_elements t vs codes d h)

pub picked_ends : (t : Ty) (vs codes : List CellData) (from : ℕ) → is_dict_type t ≡ true → all_by (fits t) vs ≡ true → ends from (map (picked vs) codes) ≡ replicate (length codes) from
picked_ends t vs [] from d h = refl
picked_ends t vs (c ∷ codes) from d h =
    let e : from + 0 ≡ from = omega arith in
    rw (leaf_elements (picked vs c) (leaf_picked t vs c d h), e) (ap (λ r. from ∷ r) (picked_ends t vs codes from d h))

pub struct_elements : (n : ℕ) (columns : List (List CellData)) (v : List Bool) → all_elements (struct_rows n columns v) ≡ []
struct_elements zero columns v = refl
struct_elements (suc n) columns v = struct_elements n (map tail columns) (tail v)

pub struct_ends : (n : ℕ) (columns : List (List CellData)) (v : List Bool) (from : ℕ) → ends from (struct_rows n columns v) ≡ replicate n from
struct_ends zero columns v from = refl
struct_ends (suc n) columns v from = let e : from + 0 ≡ from = omega arith in rw e (ap (λ r. from ∷ r) (struct_ends n (map tail columns) (tail v) from))

-- ---- lists

pub list_elements : (es : List CellData) (low : ℕ) (os : List ℕ) (v : List Bool) → Within low (last_of os) os → 1 ≤ length os → all_elements (list_rows es os v) ≡ window (head_or 0 os) (last_of os) es
list_elements es low [] v h some = absurd (omega arith)
list_elements es low (a ∷ []) v h some = sym (window-none a es)
list_elements es low (a ∷ b ∷ os) v h some =
    rw (items_trees_of (take (b - a) (drop a es)), list_elements es a (b ∷ os) (tail v) h.2 (omega arith)) (sym (joined_spans a b (last_of (b ∷ os)) es h.2.0 h.2.1))

pub list_ends : (es : List CellData) (base from first low : ℕ) (os : List ℕ) (v : List Bool) → Within low (last_of os) os → last_of os ≤ length es → first ≤ low → from ≡ base + (head_or 0 os - first)
    → ends from (list_rows es os v) ≡ counted base first (tail os)
list_ends es base from first low [] v h le below e = refl
list_ends es base from first low (a ∷ []) v h le below e = refl
list_ends es base from first low (a ∷ b ∷ os) v h le below e =
    let inside : b ≤ length es = omega (arith, h.2.1) in
    let up : a ≤ b = h.2.0 in
    let least : low ≤ a = h.0 in
    let here : from ≡ base + (a - first) = e in
    let count : length (take (b - a) (drop a es)) ≡ b - a = length-window a b es inside in
    let next : from + (b - a) ≡ base + (b - first) = omega arith in
    rw (items_trees_of (take (b - a) (drop a es)), count, next) (ap (λ r. (base + (b - first)) ∷ r) (list_ends es base (base + (b - first)) first a (b ∷ os) (tail v) h.2 le (omega arith) refl))

-- ---- what a node's elements are

pub list_parts_are : (n : Node) (t : DType) (es : Box ChunkData Global) (offsets : Vec ℕ) (valid : Vec Bool) → n ≡ nd.List t es offsets valid → is_sound (node_piece n) ≡ true
    → (all_elements (cells (node_piece n)) ≡ window (head_or 0 offsets.items) (last_of offsets.items) (cells es.value)) × ((from : ℕ) → ends from (cells (node_piece n)) ≡ counted from (head_or 0 offsets.items) (tail offsets.items))
list_parts_are n t es offsets valid e s =
    let os : List ℕ = offsets.items in
    let sound = in_list n t es offsets valid e s in
    let span = offsets_within (length (cells es.value)) os sound.ascend in (
      rw (list_cells n t es offsets valid e) (list_elements (cells es.value) (head_or 0 os) os valid.items span.0 sound.some),
      λ from. rw (list_cells n t es offsets valid e) (list_ends (cells es.value) from from (head_or 0 os) (head_or 0 os) os valid.items span.0 span.1 (omega arith) (omega arith)),
    )

pub list_count : (n : Node) (t : DType) (es : Box ChunkData Global) (offsets : Vec ℕ) (valid : Vec Bool) → n ≡ nd.List t es offsets valid → is_sound (node_piece n) ≡ true
    → (length (all_elements (cells (node_piece n))) ≡ last_of offsets.items - head_or 0 offsets.items) × (length (cells (node_piece n)) ≡ length offsets.items - 1)
list_count n t es offsets valid e s =
    let os : List ℕ = offsets.items in
    let sound = in_list n t es offsets valid e s in
    let span = offsets_within (length (cells es.value)) os sound.ascend in (
      rw ((list_parts_are n t es offsets valid e s).0) (length-window (head_or 0 os) (last_of os) (cells es.value) span.1),
      rw (list_cells n t es offsets valid e) (length-list_rows (cells es.value) os valid.items),
    )

pub dict_parts_are : (n : Node) (codes values : Box ChunkData Global) → n ≡ nd.Dict codes values → is_sound (node_piece n) ≡ true
    → (all_elements (cells (node_piece n)) ≡ []) × ((from : ℕ) → ends from (cells (node_piece n)) ≡ replicate (length (cells codes.value)) from)
dict_parts_are n codes values e s =
    let sound = in_dict n codes values e s in
    let vs : ChunkData = values.value in (
      rw (dict_cells n codes values e) (picked_elements (piece_type vs) (cells vs) (cells codes.value) sound.dict_type (cells_fit vs sound.values_sound)),
      λ from. rw (dict_cells n codes values e) (picked_ends (piece_type vs) (cells vs) (cells codes.value) from sound.dict_type (cells_fit vs sound.values_sound)),
    )

pub dict_none : (n : Node) (codes values : Box ChunkData Global) → n ≡ nd.Dict codes values → is_sound (node_piece n) ≡ true → 0 ≡ length (all_elements (cells (node_piece n)))
dict_none n codes values e s = rw ((dict_parts_are n codes values e s).0) refl

pub struct_none : (n : Node) (t : DType) (ps : Vec ChunkData) (valid : Vec Bool) (rows : ℕ) → n ≡ nd.Struct t ps valid rows → 0 ≡ length (all_elements (cells (node_piece n)))
struct_none n t ps valid rows e = rw (struct_cells n t ps valid rows e, struct_elements rows (map cells ps.items) valid.items) refl

-- ---- parts

pub drop_counts : (ps : List ChunkData) (i : ℕ) (p : ChunkData) → i < length ps → p ≡ get_or ps i p
    → length (all_elements (joined_cells (pieces_of (drop i ps)))) ≡ length (all_elements (cells p)) + length (all_elements (joined_cells (pieces_of (drop (i + 1) ps))))
drop_counts ps i p lt is =
    rw (drop_more ps i p lt, ← is, all_elements-append (cells p) (joined_cells (pieces_of (drop (i + 1) ps)))) (length-append (all_elements (cells p)) (all_elements (joined_cells (pieces_of (drop (i + 1) ps)))))

-- one part more
pub parts_apart : (ps : List ChunkData) (i : ℕ) (p : ChunkData) (old new : List Cell) (offsets more : List ℕ) (es : List CellData) (os : List ℕ) → i < length ps → p ≡ get_or ps i p
    → map tree new ≡ map tree old ++ all_elements (cells p) → more ≡ offsets ++ ends (length old) (cells p)
    → map tree old ++ all_elements (joined_cells (pieces_of (drop i ps))) ≡ es → offsets ++ ends (length old) (joined_cells (pieces_of (drop i ps))) ≡ os
    → (map tree new ++ all_elements (joined_cells (pieces_of (drop (i + 1) ps))) ≡ es) × (more ++ ends (length new) (joined_cells (pieces_of (drop (i + 1) ps))) ≡ os)
parts_apart ps i p old new offsets more es os lt is e o h k =
    let rest : List CellData = joined_cells (pieces_of (drop (i + 1) ps)) in
    let cut : joined_cells (pieces_of (drop i ps)) ≡ cells p ++ rest = rw (drop_more ps i p lt, ← is) refl in
    let long : length new ≡ length old + length (all_elements (cells p)) =
    sym (length-map new tree) ∙ ap length e ∙ length-append (map tree old) (all_elements (cells p)) ∙ ap (λ m. m + length (all_elements (cells p))) (length-map old tree) in (
      rw (e, append_assoc (map tree old) (all_elements (cells p)) (all_elements rest)) (rw (cut, all_elements-append (cells p) rest) at h),
      rw (o, long, append_assoc offsets (ends (length old) (cells p)) (ends (length old + length (all_elements (cells p))) rest)) (rw (cut, ends-append (length old) (cells p) rest) at k),
    )

-- ---- types

items_fit : (t : Ty) (n : Bool) (c : CellData) → fits (list t n) c ≡ true → all_by (fits t) (elements_of c) ≡ true
items_fit t n (list_cell valid cs) h = (and_parts (flag_fits valid n) (all_by (fits t) (items cs)) h).1
items_fit t n null_cell h = cc
items_fit t n (bool_cell b) h = cc
items_fit t n (int_cell i) h = cc
items_fit t n (text_cell s) h = cc
items_fit t n (bytes_cell s) h = cc
items_fit t n (struct_cell valid cs) h = cc

of_lists : (t : Ty) (n : Bool) (cs : List CellData) → all_by (fits (list t n)) cs ≡ true → all_by (fits t) (all_elements cs) ≡ true
of_lists t n [] h = refl
of_lists t n (c ∷ cs) h =
    all_append (fits t) (elements_of c) (all_elements cs) (items_fit t n c (and_parts (fits (list t n) c) (all_by (fits (list t n)) cs) h).0) (of_lists t n cs (and_parts (fits (list t n) c) (all_by (fits (list t n)) cs) h).1)

pub elements_fit : (t : Ty) (cs : List CellData) → is_list t ≡ true → all_by (fits t) cs ≡ true → all_by (fits (element_type t)) (all_elements cs) ≡ true
elements_fit (list t n) cs l h = of_lists t n cs h
elements_fit (boolean n) cs l h = cc
elements_fit (primitive p n) cs l h = cc
elements_fit (utf8 n) cs l h = cc
elements_fit (binary n) cs l h = cc
elements_fit (struct fs n) cs l h = cc
elements_fit (extension tag t) cs l h = cc

pub ruleset element_rules = (append_assoc, append-nil, length-all_elements-replicate, struct_elements, struct_ends, length-struct_rows, length-replicate, drop_counts, drop_joined, depth_in)

pub ruleset span_rules = (append_assoc, append-nil)

-- ---- elements that stand just as rows have them

plain_is : (e : ChunkData) → is_plain e ≡ true → e ≡ plain_piece (piece_type e) (cells e)
plain_is (plain_piece t cs) h = refl
plain_is (constant_piece t c n) h = cc
plain_is (dict_piece codes values) h = cc
plain_is (chunked_piece t ps) h = cc
plain_is (list_piece t e os valid) h = cc
plain_is (struct_piece t ps valid n) h = cc
plain_is (extension_piece t p) h = cc

elements_typed : (t e : Ty) → has_elements t e ≡ true → e ≡ element_type t
elements_typed (list t n) e h = sym (of_type t e h)
elements_typed (boolean n) e h = cc
elements_typed (primitive p n) e h = cc
elements_typed (utf8 n) e h = cc
elements_typed (binary n) e h = cc
elements_typed (struct fs n) e h = cc
elements_typed (extension tag t) e h = cc

counted_from_none : (os : List ℕ) → counted 0 0 os ≡ os
counted_from_none [] = refl
counted_from_none (o ∷ os) = let e : 0 + (o - 0) ≡ o = omega arith in cc (e, counted_from_none os)

from_none : (os : List ℕ) → 1 ≤ length os → head_or 0 os ≡ 0 → os ≡ 0 ∷ tail os
from_none [] some h = absurd (omega arith)
from_none (o ∷ os) some h = ap (λ k. k ∷ os) h

pub record Kept (t : Ty) (e : ChunkData) (os : List ℕ) (rows : List CellData) : Type 0 where
  pub elements : e ≡ plain_piece (element_type t) (all_elements rows)
  pub offsets : os ≡ 0 ∷ ends 0 rows
  pub short : length (all_elements rows) < 2 ^ 64

pub kept_elements : (n : Node) (t : DType) (es : Box ChunkData Global) (offsets : Vec ℕ) (valid : Vec Bool) → n ≡ nd.List t es offsets valid → is_sound (node_piece n) ≡ true
    → keeps_elements (node_piece n) ≡ true → Kept (piece_type (node_piece n)) es.value offsets.items (cells (node_piece n))
kept_elements n t es offsets valid e s k =
    let os : List ℕ = offsets.items in
    let p : ChunkData = es.value in
    let sound = in_list n t es offsets valid e s in
    let kept : (is_plain p && cover (length (cells p)) os) ≡ true = rw e at k in
    let covers : cover (length (cells p)) os ≡ true = (and_parts (is_plain p) _ kept).1 in
    let first : head_or 0 os ≡ 0 = eqb-true (head_or 0 os) 0 (and_parts (head_or 0 os == 0) _ covers).0 in
    let last : last_of os ≡ length (cells p) = eqb-true (last_of os) (length (cells p)) (and_parts (head_or 0 os == 0) _ covers).1 in
    let parts = list_parts_are n t es offsets valid e s in
    let span : window (head_or 0 os) (last_of os) (cells p) ≡ cells p = rw (first, last) (window-all (length (cells p)) (cells p) refl) in
    let all : all_elements (cells (node_piece n)) ≡ cells p = parts.0 ∙ span in
    let typed : piece_type p ≡ element_type (ty t) = elements_typed (ty t) (piece_type p) sound.elements in
    let own : piece_type (node_piece n) ≡ ty t = rw e refl in
    let same : plain_piece (piece_type p) (cells p) ≡ plain_piece (element_type (piece_type (node_piece n))) (all_elements (cells (node_piece n))) = rw (typed, all, own) refl in
    let tails : counted 0 (head_or 0 os) (tail os) ≡ tail os = rw first (counted_from_none (tail os)) in
    let ends_are : ends 0 (cells (node_piece n)) ≡ tail os = parts.1 0 ∙ tails in
    record {
      elements = plain_is p (and_parts (is_plain p) _ kept).0 ∙ same;
      offsets = from_none os sound.some first ∙ ap (λ (r : List ℕ). 0 ∷ r) (sym ends_are);
      short = rw all (cells_short p sound.elements_sound);
    }
