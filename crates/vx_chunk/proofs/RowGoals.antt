-- What is left to show where rows are put together.
use Rattle.std.proofs.Common.{◌≡◌, ℕ, ◌+◌, ◌-◌, ◌<◌, ◌≤◌, ◌&&◌, min, Bool, true, List, [], ◌∷◌, ◌++◌, length, take, drop, get_or, map, refl, arith, append_assoc, Box}
use Rattle.std.specs.Prelude.{nat_le, ◌==◌}
use Rattle.std.specs.Global.{Vec, Global}
use Rattle.std.proofs.lemmas.List.{drop_more, take_more, map-append}
use Rattle.std.proofs.lemmas.Bool.Decides.{nat_tests}
use Rattle.std.proofs.lemmas.Bool.{and_from, and_parts}
use Rattle.vx_model.specs.declared.dtype.DType.{DType}
use Rattle.vx_model.specs.Words.{head_or}
use Rattle.vx_model.specs.Ty.{Ty, Tys, boolean, primitive, utf8, binary, list, struct, extension, no_fields, field, ty_eq}
use Rattle.vx_model.specs.TyView.{ty}
use Rattle.vx_model.specs.CellData.{CellData}
use Rattle.vx_model.specs.ChunkData.{ChunkData, pieces_of, cells, joined_cells, piece_type, list_rows, struct_rows, picked, are_offsets, match_fields, has_fields, is_sound}
use Rattle.vx_chunk.specs.declared.node.Node.{Node}
use Rattle.vx_chunk.specs.declared.node.Node.TheVariants as nd
use Rattle.vx_chunk.specs.ChunkView.{node_piece}
use Rattle.vx_chunk_cells.specs.Window.{window, rebased, last_of}
use Rattle.vx_chunk_cells.specs.Columns.{rows_across, pushed_each}
use Rattle.vx_chunk.specs.Rows.{have_rows, column}
use Rattle.vx_chunk.proofs.Sound.{pieces_in-pieces_of}
use Rattle.vx_chunk.proofs.NodeSound.{in_list, in_struct}
use Rattle.vx_chunk.proofs.Lengths.{length-list_rows, length-struct_rows}
use Rattle.vx_chunk_cells.proofs.Windows.{window-append, window-map, length-window}
use Rattle.vx_chunk_cells.proofs.RowWindows.{window-list_rows, window-struct_rows, list_rows-rebased, map_joined}
use Rattle.vx_chunk_cells.proofs.Steps.{column_more}
use Rattle.vx_chunk.proofs.RowSteps.{each_cells-pieces_of}
use Rattle.vx_chunk_cells.proofs.OffsetLaws.{offsets_within}

-- ---- what a node's cells are

pub dict_cells : (n : Node) (codes values : Box ChunkData Global) → n ≡ nd.Dict codes values → cells (node_piece n) ≡ map (picked (cells values.value)) (cells codes.value)
dict_cells n codes values e = rw e refl

pub list_cells : (n : Node) (t : DType) (es : Box ChunkData Global) (offsets : Vec ℕ) (valid : Vec Bool) → n ≡ nd.List t es offsets valid → cells (node_piece n) ≡ list_rows (cells es.value) offsets.items valid.items
list_cells n t es offsets valid e = rw e refl

pub struct_cells : (n : Node) (t : DType) (ps : Vec ChunkData) (valid : Vec Bool) (rows : ℕ) → n ≡ nd.Struct t ps valid rows → cells (node_piece n) ≡ struct_rows rows (map cells ps.items) valid.items
struct_cells n t ps valid rows e = rw (e, each_cells-pieces_of ps.items) refl

-- ---- dictionaries

pub dict_window : (n : Node) (codes values : Box ChunkData Global) (from to : ℕ) → n ≡ nd.Dict codes values
    → map (picked (cells values.value)) (window from to (cells codes.value)) ≡ window from to (cells (node_piece n))
dict_window n codes values from to e = rw (dict_cells n codes values e, window-map (picked (cells values.value)) from to (cells codes.value)) refl

-- ---- lists

-- a row has an offset behind it
pub rows_below : (n : Node) (t : DType) (es : Box ChunkData Global) (offsets : Vec ℕ) (valid : Vec Bool) (to : ℕ) → n ≡ nd.List t es offsets valid → is_sound (node_piece n) ≡ true
    → to ≤ length (cells (node_piece n)) → to < length offsets.items
rows_below n t es offsets valid to e s le =
    let rows : length (cells (node_piece n)) ≡ length offsets.items - 1 = rw (list_cells n t es offsets valid e) (length-list_rows (cells es.value) offsets.items valid.items) in
    let some : 1 ≤ length offsets.items = (in_list n t es offsets valid e s).some in
    omega arith

pub list_window : (n : Node) (t : DType) (es : Box ChunkData Global) (offsets : Vec ℕ) (valid : Vec Bool) (from to : ℕ) → n ≡ nd.List t es offsets valid → from ≤ to
    → list_rows (cells es.value) (window from (to + 1) offsets.items) (drop from valid.items) ≡ window from to (cells (node_piece n))
list_window n t es offsets valid from to e le = rw (list_cells n t es offsets valid e, window-list_rows (cells es.value) from to offsets.items valid.items le) refl

-- the elements between the first and the last offset give the lists
pub lists_cut : (es : List CellData) (os : List ℕ) (valid : List Bool) → are_offsets (length es) os ≡ true
    → list_rows (window (head_or 0 os) (last_of os) es) (rebased (head_or 0 os) os) valid ≡ list_rows es os valid
lists_cut es os valid h = list_rows-rebased es (head_or 0 os) (last_of os) (head_or 0 os) os valid (omega arith) (offsets_within (length es) os h).0

-- ---- structs

of_rows : (fs : Tys) (ps : List ChunkData) (n to : ℕ) → match_fields fs ps n ≡ true → to ≤ n → have_rows to ps ≡ true
of_rows no_fields [] n to h le = refl
of_rows no_fields (p ∷ ps) n to h le = cc
of_rows (field name t fs) [] n to h le = cc
of_rows (field name t fs) (p ∷ ps) n to h le =
    let rest : _ ≡ true = (and_parts (ty_eq (piece_type p) t) _ h).1 in
    let same : (length (cells p) == n) ≡ true = (and_parts (length (cells p) == n) _ rest).0 in
    and_from (nat_le to (length (cells p))) _ (grind (arith, nat_tests)) (of_rows fs ps n to (and_parts (length (cells p) == n) _ rest).1 le)

fields_rows : (t : Ty) (ps : List ChunkData) (n to : ℕ) → has_fields t ps n ≡ true → to ≤ n → have_rows to ps ≡ true
fields_rows (struct fs m) ps n to h le = of_rows fs ps n to h le
fields_rows (boolean m) ps n to h le = cc
fields_rows (primitive p m) ps n to h le = cc
fields_rows (utf8 m) ps n to h le = cc
fields_rows (binary m) ps n to h le = cc
fields_rows (list t m) ps n to h le = cc
fields_rows (extension tag t) ps n to h le = cc

-- each field has the rows
pub fields_have : (n : Node) (t : DType) (ps : Vec ChunkData) (valid : Vec Bool) (rows to : ℕ) → n ≡ nd.Struct t ps valid rows → is_sound (node_piece n) ≡ true
    → to ≤ length (cells (node_piece n)) → have_rows to ps.items ≡ true
fields_have n t ps valid rows to e s le =
    let count : length (cells (node_piece n)) ≡ rows = rw (struct_cells n t ps valid rows e) (length-struct_rows rows (map cells ps.items) valid.items) in
    fields_rows (ty t) ps.items rows to (rw (pieces_in-pieces_of ps.items) at (in_struct n t ps valid rows e s).fields) (omega arith)

pub struct_window : (n : Node) (t : DType) (ps : Vec ChunkData) (valid : Vec Bool) (rows from to : ℕ) → n ≡ nd.Struct t ps valid rows → from ≤ to → to ≤ length (cells (node_piece n))
    → struct_rows (to - from) (map (column from to) ps.items) (drop from valid.items) ≡ window from to (cells (node_piece n))
struct_window n t ps valid rows from to e le within =
    let count : length (cells (node_piece n)) ≡ rows = rw (struct_cells n t ps valid rows e) (length-struct_rows rows (map cells ps.items) valid.items) in
    let inside : to ≤ rows = omega arith in
    rw (struct_cells n t ps valid rows e, window-struct_rows from to rows (map cells ps.items) valid.items le inside, map_joined (window from to) cells (column from to) ps.items (λ p. refl)) refl

pub rows_more : (to : ℕ) (ps : List ChunkData) (i : ℕ) (p : ChunkData) → i < length ps → p ≡ get_or ps i p → have_rows to (drop i ps) ≡ true → (to ≤ length (cells p)) × (have_rows to (drop (i + 1) ps) ≡ true)
rows_more to ps i p lt is h =
    let here : (nat_le to (length (cells p)) && have_rows to (drop (i + 1) ps)) ≡ true = rw (drop_more ps i p lt, ← is) at h in
    let first : nat_le to (length (cells p)) ≡ true = (and_parts (nat_le to (length (cells p))) _ here).0 in
    (grind (arith, nat_tests), (and_parts (nat_le to (length (cells p))) _ here).1)

pub columns_more : (from to : ℕ) (ps : List ChunkData) (i : ℕ) (p : ChunkData) (rows : List (List CellData)) (c : List CellData) → i < length ps → p ≡ get_or ps i p → to ≤ length (cells p) → c ≡ window from to (cells p)
    → rows ≡ rows_across (to - from) (map (column from to) (take i ps)) → pushed_each rows c ≡ rows_across (to - from) (map (column from to) (take (i + 1) ps))
columns_more from to ps i p rows c lt is le e h =
    let long : length (window from to (cells p)) ≡ to - from = length-window from to (cells p) le in
    rw (h, e, column_more (to - from) (map (column from to) (take i ps)) (window from to (cells p)) long, take_more ps i p lt, ← is, map-append (column from to) (take i ps) (p ∷ [])) refl

-- ---- parts

pub parts_more : (out start : List CellData) (ps : List ChunkData) (i from to n : ℕ) (p : ChunkData) → i < length ps → p ≡ get_or ps i p → n ≡ length (cells p)
    → out ++ window from to (joined_cells (pieces_of (drop i ps))) ≡ start
    → (out ++ window (min from n) (min to n) (cells p)) ++ window (from - n) (to - n) (joined_cells (pieces_of (drop (i + 1) ps))) ≡ start
parts_more out start ps i from to n p lt is e h =
    let whole : window from to (joined_cells (pieces_of (drop i ps))) ≡ window (min from n) (min to n) (cells p) ++ window (from - n) (to - n) (joined_cells (pieces_of (drop (i + 1) ps))) =
    rw (drop_more ps i p lt, ← is, e) (window-append from to (cells p) (joined_cells (pieces_of (drop (i + 1) ps)))) in
    rw (append_assoc out (window (min from n) (min to n) (cells p)) (window (from - n) (to - n) (joined_cells (pieces_of (drop (i + 1) ps)))), ← whole) h
