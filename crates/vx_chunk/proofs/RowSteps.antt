-- Values picked by codes.
use Rattle.std.proofs.Common.{◌≡◌, ℕ, zero, suc, ◌+◌, ◌-◌, ◌<◌, ◌≤◌, List, [], ◌∷◌, length, get_or, map, refl, ap, arith, append_assoc}
use Rattle.std.specs.Prelude.{replicate, pos, negsuc}
use Rattle.std.proofs.lemmas.List.{map_push, map_more, drop_more, append-nil, length-map, length-replicate}
use Rattle.vx_model.specs.CellData.{CellData, null_cell, bool_cell, int_cell, text_cell, bytes_cell, list_cell, struct_cell}
use Rattle.vx_model.specs.ChunkData.{ChunkData, pieces_of, cells, each_cells, cell_at, picked}
use Rattle.vx_chunk_cells.specs.Window.{window}
use Rattle.vx_chunk_cells.proofs.Windows.{window-map, window-back, window-replicate}
use Rattle.vx_chunk_cells.proofs.Steps.{replicate_push, map-replicate}
use Rattle.vx_chunk_cells.proofs.CodeSteps.{tree_int, tree_null}
use Rattle.vx_column.specs.ColumnView.{place_of}
use Rattle.vx_chunk.specs.Rows.{value_at}
use Rattle.vx_chunk.proofs.Depths.{depth_in}

pub cell_at_get : (cs : List CellData) (i : ℕ) → cell_at cs i ≡ get_or cs i null_cell
cell_at_get [] i = refl
cell_at_get (c ∷ cs) zero = refl
cell_at_get (c ∷ cs) (suc i) = cell_at_get cs i

pub cell_at-replicate : (n i : ℕ) (c : CellData) → i < n → cell_at (replicate n c) i ≡ c
cell_at-replicate zero i c lt = absurd (omega arith)
cell_at-replicate (suc n) zero c lt = refl
cell_at-replicate (suc n) (suc i) c lt = cell_at-replicate n i c (omega arith)

pub cell_at_past : (cs : List CellData) (i : ℕ) → length cs ≤ i → cell_at cs i ≡ null_cell
cell_at_past [] i le = refl
cell_at_past (c ∷ cs) zero le = absurd (omega arith)
cell_at_past (c ∷ cs) (suc i) le = cell_at_past cs i (omega arith)

-- what a code picks is at the place that it tells
pub picked_place : (vs : List CellData) (c : CellData) → picked vs c ≡ value_at vs (place_of c)
picked_place vs (int_cell (pos i)) = refl
picked_place vs (int_cell (negsuc i)) = refl
picked_place vs null_cell = refl
picked_place vs (bool_cell b) = refl
picked_place vs (text_cell s) = refl
picked_place vs (bytes_cell s) = refl
picked_place vs (list_cell v cs) = refl
picked_place vs (struct_cell v cs) = refl

-- rows from one place on, at one more step
pub drop_window : (cs : List CellData) (i to : ℕ) → i < to → to ≤ length cs → window i to cs ≡ get_or cs i null_cell ∷ window (i + 1) to cs
drop_window cs i to lt le =
    let here : i < length cs = omega arith in
    let e : to - i ≡ suc (to - (i + 1)) = omega arith in
    rw (drop_more cs i null_cell here, e) refl

pub each_cells-pieces_of : (ps : List ChunkData) → each_cells (pieces_of ps) ≡ map cells ps
each_cells-pieces_of [] = refl
each_cells-pieces_of (p ∷ ps) = ap (λ r. cells p ∷ r) (each_cells-pieces_of ps)

pub ruleset row_rules = (append_assoc, append-nil, map_push, map_more, replicate_push, picked_place, map-replicate, window-replicate, length-map, length-replicate, tree_int, window-map, depth_in)

pub ruleset pick_rules = (append_assoc, append-nil, map_push, drop_window, window-back, picked_place, cell_at_get, cell_at_past, cell_at-replicate, length-replicate, tree_null)
