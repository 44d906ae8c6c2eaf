-- Steps of what columns tell.
use Rattle.std.proofs.Common.{◌≡◌, ℕ, zero, suc, ◌+◌, ◌<◌, ◌&&◌, Bool, true, List, [], ◌∷◌, length, get_or, drop, map, refl, sym, ap, arith, Option, append_assoc, append-nil}
use Rattle.std.specs.Prelude.{pos, negsuc}
use Rattle.std.proofs.lemmas.List.{length-map, length-replicate, take_all, drop_all}
use Rattle.vx_model.specs.declared.cell.Cell.{Cell}
use Rattle.vx_model.specs.Words.{all_by}
use Rattle.vx_model.specs.CellData.{CellData, null_cell, bool_cell, int_cell, text_cell, bytes_cell, list_cell, struct_cell}
use Rattle.vx_model.specs.ChunkData.{is_code}
use Rattle.vx_model.specs.TreeView.{tree}
use Rattle.vx_model.proofs.Views.{view_rules}
use Rattle.vx_chunk_cells.proofs.Windows.{window-map}
use Rattle.vx_chunk_cells.proofs.CodeSteps.{tree_int, tree_null}
use Rattle.vx_column.specs.ColumnView.{place_of, is_below}
use Rattle.vx_column.proofs.Flat.{leaves_flags, strings_flags, leaves_elements, strings_elements, leaves_ends, strings_ends, leaves_real, strings_place}
use Rattle.vx_column.proofs.SizeLaws.{leaves_size, strings_size, strings_other}

-- a cell of a list of cells
pub tree_get : (cs : List Cell) (i : ℕ) (c : Cell) → i < length cs → c ≡ get_or cs i c → get_or (map tree cs) i null_cell ≡ tree c
tree_get [] i c lt is = absurd (omega (arith, lt))
tree_get (d ∷ cs) zero c lt is = ap tree (sym is)
tree_get (d ∷ cs) (suc i) c lt is = tree_get cs i c (omega (arith, lt)) is

code_place : (count : ℕ) (c : CellData) → is_code count c ≡ is_below count (place_of c)
code_place count null_cell = refl
code_place count (bool_cell b) = refl
code_place count (int_cell (pos n)) = refl
code_place count (int_cell (negsuc n)) = refl
code_place count (text_cell s) = refl
code_place count (bytes_cell s) = refl
code_place count (list_cell valid cs) = refl
code_place count (struct_cell valid cs) = refl

-- codes from row i on, at one more step
pub drop_places : (count : ℕ) (cs : List CellData) (i : ℕ) (p : Option ℕ) → i < length cs → p ≡ place_of (get_or cs i null_cell) → all_by (is_code count) (drop i cs) ≡ (is_below count p && all_by (is_code count) (drop (i + 1) cs))
drop_places count [] i p lt is = absurd (omega (arith, lt))
drop_places count (c ∷ cs) zero p lt is = rw (is, code_place count c) refl
drop_places count (c ∷ cs) (suc i) p lt is =
    let e : suc i + 1 ≡ suc (i + 1) = omega arith in
    rw e (drop_places count cs i p (omega (arith, lt)) is)

pub ruleset column_rules = (length-map, window-map, tree_get)

pub ruleset real_rules = (leaves_real)

pub ruleset cell_rules = (append_assoc, append-nil, length-map, window-map)

pub ruleset code_rules = (length-map, tree_get, drop_places, drop_all, strings_place, tree_int)

pub ruleset part_rules = (append_assoc, append-nil, length-map, length-replicate, leaves_flags, strings_flags, leaves_elements, strings_elements, leaves_ends, strings_ends)

pub ruleset size_rules = (length-map, window-map, leaves_size, strings_size, strings_other, tree_null, view_rules)
