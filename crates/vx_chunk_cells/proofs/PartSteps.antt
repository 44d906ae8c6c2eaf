-- Steps of taking lists and structs apart.
use Rattle.std.proofs.Common.{◌≡◌, ℕ, zero, suc, ◌+◌, ◌-◌, ◌<◌, ◌≤◌, Bool, true, List, [], ◌∷◌, ◌++◌, length, drop, get_or, map, refl, ap, sym, ◌∙◌, arith, append_assoc, rules, length-append, eqb-true, ◌&&◌}
use Rattle.std.specs.Prelude.{replicate}
use Rattle.std.proofs.lemmas.List.{map_push, map_more, drop_more, append-nil, length-map}
use Rattle.std.proofs.lemmas.Bool.{and_parts}
use Rattle.vx_model.specs.Words.{head_or, tail, all_by}
use Rattle.vx_model.specs.CellData.{CellData, null_cell, bool_cell, int_cell, text_cell, bytes_cell, list_cell, struct_cell, items}
use Rattle.vx_model.specs.declared.cell.Cell.{Cell}
use Rattle.vx_model.specs.declared.cell.Cell as cl
use Rattle.vx_model.specs.TreeView.{tree}
use Rattle.vx_model.proofs.CellViews.{items_trees_of, tree_list, tree_struct}
use Rattle.vx_chunk_cells.specs.Columns.{rows_across, pushed_each}
use Rattle.vx_chunk_cells.specs.Parts.{row_flags, fields_of, has_width}
use Rattle.vx_layout_spec.specs.Parts.{elements_of, all_elements, ends}
use Rattle.vx_chunk_cells.proofs.Steps.{replicate_push, column_more, pushed_each-nil}
use Rattle.vx_chunk_cells.proofs.RowWindows.{drop-tail}

pub tree_bool : (b : Bool) → tree (cl.Bool b) ≡ bool_cell b
tree_bool b = search (rules, cl.the_lemmas)

pub row_flags_push : (n : ℕ) (valid : List Bool) → row_flags n valid ++ head_or true (drop n valid) ∷ [] ≡ row_flags (n + 1) valid
row_flags_push zero valid = refl
row_flags_push (suc n) valid =
    let e : suc n + 1 ≡ suc (n + 1) = omega arith in
    rw (e, ← drop-tail n valid) (ap (λ r. head_or true valid ∷ r) (row_flags_push n (tail valid)))

pub replicate_more : {X : Type 0} (n i : ℕ) (x : X) → i < n → replicate (n - i) x ≡ x ∷ replicate (n - (i + 1)) x
replicate_more n i x lt = let e : n - i ≡ suc (n - (i + 1)) = omega arith in rw e refl

pub replicate_none : {X : Type 0} (n i : ℕ) (x : X) → n ≤ i → replicate (n - i) x ≡ []
replicate_none n i x le = let e : n - i ≡ 0 = omega arith in rw e refl

wide : (n : ℕ) (c : CellData) → has_width n c ≡ true → length (fields_of c) ≡ n
wide n (struct_cell valid cs) h = eqb-true (length (items cs)) n h
wide n null_cell h = cc
wide n (bool_cell b) h = cc
wide n (int_cell i) h = cc
wide n (text_cell s) h = cc
wide n (bytes_cell s) h = cc
wide n (list_cell valid cs) h = cc

pub drop_elements : (cs : List Cell) (i : ℕ) (c : Cell) → i < length cs → c ≡ get_or cs i c
    → all_elements (map tree (drop i cs)) ≡ elements_of (tree c) ++ all_elements (map tree (drop (i + 1) cs))
drop_elements cs i c lt is = rw (drop_more cs i c lt, ← is) refl

pub drop_ends : (from : ℕ) (cs : List Cell) (i : ℕ) (c : Cell) → i < length cs → c ≡ get_or cs i c
    → ends from (map tree (drop i cs)) ≡ (from + length (elements_of (tree c))) ∷ ends (from + length (elements_of (tree c))) (map tree (drop (i + 1) cs))
drop_ends from cs i c lt is = rw (drop_more cs i c lt, ← is) refl

-- one struct more, of the right width
pub width_more : (n : ℕ) (columns : List (List CellData)) (c : CellData) (cs rest : List CellData) → rest ≡ c ∷ cs → all_by (has_width n) rest ≡ true
    → (pushed_each (rows_across n columns) (fields_of c) ≡ rows_across n (columns ++ fields_of c ∷ [])) × (all_by (has_width n) cs ≡ true)
width_more n columns c cs rest e h =
    let both : (has_width n c && all_by (has_width n) cs) ≡ true = rw e at h in
    (column_more n columns (fields_of c) (wide n c (and_parts (has_width n c) (all_by (has_width n) cs) both).0), (and_parts (has_width n c) (all_by (has_width n) cs) both).1)

-- one copy of a list more
pub copies_more : (n i : ℕ) (c : CellData) (old new : List Cell) (offsets more : List ℕ) (es : List CellData) (os : List ℕ) → i < n → map tree new ≡ map tree old ++ elements_of c → more ≡ offsets ++ (length old + length (elements_of c)) ∷ []
    → map tree old ++ all_elements (replicate (n - i) c) ≡ es → offsets ++ ends (length old) (replicate (n - i) c) ≡ os
    → (map tree new ++ all_elements (replicate (n - (i + 1)) c) ≡ es) × (more ++ ends (length new) (replicate (n - (i + 1)) c) ≡ os)
copies_more n i c old new offsets more es os lt e o h k =
    let long : length new ≡ length old + length (elements_of c) =
    sym (length-map new tree) ∙ ap length e ∙ length-append (map tree old) (elements_of c) ∙ ap (λ m. m + length (elements_of c)) (length-map old tree) in (
      rw (e, append_assoc (map tree old) (elements_of c) (all_elements (replicate (n - (i + 1)) c))) (rw (replicate_more n i c lt) at h),
      rw (o, long, append_assoc offsets ((length old + length (elements_of c)) ∷ []) (ends (length old + length (elements_of c)) (replicate (n - (i + 1)) c))) (rw (replicate_more n i c lt) at k),
    )

pub ruleset part_rules = (append_assoc, append-nil, map_push, map_more, replicate_push, row_flags_push, drop_elements, drop_ends, replicate_more, replicate_none, items_trees_of, tree_bool, tree_list, tree_struct, pushed_each-nil, length-map)
