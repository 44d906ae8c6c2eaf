-- Offsets behind a base.
use Rattle.std.proofs.Common.{◌≡◌, ℕ, ◌+◌, ◌<◌, ◌^◌, ◌&&◌, suc, Bool, true, false, List, [], ◌∷◌, length, map, refl, ap, ◌∙◌, arith, rules}
use Rattle.std.specs.Prelude.{ℤ}
use Rattle.std.proofs.lemmas.List.{map_push, map_more, take_all}
use Rattle.std.proofs.lemmas.Bool.{and_parts}
use Rattle.vx_model.specs.declared.cell.Cell as cl
use Rattle.vx_model.specs.Words.{all_by}
use Rattle.vx_model.specs.CellData.{CellData, int_cell, fits}
use Rattle.vx_model.specs.TreeView.{tree}
use Rattle.vx_layout_spec.specs.Parts.{elements_of, all_elements, ends}
use Rattle.vx_rules.specs.Columns.{offset_entries, offset_cell, offset_type}
use Rattle.vx_rules.proofs.ColumnStreams.{offsets_piece}
use Rattle.vx_split.specs.Offsets.{cell_behind, entries}

pub tree_int : (i : ℤ) → tree (cl.Int i) ≡ int_cell i
tree_int i = search (rules, cl.the_lemmas)

pub ruleset cell_rules = (map_push, map_more, take_all, tree_int)

-- where lists end, counted from further on
ends_behind : (base from : ℕ) (cs : List CellData) → map (cell_behind base) (ends from cs) ≡ map offset_cell (ends (base + from) cs)
ends_behind base from [] = refl
ends_behind base from (c ∷ cs) =
    let e : base + (from + length (elements_of c)) ≡ base + from + length (elements_of c) = omega arith in
    ap (λ (r : List CellData). offset_cell (base + (from + length (elements_of c))) ∷ r) (ends_behind base (from + length (elements_of c)) cs)
    ∙ ap (λ (k : ℕ). offset_cell k ∷ map offset_cell (ends k cs)) e

-- the offsets of a chunk that begin at 0, behind the base
pub entries_behind : (first : Bool) (base : ℕ) (cs : List CellData) → map (cell_behind base) (entries first (0 ∷ ends 0 cs)) ≡ map offset_cell (offset_entries first base cs)
entries_behind true base cs =
    let e : base + 0 ≡ base = omega arith in
    ap (λ (r : List CellData). offset_cell (base + 0) ∷ r) (ends_behind base 0 cs) ∙ ap (λ (k : ℕ). offset_cell k ∷ map offset_cell (ends k cs)) e
entries_behind false base cs =
    let e : base + 0 ≡ base = omega arith in
    ends_behind base 0 cs ∙ ap (λ (k : ℕ). map offset_cell (ends k cs)) e

pub entries_fit : (first : Bool) (base : ℕ) (cs : List CellData) → base + length (all_elements cs) < 2 ^ 64 → suc (length cs) < 2 ^ 64
    → all_by (fits offset_type) (map offset_cell (offset_entries first base cs)) ≡ true
entries_fit first base cs lt many = (and_parts (all_by (fits offset_type) (map offset_cell (offset_entries first base cs))) _ (offsets_piece first base cs lt many).whole.sound).0
