-- Walks along slots, step by step.
use Rattle.std.proofs.Common.{◌≡◌, ℕ, zero, suc, ◌+◌, ◌-◌, ◌<◌, ◌≤◌, Bool, true, false, List, [], ◌∷◌, map, length, drop, get_or, Some, None, sym, ap, ◌∙◌, arith}
use Rattle.std.specs.Prelude.{if◌then◌else◌}
use Rattle.std.proofs.lemmas.List.{at_drop_more, at_drop_all}
use Rattle.vx_model.specs.CellData.{CellData}
use Rattle.vx_model.specs.ChunkData.{cell_at}
use Rattle.vx_model.specs.declared.cell.Cell.{Cell}
use Rattle.vx_model.specs.TreeView.{tree}
use Rattle.vx_rules.specs.Runs.{same_cell}
use Rattle.vx_slots.specs.Slots.{AreWithin, looked}

cell_read : (cells : List Cell) (p : ℕ) (x : Cell) → p < length cells → x ≡ get_or cells p x → cell_at (map tree cells) p ≡ tree x
cell_read [] p x l e = absurd (omega arith)
cell_read (y ∷ ys) zero x l e = ap tree (sym e)
cell_read (y ∷ ys) (suc p) x l e = cell_read ys p x (omega arith) e

look_full : (ds : List CellData) (c : CellData) (slot : ℕ) (slots : List ℕ) → 0 < slot
    → looked ds c (slot ∷ slots) ≡ (if same_cell (cell_at ds (slot - 1)) c then Some (slot - 1) else looked ds c slots)
look_full ds c zero slots l = absurd (omega arith)
look_full ds c (suc p) slots l = let e : suc p - 1 ≡ p = omega arith in ap (λ (q : ℕ). if same_cell (cell_at ds q) c then Some q else looked ds c slots) (sym e)

-- a slot that isn't empty, with the cell at its place
look_at : (cells : List Cell) (c : CellData) (slots : List ℕ) (i : ℕ) (x : Cell) → AreWithin (length cells) slots → i < length slots → 0 < get_or slots i 0 → x ≡ get_or cells (get_or slots i 0 - 1) x
    → looked (map tree cells) c (drop i slots) ≡ (if same_cell (tree x) c then Some (get_or slots i 0 - 1) else looked (map tree cells) c (drop (i + 1) slots))
look_at cells c slots i x w l some e =
    let n : get_or slots i 0 ≤ length cells = w i in
    at_drop_more (looked (map tree cells) c) slots i 0 l
    ∙ look_full (map tree cells) c (get_or slots i 0) (drop (i + 1) slots) some
    ∙ ap (λ (y : CellData). if same_cell y c then Some (get_or slots i 0 - 1) else looked (map tree cells) c (drop (i + 1) slots)) (cell_read cells (get_or slots i 0 - 1) x (omega arith) e)

pub look_empty : (ds : List CellData) (c : CellData) (slots : List ℕ) (i : ℕ) → i < length slots → get_or slots i 0 ≡ 0 → looked ds c (drop i slots) ≡ None
look_empty ds c slots i l z = at_drop_more (looked ds c) slots i 0 l ∙ ap (λ (n : ℕ). looked ds c (n ∷ drop (i + 1) slots)) z

pub look_found : (cells : List Cell) (c : CellData) (slots : List ℕ) (i : ℕ) (x : Cell) → AreWithin (length cells) slots → i < length slots → 0 < get_or slots i 0 → x ≡ get_or cells (get_or slots i 0 - 1) x
    → same_cell (tree x) c ≡ true → looked (map tree cells) c (drop i slots) ≡ Some (get_or slots i 0 - 1)
look_found cells c slots i x w l some e s =
    look_at cells c slots i x w l some e ∙ ap (λ (b : Bool). if b then Some (get_or slots i 0 - 1) else looked (map tree cells) c (drop (i + 1) slots)) s

pub look_on : (cells : List Cell) (c : CellData) (slots : List ℕ) (i : ℕ) (x : Cell) → AreWithin (length cells) slots → i < length slots → 0 < get_or slots i 0 → x ≡ get_or cells (get_or slots i 0 - 1) x
    → same_cell (tree x) c ≡ false → looked (map tree cells) c (drop i slots) ≡ looked (map tree cells) c (drop (i + 1) slots)
look_on cells c slots i x w l some e s =
    look_at cells c slots i x w l some e ∙ ap (λ (b : Bool). if b then Some (get_or slots i 0 - 1) else looked (map tree cells) c (drop (i + 1) slots)) s

pub look_end : (ds : List CellData) (c : CellData) (slots : List ℕ) (i : ℕ) → length slots ≤ i → looked ds c (drop i slots) ≡ None
look_end ds c slots i l = at_drop_all (looked ds c) slots i l

pub ruleset walk_rules = (look_empty, look_found, look_on, look_end)
