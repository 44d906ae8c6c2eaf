-- Rows of a column, lent one by one.
use Rattle.std.proofs.Common.{◌≡◌, ℕ, ◌+◌, ◌<◌, List, [], ◌∷◌, ◌++◌, map, length, drop, get_or, refl, sym, ap, ◌∙◌, append_assoc, append-nil}
use Rattle.std.proofs.lemmas.List.{drop_more, drop_all, map_push}
use Rattle.vx_model.specs.CellData.{CellData, null_cell}
use Rattle.vx_typed.specs.declared.lent.Lent.{Lent}
use Rattle.vx_typed.specs.Lent.{lent_cell}

-- one row more
pub row_more : (rows next : List Lent) (cs : List CellData) (i : ℕ) (x : Lent) → i < length cs → lent_cell x ≡ get_or cs i null_cell → next ≡ rows ++ x ∷ [] → map lent_cell rows ++ drop i cs ≡ cs → map lent_cell next ++ drop (i + 1) cs ≡ cs
row_more rows next cs i x lt is e h =
    ap (λ (r : List Lent). map lent_cell r ++ drop (i + 1) cs) e
    ∙ ap (λ (r : List CellData). r ++ drop (i + 1) cs) (map_push lent_cell rows x)
    ∙ append_assoc (map lent_cell rows) (lent_cell x ∷ []) (drop (i + 1) cs)
    ∙ ap (λ (r : List CellData). map lent_cell rows ++ r) (ap (λ (c : CellData). c ∷ drop (i + 1) cs) is ∙ sym (drop_more cs i null_cell lt))
    ∙ h

pub ruleset row_rules = (append-nil, drop_all)
