-- How many elements lists have.
use Rattle.std.proofs.Common.{◌≡◌, ℕ, zero, suc, ◌+◌, ◌*◌, ◌<◌, List, [], ◌∷◌, ◌++◌, length, take, get_or, map, refl, arith, length-append, append_assoc, append-nil}
use Rattle.std.specs.Prelude.{replicate}
use Rattle.std.proofs.lemmas.List.{take_more, map-append}
use Rattle.vx_model.specs.CellData.{CellData}
use Rattle.vx_model.specs.declared.cell.Cell.{Cell}
use Rattle.vx_model.specs.TreeView.{tree}
use Rattle.vx_layout_spec.specs.Parts.{elements_of, all_elements, ends}

pub all_elements-append : (cs ds : List CellData) → all_elements (cs ++ ds) ≡ all_elements cs ++ all_elements ds
all_elements-append [] ds = refl
all_elements-append (c ∷ cs) ds = rw (all_elements-append cs ds, append_assoc (elements_of c) (all_elements cs) (all_elements ds)) refl

pub count_more : (cs : List Cell) (i : ℕ) (c : Cell) → i < length cs → c ≡ get_or cs i c
    → length (all_elements (map tree (take (i + 1) cs))) ≡ length (all_elements (map tree (take i cs))) + length (elements_of (tree c))
count_more cs i c lt is =
    rw (take_more cs i c lt, ← is, map-append tree (take i cs) (c ∷ []), all_elements-append (map tree (take i cs)) (tree c ∷ []), append-nil (elements_of (tree c))) (length-append (all_elements (map tree (take i cs))) (elements_of (tree c)))

pub ends-append : (from : ℕ) (cs ds : List CellData) → ends from (cs ++ ds) ≡ ends from cs ++ ends (from + length (all_elements cs)) ds
ends-append from [] ds = let e : from + 0 ≡ from = omega arith in rw e refl
ends-append from (c ∷ cs) ds =
    let e : from + length (elements_of c ++ all_elements cs) ≡ from + length (elements_of c) + length (all_elements cs) = rw (length-append (elements_of c) (all_elements cs)) (omega arith) in
    rw (e, ends-append (from + length (elements_of c)) cs ds) refl

-- so many copies of a list
pub length-all_elements-replicate : (n : ℕ) (c : CellData) → length (all_elements (replicate n c)) ≡ length (elements_of c) * n
length-all_elements-replicate zero c = omega arith
length-all_elements-replicate (suc n) c = rw (length-append (elements_of c) (all_elements (replicate n c)), length-all_elements-replicate n c) (omega arith)

pub ruleset count_rules = (count_more)

pub ruleset copied_rules = (length-all_elements-replicate)
