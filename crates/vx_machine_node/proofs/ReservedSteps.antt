-- What the parts of a task have reserved, by themselves and in plain data.
use Rattle.std.proofs.Common.{◌≡◌, ◌+◌, List, [], ◌∷◌, ◌++◌, map, ap, ◌∙◌, arith}
use Rattle.std.proofs.lemmas.List.{map-append}
use Rattle.vx_machine_node.specs.declared.item.Due.{Due}
use Rattle.vx_machine_node.specs.Ledger.{due_reserved, dues_reserved}
use Rattle.vx_machine_node.specs.Sizes.{sum_of}
use Rattle.vx_machine_node.proofs.GroupSizes.{sum_more}

-- ---- by parts

pub dues_more : (xs ys : List Due) → dues_reserved (xs ++ ys) ≡ dues_reserved xs + dues_reserved ys
dues_more xs ys = ap sum_of (map-append due_reserved xs ys) ∙ sum_more (map due_reserved xs) (map due_reserved ys)

pub dues_push : (all xs : List Due) (d : Due) → all ≡ xs ++ (d ∷ []) → dues_reserved all ≡ dues_reserved xs + due_reserved d
dues_push all xs d e = let r : dues_reserved (xs ++ (d ∷ [])) ≡ dues_reserved xs + (due_reserved d + 0) = dues_more xs (d ∷ []) in ap dues_reserved e ∙ omega (arith, r)
