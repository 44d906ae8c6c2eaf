-- Dues that are added.
use Rattle.std.proofs.Common.{◌≡◌, ℕ, List, [], ◌∷◌, ◌++◌, length, ap, sym, ◌∙◌}
use Rattle.vx_machine_ids.specs.Stock.{Stock, none, both, id_stock, all_stock}
use Rattle.vx_machine_ids.proofs.Stocks.{all_push, both_none, none_both, both_assoc}
use Rattle.vx_machine_node.proofs.ListParts.{none_is}
use Rattle.vx_machine_node.specs.Stocks.{due_stock, dues_stock}
use Rattle.vx_machine_node.specs.declared.item.Due.{Due}

pub one_more : (xs ys : List Due) (d : Due) → ys ≡ xs ++ (d ∷ []) → dues_stock ys ≡ both (dues_stock xs) (due_stock d)
one_more xs ys d e = ap dues_stock e ∙ all_push due_stock xs d

-- one that holds nothing
pub one_free : (xs ys : List Due) (d : Due) → ys ≡ xs ++ (d ∷ []) → due_stock d ≡ none → dues_stock ys ≡ dues_stock xs
one_free xs ys d e n = one_more xs ys d e ∙ ap (both (dues_stock xs)) n ∙ both_none (dues_stock xs)

pub two_free : (xs ys zs : List Due) (d e : Due) → ys ≡ xs ++ (d ∷ []) → zs ≡ ys ++ (e ∷ []) → due_stock d ≡ none → due_stock e ≡ none → dues_stock zs ≡ dues_stock xs
two_free xs ys zs d e a b n m = one_free ys zs e b m ∙ one_free xs ys d a n

-- the last id goes to the first of the dues
pub put_stock : (ids rest : List (List ℕ)) (id : List ℕ) (xs ys : List Due) (d : Due) → ids ≡ rest ++ (id ∷ []) → ys ≡ d ∷ xs → due_stock d ≡ id_stock id
    → both (all_stock id_stock rest) (dues_stock ys) ≡ both (all_stock id_stock ids) (dues_stock xs)
put_stock ids rest id xs ys d a b e =
    let r : Stock = all_stock id_stock rest in
    let t : Stock = dues_stock xs in
    ap (λ z. both r (dues_stock z)) b ∙ ap (λ z. both r (both z t)) e ∙ sym (both_assoc r (id_stock id) t)
    ∙ ap (λ z. both z t) (sym (all_push id_stock rest id)) ∙ ap (λ z. both (all_stock id_stock z) t) (sym a)

pub all_put : (ids : List (List ℕ)) (t s : Stock) → length ids ≡ 0 → both (all_stock id_stock ids) t ≡ s → t ≡ s
all_put ids t s h e = sym (none_both t) ∙ ap (λ z. both (all_stock id_stock z) t) (sym (none_is ids h)) ∙ e
