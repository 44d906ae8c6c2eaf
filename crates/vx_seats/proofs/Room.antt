-- The number of a path that may be written.
use Rattle.std.proofs.Common.{◌≡◌, ℕ, ◌<◌, List, [], ◌∷◌, ◌++◌, length, Some, true, arith, length-append}
use Rattle.std.proofs.lemmas.List.{length-map}
use Rattle.vx_order_answer.specs.declared.receipt.Receipt.{Receipt}
use Rattle.vx_seats.specs.Turns.{IsNew}
use Rattle.vx_seats.specs.History.{Pair, bytes_for, all_listed, ascends, paths}
use Rattle.vx_seats.proofs.History.{ascends_push, listed_push}
use Rattle.vx_seats.proofs.Whole.{within}

pub room : (pairs : List Pair) (rs : List Receipt) (p b : List ℕ) → bytes_for pairs p ≡ Some b → IsNew (paths rs) p → ascends (paths rs) ≡ true → all_listed pairs (paths rs) ≡ true
    → length rs < length pairs
room pairs rs p b e new a l =
    omega (arith, within pairs (paths rs ++ p ∷ []) (ascends_push (paths rs) p new a) (listed_push pairs (paths rs) p b e l), length-append (paths rs) (p ∷ []), length-map rs (λ (r : Receipt). r.path))
