-- Offsets and flags of some of the rows.
use Rattle.std.proofs.Common.{◌≡◌, ℕ, ◌+◌, ◌-◌, ◌<◌, ◌≤◌, get_or, min, List, [], ◌∷◌, ◌++◌, length, drop, refl, ap, arith, append_assoc, length-drop}
use Rattle.std.proofs.lemmas.List.{take_more, drop_more, append-nil, drop_min}
use Rattle.vx_chunk_cells.specs.Window.{window, rebased, counted}
use Rattle.vx_model.specs.Words.{tail}
use Rattle.vx_chunk_cells.proofs.Windows.{take_same}

pub rebased_more : (base : ℕ) (os : List ℕ) (o : ℕ) → rebased base os ++ (o - base) ∷ [] ≡ rebased base (os ++ o ∷ [])
rebased_more base [] o = refl
rebased_more base (p ∷ os) o = ap (λ r. (p - base) ∷ r) (rebased_more base os o)

pub ruleset rebase_rules = (append_assoc, append-nil, rebased_more, take_more)

-- a window that ends within the list
pub window_min : {X : Type 0} (from to : ℕ) (xs : List X) → from ≤ to → window (min from (min to (length xs))) (min to (length xs)) xs ≡ window from to xs
window_min from to xs le =
    let start : min from (min to (length xs)) ≡ min from (length xs) = omega arith in
    let count : min (min to (length xs) - min from (length xs)) (length (drop from xs)) ≡ min (to - from) (length (drop from xs)) = simp length-drop (omega arith) in
    rw (start, drop_min from xs, take_same (min to (length xs) - min from (length xs)) (to - from) (drop from xs) count) refl

pub ruleset window_rules = (window_min)

pub drop_counted : (base first : ℕ) (os : List ℕ) (i : ℕ) → i < length os → counted base first (drop i os) ≡ (base + (get_or os i 0 - first)) ∷ counted base first (drop (i + 1) os)
drop_counted base first os i lt = rw (drop_more os i 0 lt) refl

pub drop-one : {X : Type 0} (xs : List X) → drop 1 xs ≡ tail xs
drop-one [] = refl
drop-one (x ∷ xs) = refl

pub ruleset counted_rules = (append_assoc, append-nil, drop_counted, drop-one)
